-- Octets that were taken at once: those of good fields, and behind them what stops the reading.
use Rattle.std.proofs.Common.{◌≡◌, inl, inr, ℕ, ◌+◌, List, [], ◌++◌, length, Option, Some, refl, sym, ap, subst, ◌∙◌, append_assoc, length-append, arith}
use Rattle.ht_io.specs.Devices.{Device, Takes, TakesAll, Rose}
use Rattle.ht_io.specs.declared.faults.Kind.{Kind}
use Rattle.ht_io.specs.declared.faults.Kind.TheVariants.{Truncated}
use Rattle.ht_io.specs.declared.faults.FormatFault.{FormatFault}
use Rattle.ht_io.specs.declared.faults.InFault.TheVariants.{Format, Read}
use Rattle.ht_fields.specs.Grammar.{Grammar, Bad}
use Rattle.ht_fields.specs.Cases.{IsField, IsShort}
use Rattle.ht_fields.specs.Meanings.{Meaning, before, meaning}
use Rattle.ht_fields.specs.Readers.{reader_in, IsEarly}
use Rattle.ht_fields.specs.WholeFiles.{EndsEarly}
use Rattle.ht_fields.proofs.Routes.{Route}
use Rattle.ht_fields.proofs.Steps.{bad_field, early_end, good_fields}

-- what octets mean that lead through good fields, and more
pub route_means : {S I : Type 0} (f : Grammar S I) (s t : S) (octets rest : List ℕ) (items : List I) (at : ℕ) → Route f s t octets items
    → meaning f s at (octets ++ rest) ≡ before items (meaning f t (at + length octets) rest)
route_means f s t octets rest items at r =
    ap (λ (z : List ℕ). meaning f s at (z ++ rest)) r.split
    ∙ (good_fields f s t at r.fields items rest r.good
    ∙ ap (λ (n : ℕ). before items (meaning f t n rest)) (ap (λ (z : List ℕ). at + length z) (sym r.split)))

-- behind them comes a bad field, and maybe more
pub block_refused : {S I : Type 0} (f : Grammar S I) (s t : S) (front bad rest : List ℕ) (at : ℕ) (kind : Kind) (source after : Device ℕ)
    → Route f s t front [] → IsField (f.due t) bad (Bad kind) → Takes source after (front ++ (bad ++ rest))
    → EndsEarly (reader_in f s at source) after (Format (record { kind = kind; offset = at + length front }))
block_refused {I = I} f s t front bad rest at kind source after r wrong taken = (
  front ++ (bad ++ rest),
  inl (
    taken,
    λ more.
        ap (λ (z : List ℕ). (meaning f s at z).fault)
        (append_assoc front (bad ++ rest) more ∙ ap (λ (z : List ℕ). front ++ z) (append_assoc bad rest more))
        ∙ ap (λ (m : Meaning I). m.fault)
        (route_means f s t front (bad ++ (rest ++ more)) [] at r
        ∙ ap (before []) (bad_field f t (at + length front) bad (rest ++ more) kind wrong)),
  ),
)

short_means : {S I : Type 0} (f : Grammar S I) (s t : S) (front rest : List ℕ) (at : ℕ) → Route f s t front [] → IsShort (f.due t) rest
    → (meaning f s at (front ++ rest)).fault ≡ Some (record { kind = Truncated; offset = at + length (front ++ rest) })
short_means {I = I} f s t front rest at r short =
    let place : at + length front + length rest ≡ at + length (front ++ rest) = omega (arith, length-append front rest) in
    ap (λ (m : Meaning I). m.fault)
    (route_means f s t front rest [] at r ∙ ap (before []) (early_end f t (at + length front) rest short))
    ∙ ap (λ (n : ℕ). let z : Option FormatFault = Some (record { kind = Truncated; offset = n }) in z) place

-- the input ended within the next field
pub block_ended : {S I : Type 0} (f : Grammar S I) (s t : S) (front rest : List ℕ) (at : ℕ) (source after : Device ℕ)
    → Route f s t front [] → IsShort (f.due t) rest → TakesAll source after (front ++ rest)
    → EndsEarly (reader_in f s at source) after (Format (record { kind = Truncated; offset = at + length (front ++ rest) }))
block_ended f s t front rest at source after r short taken = (front ++ rest, inr (taken, short_means f s t front rest at r short))

-- the source failed within the next field
pub block_broke : {S I : Type 0} (f : Grammar S I) (s t : S) (front rest : List ℕ) (at : ℕ) (source after : Device ℕ)
    → Route f s t front [] → IsShort (f.due t) rest → Takes source after (front ++ rest) → Rose source after
    → EndsEarly (reader_in f s at source) after Read
block_broke f s t front rest at source after r short taken rose = (
  rose,
  (
    front ++ rest,
    taken,
    subst (λ (z : Option FormatFault). IsEarly (at + length (front ++ rest)) z) (sym (short_means f s t front rest at r short)) refl,
  ),
)
