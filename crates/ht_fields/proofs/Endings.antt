-- How the reading of a whole file ends, in any format.
use Rattle.std.proofs.Common.{◌≡◌, inl, inr, ℕ, ◌+◌, List, [], ◌++◌, length, Option, sym, ap, subst, ◌∙◌, append_assoc, length-append, arith}
use Rattle.ht_io.specs.Devices.{Device, Takes, IsLater}
use Rattle.ht_io.proofs.Calls.{takes-append, takes-all, failed-later}
use Rattle.ht_io.specs.declared.faults.FormatFault.{FormatFault}
use Rattle.ht_io.specs.declared.faults.InFault.{InFault}
use Rattle.ht_io.specs.declared.faults.InFault.TheVariants.{Format, Read, NoMemory}
use Rattle.ht_fields.specs.Grammar.{Grammar}
use Rattle.ht_fields.specs.Meanings.{Meaning}
use Rattle.ht_fields.specs.Readers.{ReaderView, reader_in, Gives, IsEarly}
use Rattle.ht_fields.specs.WholeFiles.{EndsEarly, GivesFields, StopsWithCause, HasFirstFault, IsCleanSoFar}
use Rattle.ht_fields.proofs.Joins.{gives_none, gives_more}
use Rattle.ht_fields.proofs.Routes.{Route, route_gives}

-- what stops a reader ends the reading
pub halts_ends : {I : Type 0} (old : ReaderView I) (after : Device ℕ) (fault : InFault) → StopsWithCause old after fault → EndsEarly old after fault
halts_ends {I = I} old after (Format fault) (inl r, cause) = (r.taken, inl (r.octets, λ rest. ap (λ (m : Meaning I). m.fault) (r.means rest)))
halts_ends {I = I} old after (Format fault) (inr r, cause) = (r.taken, inr (r.octets, ap (λ (m : Meaning I). m.fault) r.means))
halts_ends old after Read (r, cause) = (cause, (r.taken, r.octets, r.early))
halts_ends old after NoMemory h = tt

fault_behind : {I : Type 0} (old mid : ReaderView I) (items : List I) (g : Gives old mid items) (taken : List ℕ)
    → (old.means (g.taken ++ taken)).fault ≡ (mid.means taken).fault
fault_behind {I = I} old mid items g taken = ap (λ (m : Meaning I). m.fault) (g.means taken)

first_behind : {I : Type 0} (old mid : ReaderView I) (after : Device ℕ) (fault : FormatFault)
    → GivesFields old mid → HasFirstFault mid after fault → HasFirstFault old after fault
first_behind old mid after fault (items, g) (taken, inl (octets, is)) = (
  g.taken ++ taken,
  inl (
    takes-append old.source mid.source after g.taken taken g.octets octets,
    λ rest. ap (λ (z : List ℕ). (old.means z).fault) (append_assoc g.taken taken rest) ∙ (fault_behind old mid items g (taken ++ rest) ∙ is rest),
  ),
)
first_behind old mid after fault (items, g) (taken, inr (octets, is)) =
    (g.taken ++ taken, inr (takes-all old.source mid.source after g.taken taken g.octets octets, fault_behind old mid items g taken ∙ is))

clean_behind : {I : Type 0} (old mid : ReaderView I) (after : Device ℕ) → GivesFields old mid → IsCleanSoFar mid after → IsCleanSoFar old after
clean_behind old mid after (items, g) (taken, octets, early) =
    let place : mid.at + length taken ≡ old.at + length (g.taken ++ taken) = omega (arith, g.place, length-append g.taken taken) in (
      g.taken ++ taken,
      takes-append old.source mid.source after g.taken taken g.octets octets,
      subst (λ (f : Option FormatFault). IsEarly (old.at + length (g.taken ++ taken)) f)
          (sym (fault_behind old mid items g taken)) (subst (λ (n : ℕ). IsEarly n (mid.means taken).fault) place early),
    )

-- what ends the reading behind good fields ends it before them
pub given_ends : {I : Type 0} (old mid : ReaderView I) (after : Device ℕ) (fault : InFault)
    → GivesFields old mid → IsLater old.source mid.source → EndsEarly mid after fault → EndsEarly old after fault
given_ends old mid after (Format fault) g later e = first_behind old mid after fault g e
given_ends old mid after Read g later (rose, clean) =
    (failed-later old.source mid.source after later rose, clean_behind old mid after g clean)
given_ends old mid after NoMemory g later e = tt

pub given_none : {I : Type 0} (old : ReaderView I) → GivesFields old old
given_none old = ([], gives_none old)

pub given_more : {I : Type 0} (old mid new : ReaderView I) → GivesFields old mid → GivesFields mid new → GivesFields old new
given_more old mid new (items, g) (more, h) = (items ++ more, gives_more old mid new items more g h)

-- lack of memory ends it anywhere
pub memory_ends : {I : Type 0} (old : ReaderView I) (after : Device ℕ) (fault : InFault) → fault ≡ NoMemory → EndsEarly old after fault
memory_ends old after fault is = subst (λ (f : InFault). EndsEarly old after f) (sym is) tt

-- what ends the reading behind fields that lead there ends it before them
pub route_ends : {S I : Type 0} (f : Grammar S I) (s t : S) (octets : List ℕ) (items : List I) (at behind : ℕ) (source mid after : Device ℕ) (fault : InFault)
    → Route f s t octets items → behind ≡ at + length octets → Takes source mid octets → IsLater source mid
    → EndsEarly (reader_in f t behind mid) after fault → EndsEarly (reader_in f s at source) after fault
route_ends f s t octets items at behind source mid after fault r place front later e =
    given_ends (reader_in f s at source) (reader_in f t behind mid) after fault
    (items, route_gives f s t octets items at behind source mid r place front) later e
