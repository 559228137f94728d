-- A field that is read in pieces.
use Rattle.std.proofs.Common.{◌≡◌, ◌⊎◌, inl, inr, ℕ, ◌+◌, ◌-◌, ◌<◌, ◌≤◌, List, ◌++◌, length, take, replicate, sym, ap, subst, ◌∙◌, length-append, arith}
use Rattle.std.proofs.lemmas.List.{append-nil, length-replicate, length-take-le}
use Rattle.std.proofs.Math.Seq.{take-append-add}
use Rattle.ht_io.specs.Devices.{Device, Takes, TakesAll, Rose, IsLater}
use Rattle.ht_io.specs.declared.faults.FormatFault.{FormatFault}
use Rattle.ht_io.specs.declared.faults.Kind.TheVariants.{Truncated}
use Rattle.ht_io.specs.declared.faults.InFault.{InFault}
use Rattle.ht_io.specs.declared.faults.InFault.TheVariants.{Format, Read, NoMemory}
use Rattle.ht_io.proofs.Calls.{failed-later, takes-all, takes-append}
use Rattle.ht_fields.specs.Lacking.{LacksField}

-- of a field of this width these octets came
padded : ℕ → List ℕ → List ℕ
padded width came = came ++ replicate (width - length came) 0

padded-width : (width : ℕ) (came : List ℕ) → length came < width → length (padded width came) ≡ width
unfolding padded
padded-width width came few = omega (arith, few, length-append came (replicate (width - length came) 0), length-replicate {A = ℕ} (width - length came) 0)

padded-front : (width : ℕ) (came : List ℕ) → take (length came) (padded width came) ≡ came
unfolding padded
padded-front width came =
    let all : length came ≡ length came + 0 = omega arith in
    ap (λ n. take n (came ++ replicate (width - length came) 0)) all ∙ (take-append-add came (replicate (width - length came) 0) 0 ∙ append-nil came)

-- the octets in front came, and of the next piece these
lacks_ended : (width at : ℕ) (front came : List ℕ) (a b z : Device ℕ) (fault : FormatFault) → length (front ++ came) < width
    → Takes a b front → TakesAll b z came → fault ≡ record { kind = Truncated; offset = at + length (front ++ came) }
    → LacksField width at a z (Format fault)
lacks_ended width at front came a b z fault few taken rest is =
    let whole = front ++ came in (
      padded width whole,
      length whole,
      padded-width width whole few,
      (
        omega (arith, few, padded-width width whole few),
        subst (λ (o : List ℕ). TakesAll a z o) (sym (padded-front width whole)) (takes-all a b z front came taken rest),
      ),
      is,
    )

lacks_broken : (width at : ℕ) (front came : List ℕ) (a b z : Device ℕ) → length (front ++ came) < width
    → Takes a b front → Takes b z came → Rose a z → LacksField width at a z Read
lacks_broken width at front came a b z few taken rest rose =
    let whole = front ++ came in (
      (
        padded width whole,
        padded-width width whole few,
        (
          length whole,
          omega (arith, few, padded-width width whole few),
          subst (λ (o : List ℕ). Takes a z o) (sym (padded-front width whole)) (takes-append a b z front came taken rest),
        ),
      ),
      rose,
    )

-- what a piece lacks behind the front, the field lacks
pub piece_lacks : (width at count : ℕ) (front : List ℕ) (a b z : Device ℕ) (fault : InFault) → length front + count ≤ width
    → Takes a b front → IsLater a b → (fault ≡ NoMemory) ⊎ LacksField count (at + length front) b z fault
    → (fault ≡ NoMemory) ⊎ LacksField width at a z fault
piece_lacks width at count front a b z fault few taken later (inl none) = inl none
piece_lacks width at count front a b z (Format fault) few taken later (inr (into, n, len, reads, is)) =
    let came = take n into in
    let size : length came ≡ n = length-take-le n into (omega (arith, reads.0)) in
    let whole : length (front ++ came) ≡ length front + n = length-append front came ∙ ap (λ k. length front + k) size in
    let place : at + length front + n ≡ at + length (front ++ came) = omega (arith, whole) in
    inr (lacks_ended width at front came a b z fault (omega (arith, whole, few, len, reads.0)) taken reads.1
    (is ∙ ap (λ (k : ℕ). let f : FormatFault = record { kind = Truncated; offset = k } in f) place))
piece_lacks width at count front a b z Read few taken later (inr ((into, len, (n, short, rest)), rose)) =
    let came = take n into in
    let size : length came ≡ n = length-take-le n into (omega (arith, short)) in
    let whole : length (front ++ came) ≡ length front + n = length-append front came ∙ ap (λ k. length front + k) size in
    inr (lacks_broken width at front came a b z (omega (arith, whole, few, len, short)) taken rest (failed-later a b z later rose))
piece_lacks width at count front a b z NoMemory few taken later (inr l) = absurd l
