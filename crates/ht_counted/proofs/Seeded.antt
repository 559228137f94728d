-- Which octets are seeds, and how the octets of a PSDU are read.
use Rattle.std.proofs.Common.{◌≡◌, inl, inr, ℕ, ◌+◌, List, [], ◌∷◌, ◌++◌, length, take, nat_eq, nat_lt, Bool, ◌||◌, false, ap, ◌∙◌, arith}
use Rattle.std.proofs.lemmas.Bool.Decides.{nat_tests}
use Rattle.std.proofs.lemmas.List.{append-nil}
use Rattle.std.proofs.Math.Seq.{take-append-add}
use Rattle.ht_io.specs.Devices.{Device, Takes, IsLater}
use Rattle.ht_io.specs.declared.faults.InFault.{InFault}
use Rattle.ht_fields.specs.Grammar.{Grammar}
use Rattle.ht_fields.specs.Readers.{reader_in}
use Rattle.ht_fields.specs.Tests.{octet_of}
use Rattle.ht_fields.specs.WholeFiles.{EndsEarly}
use Rattle.ht_fields.proofs.Endings.{halts_ends, memory_ends, route_ends}
use Rattle.ht_fields.proofs.Halting.{lacks_halts}
use Rattle.ht_fields.proofs.Readers.{HasWidth}
use Rattle.ht_fields.proofs.Routes.{Route}
use Rattle.ht_scramble.specs.Sequence.{IsSeed}
use Rattle.ht_counted.specs.Seeds.{LacksOctets, is_no_seed}
use Rattle.ht_counted.proofs.Passing.{at_most, neither, not_none}

pub seed_passes : (seed : ℕ) → IsSeed seed → is_no_seed (seed ∷ []) ≡ false
seed_passes seed is =
    let a : nat_eq seed 0 ≡ false = grind (arith, nat_tests) in
    let b : nat_lt 127 seed ≡ false = grind (arith, nat_tests) in
    ap (λ (c : Bool). c || nat_lt 127 seed) a ∙ b

pub seed_passed : (x : List ℕ) → is_no_seed x ≡ false → IsSeed (octet_of x)
seed_passed x none =
    let parts = neither (nat_eq (octet_of x) 0) (nat_lt 127 (octet_of x)) none in
    (not_none (octet_of x) parts.0, at_most 127 (octet_of x) parts.1)

-- octets that were not read
lacks_end : {S I : Type 0} (f : Grammar S I) (s : S) (at count : ℕ) (source after : Device ℕ) (fault : InFault)
    → HasWidth (f.due s) count → LacksOctets count at source after fault → EndsEarly (reader_in f s at source) after fault
lacks_end f s at count source after fault wide (inl memory) = memory_ends (reader_in f s at source) after fault memory
lacks_end f s at count source after fault wide (inr lacks) =
    halts_ends (reader_in f s at source) after fault (lacks_halts f s at count source after fault wide lacks)

-- nor were they behind what leads there
pub octets_end : {S I : Type 0} (f : Grammar S I) (s t : S) (front : List ℕ) (at behind count : ℕ) (source between after : Device ℕ) (fault : InFault)
    → Route f s t front [] → HasWidth (f.due t) count → behind ≡ at + length front → Takes source between front → IsLater source between
    → LacksOctets count behind between after fault → EndsEarly (reader_in f s at source) after fault
octets_end f s t front at behind count source between after fault route wide place taken later lacks =
    route_ends f s t front [] at behind source between after fault route place taken later (lacks_end f t behind count between after fault wide lacks)

-- octets that filled their buffer
pub filled : (n : ℕ) (into rest : List ℕ) → n ≡ length into → take n (into ++ rest) ≡ into
filled n into rest wide =
    let all : n ≡ length into + 0 = omega (arith, wide) in
    ap (λ k. take k (into ++ rest)) all ∙ (take-append-add into rest 0 ∙ append-nil into)
