-- How many octets a sink in memory may hold.
use Rattle.std.proofs.Common.{◌≡◌, ◌+◌, ◌≤◌, ℕ, suc, true, false, List, [], ◌∷◌, ◌++◌, length, take, min, nat_le, arith}
use Rattle.std.specs.Prelude.{if◌then◌else◌}
use Rattle.std.specs.List.Sorted.{IsNonDecreasing}
use Rattle.std.proofs.Math.Seq.{take-append-add}
use Rattle.ht_io.specs.Writing.{nearest, unspent}

-- where the first failing offset is spent, the limit does not fall
nearest-rest : (first : ℕ) (rest : List ℕ) (capacity : ℕ) → IsNonDecreasing (first ∷ rest) → min first capacity ≤ nearest rest capacity
nearest-rest first [] capacity ascends = omega arith
nearest-rest first (second ∷ rest) capacity ascends =
    let next : first ≤ second = ascends 0 1 0 (omega arith) (omega arith) in omega arith

pub nearest-unspent : (failing : List ℕ) (capacity : ℕ) → IsNonDecreasing failing → nearest failing capacity ≤ nearest (unspent failing capacity) capacity
nearest-unspent [] capacity ascends = omega arith
nearest-unspent (first ∷ rest) capacity ascends =
    elim (nat_le first capacity) as (λ b. min first capacity ≤ nearest (if b then rest else first ∷ rest) capacity) [
      | true ↦ nearest-rest first rest capacity ascends
      | false ↦ omega arith
    ]

-- the failing offsets that are left ascend
ascends-rest : (first : ℕ) (rest : List ℕ) → IsNonDecreasing (first ∷ rest) → IsNonDecreasing rest
ascends-rest first rest ascends = λ i j d p q. ascends (suc i) (suc j) d (omega arith) (omega arith)

pub ascends-unspent : (failing : List ℕ) (capacity : ℕ) → IsNonDecreasing failing → IsNonDecreasing (unspent failing capacity)
ascends-unspent [] capacity ascends = ascends
ascends-unspent (first ∷ rest) capacity ascends =
    elim (nat_le first capacity) as (λ b. IsNonDecreasing (if b then rest else first ∷ rest)) [
      | true ↦ ascends-rest first rest ascends
      | false ↦ ascends
    ]

-- what is held and the front of the piece are the front of both
pub take-held : (held piece : List ℕ) (limit room : ℕ) → length held + room ≡ limit → take limit (held ++ piece) ≡ held ++ take room piece
take-held held piece limit room is = rw (← is) (take-append-add held piece room)
