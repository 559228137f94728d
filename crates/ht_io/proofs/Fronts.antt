-- What a read from memory leaves.
use Rattle.std.proofs.Common.{◌≡◌, ◌+◌, ◌<◌, ◌≤◌, ◌↔◌, ℕ, List, [], length, take, drop, ◌++◌, slice_range, ap, ◌∙◌, sym, arith}
use Rattle.std.proofs.Math.Seq.{take-append_seam}
use Rattle.std.proofs.lemmas.List.Folds.{drop_split}

-- octets in the middle of the bytes are the front of what is left there
pub reads_front : (bytes piece rest : List ℕ) (at n : ℕ) → length piece ≡ n → piece ≡ slice_range bytes at (at + n)
    → drop at bytes ≡ take n (piece ++ rest) ++ drop (at + n) bytes
reads_front bytes piece rest at n len is =
    drop_split bytes at (at + n) (omega arith) ∙ ap (λ p. p ++ drop (at + n) bytes) (sym is ∙ sym (rw (← len) (take-append_seam piece rest)))

-- a read of some octets is not at the end
pub not_ended : (count : ℕ) (left : List ℕ) → 0 < count → count ≤ length left → (count ≡ 0) ↔ (left ≡ [])
not_ended count left some within = (
  λ zero. absurd (omega (arith, zero, some)),
  λ none. let empty = ap (λ (l : List ℕ). length l) none in absurd (omega (arith, empty, some, within)),
)
