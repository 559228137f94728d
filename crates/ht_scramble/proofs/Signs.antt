-- The table of signs is the polarity, by computation.
use Rattle.std.proofs.Common.{◌≡◌, ℕ, ◌%◌, ◌<◌, Bool, true, false, pos, unsigned_abs, map, slice_index_or, refl, ap, sym, ◌∙◌, arith, to_z, of_z, w8}
use Rattle.std.specs.List.{range_with_len}
use Rattle.std.proofs.lemmas.List.FromFn.{get_or-map-range_with_len}
use mathlib.Core.Bool.{xor}
use Rattle.ht_scramble.proofs.Period.{sequence-rest}
use Rattle.ht_scramble.specs.Sequence.{delayed, sequence, sign, polarity_at}
use Rattle.ht_scramble.specs.declared.polarity_signs.TheConstants.{SIGNS}

table : map polarity_at (range_with_len 0 127) ≡ SIGNS
unfolding xor polarity_at sequence delayed
table = refl

narrow : (b : Bool) → to_z w8 (of_z w8 (sign b)) ≡ sign b
narrow false = refl
narrow true = refl

polarity_at-narrow : (t : ℕ) → to_z w8 (of_z w8 (polarity_at t)) ≡ polarity_at t
unfolding polarity_at
polarity_at-narrow t = narrow (sequence 127 t)

pub sign-at : (k : ℕ) → k < 127 → to_z w8 (of_z w8 (slice_index_or SIGNS k (pos 0))) ≡ polarity_at k
sign-at k lt =
    let e : slice_index_or SIGNS k (pos 0) ≡ polarity_at k =
    ap (λ xs. slice_index_or xs k (pos 0)) (sym table) ∙ get_or-map-range_with_len polarity_at 0 127 k k (pos 0) lt (omega arith) in
    ap (λ z. to_z w8 (of_z w8 z)) e ∙ polarity_at-narrow k

pub polarity_at-rest : (n : ℕ) → polarity_at (n % 127) ≡ polarity_at n
unfolding polarity_at
polarity_at-rest n = ap sign (sequence-rest 127 n)

unsigned_abs-sign : (b : Bool) → unsigned_abs (sign b) ≡ 1
unsigned_abs-sign false = refl
unsigned_abs-sign true = refl

pub unsigned_abs-polarity_at : (n : ℕ) → unsigned_abs (polarity_at n) ≡ 1
unfolding polarity_at
unsigned_abs-polarity_at n = unsigned_abs-sign (sequence 127 n)
