-- A label by its bits, the first one the most significant.
use Rattle.std.proofs.Common.{◌≡◌, ℕ, zero, suc, ◌+◌, ◌-◌, ◌*◌, ◌/◌, ◌%◌, ◌^◌, ◌<◌, ◌≤◌, ◌==◌, List, drop, slice_range}
use Rattle.std.proofs.Common.{length, Bool, true, false, get_or, refl, ap, sym, ◌∙◌, subst, arith, inl, inr, w8, to_z, of_z}
use Rattle.std.specs.Prelude.{ℤ, pos, negsuc, unsigned_abs}
use Rattle.std.specs.Int.{bit_at, from_bool}
use Rattle.std.proofs.lemmas.Bool.{cases_lt}
use Rattle.std.proofs.lemmas.Grind.{pow_more}
use Rattle.std.proofs.lemmas.List.{length-take, length-drop, get_or-take, get_or-drop}
use Rattle.std.proofs.lemmas.Nat.Bits.{bit_at-suc, bit_at_lowest}
use Rattle.ht_data.specs.Labels.{written}

-- six bits or fewer
pub small : (k n : ℕ) → k < 6 → n < 2 ^ k → n < 64
small zero n lt h = omega arith
small (suc zero) n lt h = omega arith
small (suc (suc zero)) n lt h = omega arith
small (suc (suc (suc zero))) n lt h = omega arith
small (suc (suc (suc (suc zero)))) n lt h = omega arith
small (suc (suc (suc (suc (suc zero))))) n lt h = omega arith
small (suc (suc (suc (suc (suc (suc k)))))) n lt h = absurd (omega arith)

-- one bit more
pub written-more : (bits : ℕ → Bool) (k label next : ℕ) (bit : Bool) → next ≡ 2 * label + from_bool bit → bit ≡ bits k → label ≡ written bits k
    → next ≡ written bits (k + 1)
written-more bits k label next bit is_next is_bit is =
    let on : k + 1 ≡ suc k = omega arith in
    is_next ∙ ap (λ (x : ℕ). 2 * x + from_bool bit) is ∙ ap (λ (b : Bool). 2 * written bits k + from_bool b) is_bit ∙ sym (ap (written bits) on)

below-more : (label k : ℕ) (bit : Bool) → label < 2 ^ k → 2 * label + from_bool bit < 2 ^ (k + 1)
below-more label k false h = omega (arith, pow_more 2 k)
below-more label k true h = omega (arith, pow_more 2 k)

pub written-below : (bits : ℕ → Bool) (k : ℕ) → written bits k < 2 ^ k
written-below bits zero = omega arith
written-below bits (suc k) =
    let more : k + 1 ≡ suc k = omega arith in
    subst (λ (n : ℕ). written bits (suc k) < 2 ^ n) more (below-more (written bits k) k (bits k) (written-below bits k))

half : (bit : Bool) (label : ℕ) → (2 * label + from_bool bit) / 2 ≡ label
half false label = omega arith
half true label = omega arith

lowest : (bit : Bool) (label : ℕ) → ((2 * label + from_bool bit) % 2 == 1) ≡ bit
lowest false label = let e : (2 * label + 0) % 2 ≡ 0 = omega arith in ap (λ (n : ℕ). n == 1) e
lowest true label = let e : (2 * label + 1) % 2 ≡ 1 = omega arith in ap (λ (n : ℕ). n == 1) e

-- the first bit is the most significant
pub written-bit : (bits : ℕ → Bool) (k e : ℕ) → e < k → (bit_at (written bits k) (k - 1 - e) == 1) ≡ bits e
written-bit bits zero e lt = absurd (omega arith)
written-bit bits (suc k) e lt = elim (cases_lt e k) [
  | inl earlier ↦
      let place : suc k - 1 - e ≡ suc (k - 1 - e) = omega arith in
      ap (λ (n : ℕ). bit_at (written bits (suc k)) n == 1) place
      ∙ ap (λ (n : ℕ). n == 1) (bit_at-suc (written bits (suc k)) (k - 1 - e))
      ∙ ap (λ (n : ℕ). bit_at n (k - 1 - e) == 1) (half (bits k) (written bits k))
      ∙ written-bit bits k e earlier
  | inr late ↦
      let same : e ≡ k = omega arith in
      let place : suc k - 1 - e ≡ 0 = omega arith in
      ap (λ (n : ℕ). bit_at (written bits (suc k)) n == 1) place
      ∙ ap (λ (n : ℕ). n == 1) (bit_at_lowest (written bits (suc k)))
      ∙ lowest (bits k) (written bits k)
      ∙ ap bits (sym same)
]

pub written-same : (f g : ℕ → Bool) (n : ℕ) → ((e : ℕ) → e < n → f e ≡ g e) → written f n ≡ written g n
written-same f g zero same = refl
written-same f g (suc n) same =
    ap (λ (x : ℕ). 2 * x + from_bool (f n)) (written-same f g n (λ e lt. same e (omega arith)))
    ∙ ap (λ (b : Bool). 2 * written g n + from_bool b) (same n (omega arith))

-- the places of a label among those of a symbol
pub part-length : (xs : List ℕ) (place count : ℕ) → place + count ≤ length xs → length (slice_range xs place (place + count)) ≡ count
part-length xs place count le = omega (arith, length-take (place + count - place) (drop place xs), length-drop place xs)

pub part-get : (xs : List ℕ) (place count e : ℕ) → e < count → get_or (slice_range xs place (place + count)) e 0 ≡ get_or xs (place + e) 0
part-get xs place count e lt =
    get_or-take (place + count - place) (drop place xs) e 0 (omega arith) ∙ get_or-drop place xs e 0

-- the value of a pilot is a level
pub unit-fits : (v : ℤ) → unsigned_abs v ≡ 1 → to_z w8 (of_z w8 v) ≡ v
unit-fits (pos zero) e = absurd (omega arith)
unit-fits (pos (suc zero)) e = refl
unit-fits (pos (suc (suc n))) e = absurd (omega arith)
unit-fits (negsuc zero) e = refl
unit-fits (negsuc (suc n)) e = absurd (omega arith)
