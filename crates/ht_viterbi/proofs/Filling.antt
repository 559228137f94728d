-- One state more of a step: its cost is written, and its flag.
use Rattle.std.proofs.Common.{◌≡◌, ◌≢◌, ◌↔◌, ◌∙◌, inl, inr, ℕ, ◌+◌, ◌<◌, ◌≤◌, List, Bool, true, ap, sym, subst, arith, length, set, slice_index}
use Rattle.std.proofs.lemmas.Bool.{cases_lt}
use Rattle.std.proofs.lemmas.List.{get_or-set_same, get_or-set_other}
use Rattle.std.specs.Int.{bit_at}

pub costs_more : (f : ℕ → ℕ) (xs : List ℕ) (i x : ℕ) → i < length xs → x ≡ f i → ((k : ℕ) → k < i → slice_index xs k ≡ f k)
    → (k : ℕ) → k < i + 1 → slice_index (set xs i x) k ≡ f k
costs_more f xs i x room here before k below = elim (cases_lt k i) [
  | inl less ↦ get_or-set_other xs i k x 0 (λ e. omega arith) ∙ before k less
  | inr more ↦
      let e : k ≡ i = omega arith in
      ap (λ (m : ℕ). slice_index (set xs i x) m) e ∙ get_or-set_same xs i x 0 room ∙ here ∙ ap f (sym e)
]

module _ (f : ℕ → Bool) (was now i : ℕ) (others : (k : ℕ) → k ≢ i → bit_at now k ≡ bit_at was k) where
  pub flags_more : (flag : Bool) → flag ≡ f i → (bit_at now i ≡ 1) ↔ (flag ≡ true) → ((k : ℕ) → k < i → (bit_at was k ≡ 1) ↔ (f k ≡ true))
      → (k : ℕ) → k < i + 1 → (bit_at now k ≡ 1) ↔ (f k ≡ true)
  flags_more flag is here before k below = elim (cases_lt k i) [
    | inl less ↦ subst (λ (n : ℕ). (n ≡ 1) ↔ (f k ≡ true)) (sym (others k (λ e. omega arith))) (before k less)
    | inr more ↦
        let e : i ≡ k = omega arith in
        subst (λ (m : ℕ). (bit_at now m ≡ 1) ↔ (f m ≡ true)) e (subst (λ (b : Bool). (bit_at now i ≡ 1) ↔ (b ≡ true)) is here)
  ]

  pub none_later : ((k : ℕ) → i ≤ k → bit_at was k ≡ 0) → (k : ℕ) → i + 1 ≤ k → bit_at now k ≡ 0
  none_later before k above = others k (λ e. omega arith) ∙ before k (omega arith)
