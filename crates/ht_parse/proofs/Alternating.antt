-- Two lists whose bits stand in turn, with one bit more of each.
use Rattle.std.proofs.Common.{◌≡◌, ◌∙◌, inl, inr, ℕ, ◌+◌, ◌*◌, ◌<◌, List, [], ◌∷◌, ◌++◌, Bool, false, ap, sym, arith, length, get_or, length-append}
use Rattle.std.proofs.lemmas.Bool.{cases_lt}
use Rattle.std.proofs.lemmas.List.{get_or_append_left, get_or_push}

module _ (xs from : List Bool) (a b : Bool) (i : ℕ) (count : length xs ≡ 2 * i) where
  abbrev longer : List Bool
  longer = (xs ++ a ∷ []) ++ b ∷ []

  length-one : length (xs ++ a ∷ []) ≡ 2 * i + 1
  length-one = omega (arith, length-append xs (a ∷ []), count)

  kept : (n : ℕ) → n < 2 * i → get_or longer n false ≡ get_or xs n false
  kept n below =
      get_or_append_left (xs ++ a ∷ []) (b ∷ []) false n (omega (arith, length-one)) ∙ get_or_append_left xs (a ∷ []) false n (omega (arith, count))

  first : get_or longer (2 * i) false ≡ a
  first = get_or_append_left (xs ++ a ∷ []) (b ∷ []) false (2 * i) (omega (arith, length-one)) ∙ get_or_push xs a false (2 * i) count

  second : get_or longer (2 * i + 1) false ≡ b
  second = get_or_push (xs ++ a ∷ []) b false (2 * i + 1) length-one

  pub firsts_more : a ≡ get_or from i false → ((k : ℕ) → k < i → get_or xs (2 * k) false ≡ get_or from k false)
      → (k : ℕ) → k < i + 1 → get_or longer (2 * k) false ≡ get_or from k false
  firsts_more here before k below = elim (cases_lt k i) [
    | inl less ↦ kept (2 * k) (omega arith) ∙ before k less
    | inr more ↦
        let e : k ≡ i = omega arith in
        ap (λ (m : ℕ). get_or longer (2 * m) false) e ∙ first ∙ here ∙ ap (λ (m : ℕ). get_or from m false) (sym e)
  ]

  pub seconds_more : b ≡ get_or from i false → ((k : ℕ) → k < i → get_or xs (2 * k + 1) false ≡ get_or from k false)
      → (k : ℕ) → k < i + 1 → get_or longer (2 * k + 1) false ≡ get_or from k false
  seconds_more here before k below = elim (cases_lt k i) [
    | inl less ↦ kept (2 * k + 1) (omega arith) ∙ before k less
    | inr more ↦
        let e : k ≡ i = omega arith in
        ap (λ (m : ℕ). get_or longer (2 * m + 1) false) e ∙ second ∙ here ∙ ap (λ (m : ℕ). get_or from m false) (sym e)
  ]
