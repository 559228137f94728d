-- A list that grows by groups.
use Rattle.std.proofs.Common.{◌≡◌, ℕ, ◌+◌, ◌-◌, ◌<◌, List, [], Bool, false, length, get_or, ap, sym, ◌∙◌, inl, inr, arith}
use Rattle.std.proofs.lemmas.Bool.{cases_lt}
use Rattle.ht_parse.specs.Groups.{FollowsRule}

-- an empty list follows every rule
pub follows-none : (rule : ℕ → Bool) (bits : List Bool) → bits ≡ [] → FollowsRule rule bits
follows-none rule bits none p lt = absurd (omega (arith, ap length none))

-- a group that follows the rule is added to a list that does
pub follows-more : (rule : ℕ → Bool) (old new : List Bool) (n group : ℕ) → length old ≡ n → length new ≡ n + group
    → ((p : ℕ) → p < n → get_or new p false ≡ get_or old p false) → ((x : ℕ) → x < group → get_or new (n + x) false ≡ rule (n + x))
    → FollowsRule rule old → FollowsRule rule new
follows-more rule old new n group len_old len_new kept copied was p lt = elim (cases_lt p n) [
  | inl before ↦ kept p before ∙ was p (omega arith)
  | inr after ↦
      let same : n + (p - n) ≡ p = omega arith in
      ap (λ (y : ℕ). get_or new y false) (sym same) ∙ (copied (p - n) (omega arith) ∙ ap rule same)
]
