-- When two lists have the same members in any order.
use Rattle.std.specs.Prelude.{◌≡◌, ℕ, List}
use Rattle.std.specs.List.{sum_by}

-- both lists have the same members, each as often: whatever number each member is given, the sums are the same
abbrev pub SameCounts : {T : Type 0} → List T → List T → Type 0
SameCounts {T} xs ys = (h : T → ℕ) → sum_by h xs ≡ sum_by h ys
