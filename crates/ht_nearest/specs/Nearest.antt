-- The first of the nearest, for any kind of value: a test says what is a member, a cost how far
-- a value is away, and a second test which of two values comes before the other.
use Rattle.std.specs.Prelude.{◌≡◌, ℕ, ◌<◌, ◌≤◌, List, Bool, ◌&&◌, ◌||◌, not, IsTrue, IsFalse, nat_lt, if◌then◌else◌}
use Rattle.std.specs.Prelude.{Option, Some, None}
use Rattle.std.specs.List.{fold, Contains}

-- a member that no member is nearer than, and that no member before it is as near as
pub record IsFirstNearest {X : Type 0} (is_member : X → Bool) (cost : X → ℕ) (before : X → X → Bool) (x : X) : Type 0 where
  pub within : IsTrue (is_member x)
  pub nearest : (y : X) → IsTrue (is_member y) → cost x ≤ cost y
  pub first : (y : X) → IsTrue (is_member y) → IsTrue (before y x) → cost x < cost y

-- the test orders the members: none is before itself, what is before is before all behind it,
-- and of two members that differ one is before the other
pub record IsOrder {X : Type 0} (is_member : X → Bool) (before : X → X → Bool) : Type 0 where
  pub apart : (x : X) → IsFalse (before x x)
  pub onward : (x y z : X) → IsTrue (before x y) → IsTrue (before y z) → IsTrue (before x z)
  pub decides : (x y : X) → IsTrue (is_member x) → IsTrue (is_member y) → IsFalse (before x y) → IsFalse (before y x) → x ≡ y

-- the list has the members, and nothing else
pub record Enumerates {X : Type 0} (is_member : X → Bool) (candidates : List X) : Type 0 where
  pub sound : (x : X) → Contains candidates x → IsTrue (is_member x)
  pub whole : (x : X) → IsTrue (is_member x) → Contains candidates x

-- one value is nearer than another, or as near and before it
abbrev pub is_better : {X : Type 0} → (X → ℕ) → (X → X → Bool) → X → X → Bool
is_better cost before x best = nat_lt (cost x) (cost best) || (not (nat_lt (cost best) (cost x)) && before x best)

-- the better of the best so far and one more
abbrev pub keep : {X : Type 0} → (X → ℕ) → (X → X → Bool) → Option X → X → Option X
keep cost before None x = Some x
keep cost before (Some best) x = Some (if is_better cost before x best then x else best)

-- the best of the candidates
abbrev pub first_nearest : {X : Type 0} → (X → ℕ) → (X → X → Bool) → List X → Option X
first_nearest cost before candidates = fold (keep cost before) None candidates
