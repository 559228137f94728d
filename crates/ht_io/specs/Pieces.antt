-- What a read and a put do to pieces that are known, or are not: octets, or anything else that a device takes.
use Rattle.std.specs.Prelude.{◌≡◌, ◌↔◌, ℕ, ◌≤◌, List, [], ◌++◌, length, take, Option, None, Some}

-- the pieces were taken from the front of what was left; what is left is known exactly where it was known
abbrev pub KnownTaken : {P : Type 0} → Option (List P) → Option (List P) → List P → Type 0
KnownTaken None None pieces = Unit {0}
KnownTaken None (Some after) pieces = ⊥
KnownTaken (Some before) None pieces = ⊥
KnownTaken (Some before) (Some after) pieces = before ≡ pieces ++ after

-- the pieces were all that was left; what is left is known exactly where it was known
abbrev pub KnownAllTaken : {P : Type 0} → Option (List P) → Option (List P) → List P → Type 0
KnownAllTaken None None pieces = Unit {0}
KnownAllTaken None (Some after) pieces = ⊥
KnownAllTaken (Some before) None pieces = ⊥
KnownAllTaken (Some before) (Some after) pieces = (before ≡ pieces) × (after ≡ [])

-- where what is left is known, none were taken exactly at its end
abbrev pub NoneAtKnownEnd : {P : Type 0} → Option (List P) → ℕ → Type 0
NoneAtKnownEnd None count = Unit {0}
NoneAtKnownEnd (Some left) count = (count ≡ 0) ↔ (left ≡ [])

-- what is held grew by the pieces; it is known only where it was known
abbrev pub KnownGrown : {P : Type 0} → Option (List P) → Option (List P) → List P → Type 0
KnownGrown None None pieces = Unit {0}
KnownGrown None (Some after) pieces = ⊥
KnownGrown (Some before) None pieces = Unit {0}
KnownGrown (Some before) (Some after) pieces = after ≡ before ++ pieces

-- what is held grew by some of the pieces from their front, which may be none or all of them
abbrev pub KnownGrownByPart : {P : Type 0} → Option (List P) → Option (List P) → List P → Type 0
KnownGrownByPart before after pieces =
    (count : ℕ) × (count ≤ length pieces) × KnownGrown before after (take count pieces)
