-- What is seen of a device, and what a call does to it.
use Rattle.std.specs.Prelude.{◌≡◌, ℕ, ◌≤◌, List, Option, Result, OnOk, OnErr}
use Rattle.ht_io.specs.Causes.{HasRisen}
use Rattle.ht_io.specs.Pieces.{KnownTaken, KnownAllTaken, NoneAtKnownEnd, KnownGrown, KnownGrownByPart}

-- the pieces that are known (those that a source still gives, those that a sink holds), how often the device failed,
-- and which borrow it is, where it is one
pub record Device (P : Type 0) : Type 0 where
  pub known : Option (List P)
  pub faults : ℕ
  pub borrow : ℕ

-- the pieces were taken from the front of what was left
abbrev pub Takes : {P : Type 0} → Device P → Device P → List P → Type 0
Takes before after pieces = KnownTaken before.known after.known pieces

-- the pieces were all that was left
abbrev pub TakesAll : {P : Type 0} → Device P → Device P → List P → Type 0
TakesAll before after pieces = KnownAllTaken before.known after.known pieces

-- a read took none exactly at the end of what was left
abbrev pub NoneExactlyAtEnd : {P : Type 0} → Device P → ℕ → Type 0
NoneExactlyAtEnd before count = NoneAtKnownEnd before.known count

-- what is held grew by the pieces
abbrev pub Grows : {P : Type 0} → Device P → Device P → List P → Type 0
Grows before after pieces = KnownGrown before.known after.known pieces

-- what is held grew by some of the pieces from their front, which may be none or all of them
abbrev pub GrowsByPart : {P : Type 0} → Device P → Device P → List P → Type 0
GrowsByPart before after pieces = KnownGrownByPart before.known after.known pieces

-- the device failed in between
abbrev pub Rose : {P : Type 0} → Device P → Device P → Type 0
Rose before after = HasRisen before.faults after.faults

-- the same device at a later time: no fault was taken back, and it is the same borrow
pub record IsLater {P : Type 0} (old new : Device P) : Type 0 where
  pub faults : old.faults ≤ new.faults
  pub borrow : new.borrow ≡ old.borrow

-- what a call comes to that puts pieces: all of them were put, or the device failed and a part of them was
pub record Puts {P A E : Type 0} (before after : Device P) (pieces : List P) (result : Result A E) : Type 0 where
  pub grown : OnOk result (Grows before after pieces)
  pub steady : OnOk result (after.faults ≡ before.faults)
  pub part : OnErr result (GrowsByPart before after pieces)
  pub cause : OnErr result (Rose before after)
  pub later : IsLater before after
