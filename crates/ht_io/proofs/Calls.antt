-- Calls of a device, one after another.
use Rattle.std.proofs.Common.{◌≡◌, List, [], ◌++◌, Some, refl, ◌∙◌, subst, arith, Option}
use Rattle.ht_io.specs.Devices.{Device, Takes, TakesAll, NoneExactlyAtEnd, Grows, GrowsByPart, Rose, IsLater}
use Rattle.ht_io.specs.Pieces.{KnownTaken, KnownAllTaken}
use Rattle.ht_io.proofs.Counts.{rose-earlier, rose-later}
use Rattle.ht_io.proofs.Pieces.{taken-none, taken-append, taken-all, taken-ended, taken-known, all_taken-known}
use Rattle.ht_io.proofs.Pieces.{grown-none, grown-append, grown_by_part-none, grown_by_part-front, grown_by_part-append}

-- a read of no pieces leaves what was left
pub takes-none : {P : Type 0} (device : Device P) → Takes device device []
takes-none device = taken-none device.known

-- a read and then another are a read of both
pub takes-append : {P : Type 0} (before between after : Device P) (xs ys : List P)
    → Takes before between xs → Takes between after ys → Takes before after (xs ++ ys)
takes-append before between after xs ys p q = taken-append before.known between.known after.known xs ys p q

-- a read, and then one that takes all that is left, took all that was left
pub takes-all : {P : Type 0} (before between after : Device P) (xs ys : List P)
    → Takes before between xs → TakesAll between after ys → TakesAll before after (xs ++ ys)
takes-all before between after xs ys p q = taken-all before.known between.known after.known xs ys p q

-- a read, and then one that takes none and so is at the end, took all that was left
pub takes-ended : {P : Type 0} (before between after : Device P) (xs : List P)
    → Takes before between xs → Takes between after [] → NoneExactlyAtEnd between 0 → TakesAll before after xs
takes-ended before between after xs p q e = taken-ended before.known between.known after.known xs p q e

-- where what is left is known, the pieces taken were its front
pub takes-known : {P : Type 0} (before after : Device P) (left pieces : List P)
    → Takes before after pieces → before.known ≡ Some left
    → (rest : List P) × (after.known ≡ Some rest) × (left ≡ pieces ++ rest)
takes-known {P = P} before after left pieces p is =
    taken-known left after.known pieces (subst (λ (z : Option (List P)). KnownTaken z after.known pieces) is p)

pub takes_all-known : {P : Type 0} (before after : Device P) (left pieces : List P)
    → TakesAll before after pieces → before.known ≡ Some left → (after.known ≡ Some []) × (left ≡ pieces)
takes_all-known {P = P} before after left pieces p is =
    all_taken-known left after.known pieces (subst (λ (z : Option (List P)). KnownAllTaken z after.known pieces) is p)

-- a put of no pieces leaves what was held
pub grows-none : {P : Type 0} (device : Device P) → Grows device device []
grows-none device = grown-none device.known

-- a put and then another are a put of both
pub grows-append : {P : Type 0} (before between after : Device P) (xs ys : List P)
    → Grows before between xs → Grows between after ys → Grows before after (xs ++ ys)
grows-append before between after xs ys p q = grown-append before.known between.known after.known xs ys p q

-- none of the pieces is a part of them
pub grows_by_part-none : {P : Type 0} (device : Device P) (pieces : List P) → GrowsByPart device device pieces
grows_by_part-none device pieces = grown_by_part-none device.known pieces

-- a part of the front is a part of the whole
pub grows_by_part-front : {P : Type 0} (before after : Device P) (xs ys : List P)
    → GrowsByPart before after xs → GrowsByPart before after (xs ++ ys)
grows_by_part-front before after xs ys p = grown_by_part-front before.known after.known xs ys p

-- all of some pieces and a part of the next are a part of both
pub grows_by_part-append : {P : Type 0} (before between after : Device P) (xs ys : List P)
    → Grows before between xs → GrowsByPart between after ys → GrowsByPart before after (xs ++ ys)
grows_by_part-append before between after xs ys p q = grown_by_part-append before.known between.known after.known xs ys p q

-- a device is later than itself, and what is later than a later one is later
pub later-refl : {P : Type 0} (device : Device P) → IsLater device device
later-refl device = record { faults = omega arith; borrow = refl }

pub later-later : {P : Type 0} (old mid new : Device P) → IsLater old mid → IsLater mid new → IsLater old new
later-later old mid new p q = record { faults = omega (arith, p.faults, q.faults); borrow = q.borrow ∙ p.borrow }

-- a device that failed in an earlier part failed in the whole
pub failed-earlier : {P : Type 0} (old mid new : Device P) → Rose old mid → IsLater mid new → Rose old new
failed-earlier old mid new p q = rose-earlier old.faults mid.faults new.faults p q.faults

-- a device that failed in a later part failed in the whole
pub failed-later : {P : Type 0} (old mid new : Device P) → IsLater old mid → Rose mid new → Rose old new
failed-later old mid new p q = rose-later old.faults mid.faults new.faults p.faults q
