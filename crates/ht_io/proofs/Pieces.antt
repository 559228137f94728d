-- Known pieces, over several reads and puts.
use Rattle.std.proofs.Common.{◌≡◌, ◌+◌, List, [], ◌++◌, length, take, Option, Some, None, refl, ap, subst, ◌∙◌, sym, append_assoc, append-nil, arith}
use Rattle.std.proofs.Common.{length-append}
use Rattle.std.proofs.Math.Seq.{take-append-add}
use Rattle.std.proofs.lemmas.List.{take-append-le}
use Rattle.ht_io.specs.Pieces.{KnownTaken, KnownAllTaken, NoneAtKnownEnd, KnownGrown, KnownGrownByPart}

-- a read of no pieces leaves what was left
pub taken-none : {P : Type 0} (left : Option (List P)) → KnownTaken left left []
taken-none None = tt
taken-none (Some left) = refl

-- pieces in front of what is known
abbrev prepended : {P : Type 0} → List P → Option (List P) → Option (List P)
prepended pieces None = None
prepended pieces (Some left) = Some (pieces ++ left)

-- what was left before a read
taken-from : {P : Type 0} (before after : Option (List P)) (pieces : List P) → KnownTaken before after pieces → before ≡ prepended pieces after
taken-from None None pieces p = refl
taken-from None (Some after) pieces p = absurd p
taken-from (Some before) None pieces p = absurd p
taken-from {P = P} (Some before) (Some after) pieces p = ap (λ (z : List P). Some z) p

taken-both : {P : Type 0} (after : Option (List P)) (xs ys : List P) → KnownTaken (prepended xs (prepended ys after)) after (xs ++ ys)
taken-both None xs ys = tt
taken-both (Some after) xs ys = sym (append_assoc xs ys after)

-- a read and then another are a read of both
pub taken-append : {P : Type 0} (before between after : Option (List P)) (xs ys : List P)
    → KnownTaken before between xs → KnownTaken between after ys → KnownTaken before after (xs ++ ys)
taken-append before between after xs ys p q =
    rw (taken-from before between xs p, taken-from between after ys q) (taken-both after xs ys)

all-both : {P : Type 0} (between after : Option (List P)) (xs ys : List P)
    → KnownAllTaken between after ys → KnownAllTaken (prepended xs between) after (xs ++ ys)
all-both None None xs ys q = tt
all-both None (Some after) xs ys q = absurd q
all-both (Some between) None xs ys q = absurd q
all-both (Some between) (Some after) xs ys q = (ap (λ z. xs ++ z) q.0, q.1)

-- a read, and then one that takes all that is left, took all that was left
pub taken-all : {P : Type 0} (before between after : Option (List P)) (xs ys : List P)
    → KnownTaken before between xs → KnownAllTaken between after ys → KnownAllTaken before after (xs ++ ys)
taken-all before between after xs ys p q = rw (taken-from before between xs p) (all-both between after xs ys q)

none-left : {P : Type 0} (after : Option (List P)) → NoneAtKnownEnd (prepended [] after) 0 → KnownAllTaken (prepended [] after) after []
none-left None e = tt
none-left (Some after) e = (e.0 refl, e.0 refl)

-- a read, and then one that takes none and so is at the end, took all that was left
pub taken-ended : {P : Type 0} (before between after : Option (List P)) (xs : List P)
    → KnownTaken before between xs → KnownTaken between after [] → NoneAtKnownEnd between 0 → KnownAllTaken before after xs
taken-ended {P = P} before between after xs p q e =
    let same : between ≡ prepended [] after = taken-from between after [] q in
    let ends : KnownAllTaken between after [] = rw same (none-left after (subst (λ (z : Option (List P)). NoneAtKnownEnd z 0) same e)) in
    subst (λ (z : List P). KnownAllTaken before after z) (append-nil xs) (taken-all before between after xs [] p ends)

-- what is left is known where it was known
pub taken-known : {P : Type 0} (before : List P) (after : Option (List P)) (pieces : List P)
    → KnownTaken (Some before) after pieces → (rest : List P) × (after ≡ Some rest) × (before ≡ pieces ++ rest)
taken-known before None pieces p = absurd p
taken-known before (Some after) pieces p = (after, refl, p)

pub all_taken-known : {P : Type 0} (before : List P) (after : Option (List P)) (pieces : List P)
    → KnownAllTaken (Some before) after pieces → (after ≡ Some []) × (before ≡ pieces)
all_taken-known before None pieces p = absurd p
all_taken-known {P = P} before (Some after) pieces p = (ap (λ (z : List P). Some z) p.1, p.0)

-- a put of no pieces leaves what was held
pub grown-none : {P : Type 0} (held : Option (List P)) → KnownGrown held held []
grown-none None = tt
grown-none (Some held) = sym (append-nil held)

-- a put and then another are a put of both
pub grown-append : {P : Type 0} (before between after : Option (List P)) (xs ys : List P)
    → KnownGrown before between xs → KnownGrown between after ys → KnownGrown before after (xs ++ ys)
grown-append None None None xs ys p q = tt
grown-append None None (Some after) xs ys p q = absurd q
grown-append None (Some between) after xs ys p q = absurd p
grown-append (Some before) between None xs ys p q = tt
grown-append (Some before) None (Some after) xs ys p q = absurd q
grown-append (Some before) (Some between) (Some after) xs ys p q =
    q ∙ (ap (λ z. z ++ ys) p ∙ append_assoc before xs ys)

-- none of the pieces is a part of them
pub grown_by_part-none : {P : Type 0} (held : Option (List P)) (pieces : List P) → KnownGrownByPart held held pieces
grown_by_part-none held pieces = (0, omega arith, grown-none held)

-- a part of the front is a part of the whole
pub grown_by_part-front : {P : Type 0} (before after : Option (List P)) (xs ys : List P)
    → KnownGrownByPart before after xs → KnownGrownByPart before after (xs ++ ys)
grown_by_part-front before after xs ys (count, within, grown) =
    (count, omega (arith, length-append xs ys), rw (take-append-le count xs ys within) grown)

-- all of some pieces and a part of the next are a part of both
pub grown_by_part-append : {P : Type 0} (before between after : Option (List P)) (xs ys : List P)
    → KnownGrown before between xs → KnownGrownByPart between after ys → KnownGrownByPart before after (xs ++ ys)
grown_by_part-append before between after xs ys p (count, within, grown) = (
  length xs + count,
  omega (arith, length-append xs ys),
  rw (take-append-add xs ys count) (grown-append before between after xs (take count ys) p grown),
)
