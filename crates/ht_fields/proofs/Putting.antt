-- Octets that are taken or put one after another.
use Rattle.std.proofs.Common.{◌≡◌, ℕ, ◌+◌, ◌<◌, List, ◌++◌, length, take, drop, get_or, flat_map}
use Rattle.std.proofs.Common.{Option, Result, Ok, Err, OnOk, OnErr, sym, ap, subst, ◌∙◌, append_assoc}
use Rattle.std.proofs.lemmas.List.{drop_more, take-append-drop}
use Rattle.std.proofs.lemmas.Grind.{flat_map-append}
use Rattle.ht_io.specs.Devices.{Device, Takes}
use Rattle.ht_io.specs.Pieces.{KnownGrown, KnownGrownByPart}
use Rattle.ht_io.proofs.Pieces.{grown-append, grown_by_part-front, grown_by_part-append}

-- the same octets by another name
pub takes_as : (before after : Device ℕ) (xs ys : List ℕ) → xs ≡ ys → Takes before after xs → Takes before after ys
takes_as before after xs ys e t = subst (λ (z : List ℕ). Takes before after z) e t

-- what holds whether or not it failed
pub on_err : {A E : Type 0} (P : Type 0) (r : Result A E) → P → OnErr r P
on_err P (Ok x) p = tt
on_err P (Err e) p = p

-- what follows, where it failed
pub on_err_then : {A E : Type 0} (P Q : Type 0) (r : Result A E) → (P → Q) → OnErr r P → OnErr r Q
on_err_then P Q (Ok x) f p = tt
on_err_then P Q (Err e) f p = f p

-- what follows, where it didn't fail
pub on_ok_then : {A E : Type 0} (P Q : Type 0) (r : Result A E) → (P → Q) → OnOk r P → OnOk r Q
on_ok_then P Q (Ok x) f p = f p
on_ok_then P Q (Err e) f p = tt

-- a part of the first piece
pub part_first : (held new : Option (List ℕ)) (put piece rest whole : List ℕ) → put ≡ piece → piece ++ rest ≡ whole
    → KnownGrownByPart held new put → KnownGrownByPart held new whole
part_first held new put piece rest whole is all a =
    subst (λ (w : List ℕ). KnownGrownByPart held new w) (ap (λ (z : List ℕ). z ++ rest) is ∙ all) (grown_by_part-front held new put rest a)

-- a part of the piece behind what was put
pub part_next : (held mid new : Option (List ℕ)) (put piece whole : List ℕ) → put ++ piece ≡ whole
    → KnownGrown held mid put → KnownGrownByPart mid new piece → KnownGrownByPart held new whole
part_next held mid new put piece whole all a b =
    subst (λ (w : List ℕ). KnownGrownByPart held new w) all (grown_by_part-append held mid new put piece a b)

-- a part of the piece at a place, behind the pieces before it
pub part_at : {X : Type 0} (f : X → List ℕ) (xs : List X) (k : ℕ) (x : X) (start : List ℕ) (held mid new : Option (List ℕ)) → k < length xs → x ≡ get_or xs k x
    → KnownGrown held mid (start ++ flat_map f (take k xs)) → KnownGrownByPart mid new (f x) → KnownGrownByPart held new (start ++ flat_map f xs)
part_at {X = X} f xs k x start held mid new lt at a b =
    let front : List ℕ = start ++ flat_map f (take k xs) in
    let rest : List ℕ = flat_map f (drop (k + 1) xs) in
    let left : flat_map f (drop k xs) ≡ f x ++ rest = ap (flat_map f) (drop_more xs k x lt) ∙ ap (λ (y : X). f y ++ rest) (sym at) in
    let all : front ++ (f x ++ rest) ≡ start ++ flat_map f xs =
    ap (λ z. front ++ z) (sym left)
    ∙ (append_assoc start (flat_map f (take k xs)) (flat_map f (drop k xs))
    ∙ ap (λ z. start ++ z) (sym (flat_map-append f (take k xs) (drop k xs)) ∙ ap (flat_map f) (take-append-drop k xs))) in
    subst (λ (w : List ℕ). KnownGrownByPart held new w) all
    (grown_by_part-append held mid new front (f x ++ rest) a (grown_by_part-front mid new (f x) rest b))

-- a piece behind what was put
pub piece_more : (front piece rest left whole : List ℕ) → piece ++ rest ≡ left → front ++ left ≡ whole → (front ++ piece) ++ rest ≡ whole
piece_more front piece rest left whole e all = append_assoc front piece rest ∙ (ap (λ z. front ++ z) e ∙ all)

pub grows_piece : (held mid new : Option (List ℕ)) (front piece put : List ℕ) → KnownGrown held mid front
    → KnownGrown mid new put → put ≡ piece → KnownGrown held new (front ++ piece)
grows_piece held mid new front piece put a b is = grown-append held mid new front piece a (subst (λ (p : List ℕ). KnownGrown mid new p) is b)

-- a part of a piece behind what was put
pub part_more : (held mid new : Option (List ℕ)) (front piece put rest left whole : List ℕ)
    → KnownGrown held mid front → KnownGrownByPart mid new put → put ≡ piece
    → piece ++ rest ≡ left → front ++ left ≡ whole → KnownGrownByPart held new whole
part_more held mid new front piece put rest left whole a b is e all =
    let part : KnownGrownByPart mid new (piece ++ rest) = grown_by_part-front mid new piece rest (subst (λ (p : List ℕ). KnownGrownByPart mid new p) is b) in
    subst (λ (w : List ℕ). KnownGrownByPart held new w) (ap (λ z. front ++ z) e ∙ all) (grown_by_part-append held mid new front (piece ++ rest) a part)

-- a list in two parts
pub map_split : {X : Type 0} (f : X → List ℕ) (xs : List X) (k : ℕ) → flat_map f (take k xs) ++ flat_map f (drop k xs) ≡ flat_map f xs
map_split f xs k = sym (flat_map-append f (take k xs) (drop k xs)) ∙ ap (flat_map f) (take-append-drop k xs)
