-- A field is read in pieces.
use Rattle.std.proofs.Common.{◌≡◌, ◌+◌, ◌≤◌, ℕ, List, ◌++◌, length, take, drop, ap, ◌∙◌, sym, subst}
use Rattle.std.proofs.lemmas.List.{take-append-le, length-take-le}
use Rattle.std.proofs.Math.Seq.{take-append-add}
use borrow.Rule.Slice.PartMut.{put_mid}
use Rattle.ht_io.specs.Devices.{Device, Takes}
use Rattle.ht_io.proofs.Calls.{takes-append}

pub front-put : (a k n : ℕ) (xs ys : List ℕ) → a ≤ length xs → n ≤ length ys → take (a + n) (put_mid a k xs ys) ≡ take a xs ++ take n ys
front-put a k n xs ys p q =
    let len : length (take a xs) ≡ a = length-take-le a xs p in
    ap (λ m. take (m + n) (take a xs ++ (ys ++ drop k (drop a xs)))) (sym len)
    ∙ take-append-add (take a xs) (ys ++ drop k (drop a xs)) n
    ∙ ap (λ z. take a xs ++ z) (take-append-le n ys (drop k (drop a xs)) q)

-- one more read puts its octets behind those that were taken
pub takes-more : (old mid new : Device ℕ) (count more k : ℕ) (into piece : List ℕ) → count ≤ length into → more ≤ length piece
    → Takes old mid (take count into) → Takes mid new (take more piece) → Takes old new (take (count + more) (put_mid count k into piece))
takes-more old mid new count more k into piece p q a b =
    subst (λ (z : List ℕ). Takes old new z) (sym (front-put count k more into piece p q)) (takes-append old mid new (take count into) (take more piece) a b)
