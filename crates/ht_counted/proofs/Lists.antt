-- Things that are taken one after another, behind what stands in front of them.
use Rattle.std.proofs.Common.{◌≡◌, ℕ, ◌+◌, List, [], ◌∷◌, ◌++◌, length, flat_map, All, sym, ap, subst, ◌∙◌, append_assoc, length-append, arith}
use Rattle.std.proofs.lemmas.List.{append-nil}
use Rattle.std.proofs.lemmas.Grind.{flat_map-append}
use Rattle.ht_io.specs.Devices.{Device, Takes}
use Rattle.ht_io.proofs.Calls.{takes-append}
use Rattle.ht_fields.proofs.Putting.{takes_as}

-- the octets of one more
pub one_more : {V : Type 0} (octets : V → List ℕ) (start : List ℕ) (xs ys : List V) (f : V) → ys ≡ xs ++ f ∷ []
    → (start ++ flat_map octets xs) ++ octets f ≡ start ++ flat_map octets ys
one_more {V = V} octets start xs ys f is =
    let one : flat_map octets (f ∷ []) ≡ octets f = append-nil (octets f) in
    append_assoc start (flat_map octets xs) (octets f)
    ∙ ap (λ (z : List ℕ). start ++ z)
    (ap (λ (z : List ℕ). flat_map octets xs ++ z) (sym one)
    ∙ (sym (flat_map-append octets xs (f ∷ [])) ∙ ap (λ (z : List V). flat_map octets z) (sym is)))

pub takes_more : {V : Type 0} (octets : V → List ℕ) (start : List ℕ) (xs ys : List V) (f : V) (a b c : Device ℕ) → ys ≡ xs ++ f ∷ []
    → Takes a b (start ++ flat_map octets xs) → Takes b c (octets f) → Takes a c (start ++ flat_map octets ys)
takes_more octets start xs ys f a b c is x y =
    takes_as a c _ _ (one_more octets start xs ys f is) (takes-append a b c (start ++ flat_map octets xs) (octets f) x y)

-- none yet
pub none_yet : {V : Type 0} (octets : V → List ℕ) (start : List ℕ) (fs : List V) → fs ≡ [] → start ≡ start ++ flat_map octets fs
none_yet {V = V} octets start fs none = sym (append-nil start) ∙ ap (λ (z : List V). start ++ flat_map octets z) (sym none)

pub so_far_fit : {V : Type 0} (Fit : V → Type 0) (xs ys : List V) → xs ≡ ys → All Fit xs → All Fit ys
so_far_fit {V = V} Fit xs ys is fit = subst (λ (z : List V). All Fit z) is fit

-- where the next one begins
pub place_behind : (at : ℕ) (octets : List ℕ) → at ≡ length octets → at ≡ 0 + length octets
place_behind at octets is = omega (arith, is)

pub place_more : {V : Type 0} (octets : V → List ℕ) (start : List ℕ) (xs ys : List V) (f : V) (at size : ℕ) → ys ≡ xs ++ f ∷ []
    → at ≡ length (start ++ flat_map octets xs) → size ≡ length (octets f) → at + size ≡ length (start ++ flat_map octets ys)
place_more octets start xs ys f at size is place same =
    let front : List ℕ = start ++ flat_map octets xs in
    let all : length (front ++ octets f) ≡ length (start ++ flat_map octets ys) = ap length (one_more octets start xs ys f is) in
    omega (arith, all, place, length-append front (octets f), same)
