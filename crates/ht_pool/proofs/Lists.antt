-- Lists that pass from one vector to another.
use Rattle.std.proofs.Common.{◌≡◌, ℕ, ◌<◌, List, [], ◌∷◌, ◌++◌, map, length, take, drop, slice_index_or, ap, ◌∙◌, sym, subst, suc, arith}
use Rattle.std.proofs.lemmas.List.{append-nil, append_assoc, drop_all, take_all}
use Rattle.std.specs.List.{All, flat_map, remove}

module _ {X Y : Type 0} where
  -- the first of those that are left is done
  pub one_done : (f : X → Y) (done done' all : List Y) (left left' : List X) (x : X) → left ≡ x ∷ left' → done' ≡ done ++ f x ∷ []
      → done ++ map f left ≡ all → done' ++ map f left' ≡ all
  one_done f done done' all left left' x first more was =
      ap (λ ys. ys ++ map f left') more ∙ (append_assoc done (f x ∷ []) (map f left') ∙ (ap (λ xs. done ++ map f xs) (sym first) ∙ was))

  pub some_done : (f : X → List Y) (done done' all : List Y) (left left' : List X) (x : X) → left ≡ x ∷ left' → done' ≡ done ++ f x
      → done ++ flat_map f left ≡ all → done' ++ flat_map f left' ≡ all
  some_done f done done' all left left' x first more was =
      ap (λ ys. ys ++ flat_map f left') more ∙ (append_assoc done (f x) (flat_map f left') ∙ (ap (λ xs. done ++ flat_map f xs) (sym first) ∙ was))

-- the first of a list and the others
pub first_out : {X : Type 0} (xs : List X) (x : X) → 0 < length xs → x ≡ slice_index_or xs 0 x → xs ≡ x ∷ remove xs 0
first_out [] x some is = absurd (omega (arith, some))
first_out (y ∷ ys) x some is = ap (λ z. z ∷ ys) (sym is)

-- a fact of all is one of the first and of the others
pub all_first : {X : Type 0} (P : X → Type 0) (xs ys : List X) (x : X) → xs ≡ x ∷ ys → All P xs → P x × All P ys
all_first P xs ys x e all =
    let both : All P (x ∷ ys) = subst (λ zs. All P zs) e all in
    (both 0 x (omega arith), λ k d lt. both (suc k) d (omega (arith, lt)))

-- a slice of all members of a vector is written back whole
pub written_back : {X : Type 0} (len : ℕ) (old new : List X) → length old ≡ len → length new ≡ length old → take len (new ++ drop (length new) old) ≡ new
written_back len old new all same =
    let none : drop (length new) old ≡ [] = drop_all (length new) old (omega (arith, same)) in
    ap (λ xs. take len (new ++ xs)) none ∙ (ap (take len) (append-nil new) ∙ take_all len new (omega (arith, same, all)))
