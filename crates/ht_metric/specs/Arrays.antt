-- Lists in arrays whose other places are filled.
use Rattle.std.specs.Prelude.{◌≡◌, ℕ, zero, suc, ◌-◌, ◌≤◌, List, [], ◌∷◌, ◌++◌, length, take, drop, replicate, map}
use Rattle.std.specs.List.{flat_map}
use Rattle.std.proofs.Common.{ap, ◌∙◌, refl, sym, arith}
use Rattle.std.proofs.lemmas.List.{take-append-drop}
use Rattle.std.proofs.Math.Seq.{take-add}
use Rattle.ht_metric.specs.Rows.{Leg, Row, entries_of, legs_of, rows_of}
use Rattle.ht_metric.specs.declared.tap.Tap.{Tap}
use Rattle.ht_metric.specs.declared.sample.Sample.{Sample}

-- the list and what fills the array
abbrev pub filled : {A : Type 0} → ℕ → A → List A → List A
filled width x xs = xs ++ replicate (width - length xs) x

-- the rows of a system without what was received
abbrev pub legs : List Row → List Leg
legs rows = map (λ row. record { diagonal = row.diagonal; right = row.right }) rows

abbrev pub samples : List Row → List Sample
samples rows = map (λ row. row.sample) rows

abbrev pub diagonals : List Leg → List ℕ
diagonals rows = map (λ leg. leg.diagonal) rows

abbrev pub entries : List Leg → List Tap
entries rows = flat_map (λ leg. leg.right) rows

-- an array is the list at its front, filled
pub filled-take : {A : Type 0} (width n : ℕ) (x : A) (xs : List A) → length (take n xs) ≡ n → drop n xs ≡ replicate (width - n) x
    → filled width x (take n xs) ≡ xs
filled-take width n x xs count e =
    ap (λ (m : ℕ). take n xs ++ replicate (width - m) x) count ∙ ap (λ ys. take n xs ++ ys) (sym e) ∙ take-append-drop n xs

pub length-legs_of : (n : ℕ) (ds : List ℕ) (ts : List Tap) → length (legs_of n ds ts) ≡ n
length-legs_of zero ds ts = refl
length-legs_of (suc n) ds ts = ap suc (length-legs_of n (drop 1 ds) (drop n ts))

pub legs-rows_of : (rows : List Leg) (ys : List Sample) → legs (rows_of rows ys) ≡ rows
legs-rows_of [] ys = refl
legs-rows_of (leg ∷ rows) ys = ap (λ (rest : List Leg). leg ∷ rest) (legs-rows_of rows (drop 1 ys))

pub samples-rows_of : (rows : List Leg) (ys : List Sample) → length rows ≤ length ys → samples (rows_of rows ys) ≡ take (length rows) ys
samples-rows_of [] ys le = refl
samples-rows_of (leg ∷ rows) [] le = absurd (omega arith)
samples-rows_of (leg ∷ rows) (y ∷ ys) le = ap (λ (rest : List Sample). y ∷ rest) (samples-rows_of rows ys (omega arith))

pub diagonals-legs_of : (n : ℕ) (ds : List ℕ) (ts : List Tap) → n ≤ length ds → diagonals (legs_of n ds ts) ≡ take n ds
diagonals-legs_of zero ds ts le = refl
diagonals-legs_of (suc n) [] ts le = absurd (omega arith)
diagonals-legs_of (suc n) (d ∷ ds) ts le = ap (λ (rest : List ℕ). d ∷ rest) (diagonals-legs_of n ds (drop n ts) (omega arith))

pub entries-legs_of : (n : ℕ) (ds : List ℕ) (ts : List Tap) → entries (legs_of n ds ts) ≡ take (entries_of n) ts
entries-legs_of zero ds ts = refl
entries-legs_of (suc n) ds ts = ap (λ (rest : List Tap). take n ts ++ rest) (entries-legs_of n (drop 1 ds) (drop n ts)) ∙ sym (take-add n (entries_of n) ts)

pub entries_few : (n : ℕ) → n ≤ 4 → entries_of n ≤ 6
entries_few zero few = omega arith
entries_few (suc zero) few = omega arith
entries_few (suc (suc zero)) few = omega arith
entries_few (suc (suc (suc zero))) few = omega arith
entries_few (suc (suc (suc (suc zero)))) few = omega arith
entries_few (suc (suc (suc (suc (suc n))))) few = absurd (omega arith)
