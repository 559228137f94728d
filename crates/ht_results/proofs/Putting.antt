-- Values that are put on their places, in a list made of blocks.
use Rattle.std.proofs.Common.{◌≡◌, ◌≢◌, ℕ, zero, suc, ◌+◌, ◌-◌, ◌*◌, ◌<◌, ◌≤◌, List, [], ◌∷◌, ◌++◌, length, set, replicate}
use Rattle.std.proofs.Common.{refl, sym, ap, ◌∙◌, length-append, arith}
use Rattle.std.specs.List.{flat_map, range_with_len}
use Rattle.std.proofs.lemmas.List.{length-set, set-append_left, set-append_right, replicate-append-replicate}
use Rattle.std.proofs.Math.Nat.{mul_assoc, add-mul}
use Rattle.ht_capture.proofs.Symbols.{place_within}
use Rattle.ht_results.specs.Plans.{put_values}

arranged : (row columns column w : ℕ) → (row * columns + column) * w ≡ row * (columns * w) + (column * w + 0)
arranged row columns column w =
    let split = add-mul (row * columns) column w in
    let grouped = mul_assoc row columns w in
    omega (arith, split, grouped)

module _ {V : Type 0} where
  -- behind a front the front stays
  pub put_behind : (vs xs ys : List V) (n at : ℕ) → length xs ≡ n → put_values (xs ++ ys) (n + at) vs ≡ xs ++ put_values ys at vs
  put_behind [] xs ys n at is = refl
  put_behind (v ∷ vs) xs ys n at is =
      let here : n + at - n ≡ at = omega arith in
      let next : n + at + 1 ≡ n + (at + 1) = omega arith in
      ap (λ (z : List V). put_values z (n + at + 1) vs) (set-append_right xs ys n (n + at) v is (omega arith)
      ∙ ap (λ (k : ℕ). xs ++ set ys k v) here)
      ∙ (ap (λ (k : ℕ). put_values (xs ++ set ys at v) k vs) next
      ∙ put_behind vs xs (set ys at v) n (at + 1) is)

  -- within a front what is behind it stays
  put_within : (vs xs ys : List V) (at : ℕ) → at + length vs ≤ length xs
      → put_values (xs ++ ys) at vs ≡ put_values xs at vs ++ ys
  put_within [] xs ys at fits = refl
  put_within (v ∷ vs) xs ys at fits =
      let first : List V = set xs at v in
      let long : length first ≡ length xs = length-set {A = V} xs at v in
      ap (λ (z : List V). put_values z (at + 1) vs) (set-append_left xs ys at v (omega (arith, fits)))
      ∙ put_within vs first ys (at + 1) (omega (arith, fits, long))

  -- as many values as there are places take all of them
  put_all : (vs xs : List V) → length vs ≡ length xs → put_values xs 0 vs ≡ vs
  put_all [] [] same = refl
  put_all [] (x ∷ xs) same = absurd (omega (arith, same))
  put_all (v ∷ vs) [] same = absurd (omega (arith, same))
  put_all (v ∷ vs) (x ∷ xs) same =
      let one : List V = v ∷ [] in
      let rest : length vs ≡ length xs = omega (arith, same) in
      put_behind vs one xs 1 0 refl ∙ ap (λ (z : List V). v ∷ z) (put_all vs xs rest)

  -- blocks of the same length
  pub long_blocks : (f : ℕ → List V) (w a n : ℕ) → ((i : ℕ) → a ≤ i → i < a + n → length (f i) ≡ w) → length (flat_map f (range_with_len a n)) ≡ n * w
  long_blocks f w a zero each = omega arith
  long_blocks f w a (suc n) each =
      let here : length (f a) ≡ w = each a (omega arith) (omega arith) in
      let rest : length (flat_map f (range_with_len (a + 1) n)) ≡ n * w =
      long_blocks f w (a + 1) n (λ i low high. each i (omega (arith, low)) (omega (arith, high))) in
      omega (arith, length-append (f a) (flat_map f (range_with_len (a + 1) n)), here, rest)

  -- two functions that agree on a range
  pub flat_same : (f g : ℕ → List V) (a n : ℕ) → ((i : ℕ) → a ≤ i → i < a + n → f i ≡ g i) → flat_map f (range_with_len a n) ≡ flat_map g (range_with_len a n)
  flat_same f g a zero same = refl
  flat_same f g a (suc n) same =
      ap (λ (z : List V). z ++ flat_map f (range_with_len (a + 1) n)) (same a (omega arith) (omega arith))
      ∙ ap (λ (z : List V). g a ++ z) (flat_same f g (a + 1) n (λ i low high. same i (omega (arith, low)) (omega (arith, high))))

  -- in one block of many
  put_block : (vs : List V) (f g : ℕ → List V) (w a n k at : ℕ)
      → ((i : ℕ) → a ≤ i → i < a + n → length (f i) ≡ w) → k < n → at + length vs ≤ w
      → put_values (f (a + k)) at vs ≡ g (a + k) → ((i : ℕ) → a ≤ i → i < a + n → i ≢ a + k → f i ≡ g i)
      → put_values (flat_map f (range_with_len a n)) (k * w + at) vs ≡ flat_map g (range_with_len a n)
  put_block vs f g w a zero k at wide below fits here others = absurd (omega (arith, below))
  put_block vs f g w a (suc n) zero at wide below fits here others =
      let start : 0 * w + at ≡ at = omega arith in
      let place : a + 0 ≡ a = omega arith in
      let rest : List V = flat_map f (range_with_len (a + 1) n) in
      let size : length (f a) ≡ w = wide a (omega arith) (omega arith) in
      ap (λ (z : ℕ). put_values (f a ++ rest) z vs) start
      ∙ (put_within vs (f a) rest at (omega (arith, fits, size))
      ∙ (ap (λ (z : List V). z ++ rest) (ap (λ (i : ℕ). put_values (f i) at vs) (sym place) ∙ (here ∙ ap g place))
      ∙ ap (λ (z : List V). g a ++ z) (flat_same f g (a + 1) n
      (λ i low high. others i (omega (arith, low)) (omega (arith, high)) (λ e. omega (arith, low, e))))))
  put_block vs f g w a (suc n) (suc k) at wide below fits here others =
      let start : suc k * w + at ≡ w + (k * w + at) = omega arith in
      let place : a + suc k ≡ a + 1 + k = omega arith in
      let rest : List V = flat_map f (range_with_len (a + 1) n) in
      let later : put_values (f (a + 1 + k)) at vs ≡ g (a + 1 + k) =
      ap (λ (i : ℕ). put_values (f i) at vs) (sym place) ∙ (here ∙ ap g place) in
      ap (λ (z : ℕ). put_values (f a ++ rest) z vs) start
      ∙ (put_behind vs (f a) rest w (k * w + at) (wide a (omega arith) (omega arith))
      ∙ (ap (λ (z : List V). z ++ put_values rest (k * w + at) vs) (others a (omega arith) (omega arith) (λ e. omega (arith, e)))
      ∙ ap (λ (z : List V). g a ++ z) (put_block vs f g w (a + 1) n k at (λ i low high. wide i (omega (arith, low)) (omega (arith, high)))
      (omega (arith, below)) fits later
      (λ i low high apart. others i (omega (arith, low)) (omega (arith, high)) (λ e. apart (e ∙ place))))))

  -- blocks in rows
  abbrev pub table : (ℕ → ℕ → List V) → ℕ → ℕ → List V
  table f rows columns = flat_map (λ i. flat_map (f i) (range_with_len 0 columns)) (range_with_len 0 rows)

  -- two tables that agree
  pub table_same : (f g : ℕ → ℕ → List V) (rows columns : ℕ) → ((i j : ℕ) → i < rows → j < columns → f i j ≡ g i j)
      → table f rows columns ≡ table g rows columns
  table_same f g rows columns same =
      flat_same (λ i. flat_map (f i) (range_with_len 0 columns)) (λ i. flat_map (g i) (range_with_len 0 columns)) 0 rows
      (λ i low high. flat_same (f i) (g i) 0 columns (λ j left right. same i j (omega (arith, high)) (omega (arith, right))))

  -- the values of one block of a table
  pub put_table : (vs : List V) (f g : ℕ → ℕ → List V) (rows columns w row column : ℕ)
      → ((i j : ℕ) → i < rows → j < columns → length (f i j) ≡ w) → row < rows → column < columns → length vs ≡ w
      → g row column ≡ vs
      → ((i j : ℕ) → i < rows → j < columns → ((i ≡ row) → (j ≡ column) → ⊥) → f i j ≡ g i j)
      → put_values (table f rows columns) ((row * columns + column) * w) vs ≡ table g rows columns
  put_table vs f g rows columns w row column wide in_row in_column long here others =
      let place : (row * columns + column) * w ≡ row * (columns * w) + (column * w + 0) = arranged row columns column w in
      let last : column * w + w ≤ columns * w = place_within column columns w in_column in
      let whole : 0 + length vs ≤ w = omega (arith, long) in
      let inner : put_values (flat_map (f row) (range_with_len 0 columns)) (column * w + 0) vs ≡ flat_map (g row) (range_with_len 0 columns) =
      put_block vs (f row) (g row) w 0 columns column 0 (λ j low high. wide row j in_row (omega (arith, high))) in_column whole
      (ap (λ (j : ℕ). put_values (f row j) 0 vs) (omega arith)
      ∙ (put_all vs (f row column) (long ∙ sym (wide row column in_row in_column)) ∙ (sym here ∙ ap (g row) (omega arith))))
      (λ j low high apart. others row j in_row (omega (arith, high)) (λ r c. apart (omega (arith, c)))) in
      ap (λ (z : ℕ). put_values (table f rows columns) z vs) place
      ∙ put_block vs (λ i. flat_map (f i) (range_with_len 0 columns)) (λ i. flat_map (g i) (range_with_len 0 columns)) (columns * w) 0 rows row (column * w + 0)
      (λ i low high. long_blocks (f i) w 0 columns (λ j left right. wide i j (omega (arith, high)) (omega (arith, right)))) in_row (omega (arith, long, last))
      (ap (λ (i : ℕ). put_values (flat_map (f i) (range_with_len 0 columns)) (column * w + 0) vs) (omega arith)
      ∙ (inner ∙ ap (λ (i : ℕ). flat_map (g i) (range_with_len 0 columns)) (omega arith)))
      (λ i low high apart. flat_same (f i) (g i) 0 columns
      (λ j left right. others i j (omega (arith, high)) (omega (arith, right)) (λ r c. apart (omega (arith, r)))))

  -- the same value everywhere
  repeated : (w a n : ℕ) (x : V) (f : ℕ → List V) → ((i : ℕ) → f i ≡ replicate w x) → flat_map f (range_with_len a n) ≡ replicate (n * w) x
  repeated w a zero x f each =
      let none : 0 ≡ 0 * w = omega arith in
      ap (λ (z : ℕ). replicate z x) none
  repeated w a (suc n) x f each =
      let more : w + n * w ≡ suc n * w = omega arith in
      ap (λ (z : List V). z ++ flat_map f (range_with_len (a + 1) n)) (each a)
      ∙ (ap (λ (z : List V). replicate w x ++ z) (repeated w (a + 1) n x f each)
      ∙ (replicate-append-replicate w (n * w) x ∙ ap (λ (z : ℕ). replicate z x) more))

  pub same_table : (rows columns w : ℕ) (x : V) → replicate (rows * (columns * w)) x ≡ table (λ i j. replicate w x) rows columns
  same_table rows columns w x =
      sym (repeated (columns * w) 0 rows x (λ i. flat_map (λ j. replicate w x) (range_with_len 0 columns))
      (λ i. repeated w 0 columns x (λ j. replicate w x) (λ j. refl)))
