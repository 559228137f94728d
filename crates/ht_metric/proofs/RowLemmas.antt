-- A row of a triangle or of a system, by its number.
use Rattle.std.proofs.Common.{◌≡◌, ℕ, zero, suc, ◌+◌, ◌-◌, ◌*◌, ◌/◌, ◌<◌, ◌≤◌, List, [], ◌∷◌, get_or, length, drop, take, refl, arith, ap, ◌∙◌, sym}
use Rattle.std.proofs.lemmas.List.{drop-drop, get_or-drop, get_or-take}
use Rattle.ht_metric.specs.Arrays.{legs}
use Rattle.ht_metric.specs.Rows.{Leg, Row, no_leg, no_row, no_tap, no_sample, entries_of, legs_of, rows_of}
use Rattle.ht_metric.specs.declared.tap.Tap.{Tap}
use Rattle.ht_metric.specs.declared.sample.Sample.{Sample}

-- as many rows as a triangle has, with samples or without
pub length-rows_of : (rows : List Leg) (ys : List Sample) → length (rows_of rows ys) ≡ length rows
length-rows_of [] ys = refl
length-rows_of (leg ∷ rows) ys = ap suc (length-rows_of rows (drop 1 ys))

pub length-legs : (rows : List Row) → length (legs rows) ≡ length rows
length-legs [] = refl
length-legs (row ∷ rows) = ap suc (length-legs rows)

entries_less : (m j : ℕ) → entries_of (m - j) ≤ entries_of m
entries_less zero j = let e : 0 - j ≡ 0 = omega arith in rw e (omega arith)
entries_less (suc m) zero = let e : suc m - 0 ≡ suc m = omega arith in rw e (omega arith)
entries_less (suc m) (suc j) = let e : suc m - suc j ≡ m - j = omega arith in rw e (omega (arith, entries_less m j))

at_same : (d e : ℕ) (xs ys : List Tap) → d ≡ e → xs ≡ ys
    → (let a : Leg = record { diagonal = d; right = xs } in let b : Leg = record { diagonal = e; right = ys } in a ≡ b)
at_same d e xs ys p q =
    let at : ℕ → List Tap → Leg = λ n zs. record { diagonal = n; right = zs } in
    ap (λ n. at n xs) p ∙ ap (λ zs. at e zs) q

-- row k of a triangle, whose entries begin at `from`
pub legs_of-at : (n k from : ℕ) (ds : List ℕ) (ts : List Tap) → k < n → from + entries_of (n - k) ≡ entries_of n
    → get_or (legs_of n ds ts) k no_leg ≡ record { diagonal = get_or ds k 0; right = take (n - (k + 1)) (drop from ts) }
legs_of-at zero k from ds ts below e = absurd (omega arith)
legs_of-at (suc n) zero from ds ts below e =
    let all : suc n - 0 ≡ suc n = omega arith in
    let start : from ≡ 0 = omega (arith, ap entries_of all) in
    let width : suc n - (0 + 1) ≡ n = omega arith in
    rw (start, width) refl
legs_of-at (suc n) (suc k) from ds ts below e =
    let same : suc n - suc k ≡ n - k = omega arith in
    let less = entries_less n k in
    let rest : (from - n) + entries_of (n - k) ≡ entries_of n = omega (arith, ap entries_of same) in
    let behind : n + (from - n) ≡ from = omega (arith, ap entries_of same) in
    let width : suc n - (suc k + 1) ≡ n - (k + 1) = omega arith in
    let one : 1 + k ≡ suc k = omega arith in
    legs_of-at n k (from - n) (drop 1 ds) (drop n ts) (omega arith) rest
    ∙ at_same _ _ _ _ (get_or-drop 1 ds k 0 ∙ ap (λ (m : ℕ). get_or ds m 0) one)
    (ap (λ (w : ℕ). take w (drop (from - n) (drop n ts))) (sym width)
    ∙ ap (λ (xs : List Tap). take (suc n - (suc k + 1)) xs) (drop-drop (from - n) n ts ∙ ap (λ (m : ℕ). drop m ts) behind))

-- row k of a system
pub rows_of-at : (rows : List Leg) (k : ℕ) (ys : List Sample) → k < length rows
    → get_or (rows_of rows ys) k no_row
    ≡ record { diagonal = (get_or rows k no_leg).diagonal; right = (get_or rows k no_leg).right; sample = get_or ys k no_sample }
rows_of-at [] k ys below = absurd (omega arith)
rows_of-at (leg ∷ rows) zero ys below = refl
rows_of-at (leg ∷ rows) (suc k) ys below =
    let one : 1 + k ≡ suc k = omega arith in
    rows_of-at rows k (drop 1 ys) (omega arith)
    ∙ ap (λ (y : Sample). let row : Row = record { diagonal = (get_or rows k no_leg).diagonal; right = (get_or rows k no_leg).right; sample = y } in
    row) (get_or-drop 1 ys k no_sample ∙ ap (λ (m : ℕ). get_or ys m no_sample) one)

-- and of the rows that a system shows
pub shown-streams : (legs : List Leg) (ys : List Sample) (rows : List Row) → rows_of legs ys ≡ rows → length rows ≡ length legs
shown-streams legs ys rows is = ap length (sym is) ∙ length-rows_of legs ys

pub shown-row : (legs : List Leg) (ys : List Sample) (rows : List Row) (k : ℕ) → rows_of legs ys ≡ rows → k < length rows
    → get_or rows k no_row
    ≡ record { diagonal = (get_or legs k no_leg).diagonal; right = (get_or legs k no_leg).right; sample = get_or ys k no_sample }
shown-row legs ys rows k is below =
    let streams = shown-streams legs ys rows is in
    ap (λ (all : List Row). get_or all k no_row) (sym is) ∙ rows_of-at legs k ys (omega arith)

-- the entry of a row k for a stream behind it, where row k begins at `from`
pub entry-at : (n k i from : ℕ) (ds : List ℕ) (ts : List Tap) → k < n → i < n - (k + 1) → from + entries_of (n - k) ≡ entries_of n
    → get_or (get_or (legs_of n ds ts) k no_leg).right i no_tap ≡ get_or ts (from + i) no_tap
entry-at n k i from ds ts below within e =
    ap (λ (leg : Leg). get_or leg.right i no_tap) (legs_of-at n k from ds ts below e)
    ∙ get_or-take (n - (k + 1)) (drop from ts) i no_tap within
    ∙ get_or-drop from ts i no_tap

-- the diagonal of row k
pub diagonal-at : (n k : ℕ) (ds : List ℕ) (ts : List Tap) → k < n → (get_or (legs_of n ds ts) k no_leg).diagonal ≡ get_or ds k 0
diagonal-at n k ds ts below =
    let less = entries_less n k in
    ap (λ (leg : Leg). leg.diagonal) (legs_of-at n k (entries_of n - entries_of (n - k)) ds ts below (omega arith))

-- where the entries of row k begin
pub starts : (n k : ℕ) → n ≤ 4 → 1 ≤ k → k ≤ n → (2 * n - k) * (k - 1) / 2 + entries_of (n - (k - 1)) ≡ entries_of n
starts zero k few some within = absurd (omega arith)
starts (suc zero) (suc zero) few some within = refl
starts (suc (suc zero)) (suc zero) few some within = refl
starts (suc (suc zero)) (suc (suc zero)) few some within = refl
starts (suc (suc (suc zero))) (suc zero) few some within = refl
starts (suc (suc (suc zero))) (suc (suc zero)) few some within = refl
starts (suc (suc (suc zero))) (suc (suc (suc zero))) few some within = refl
starts (suc (suc (suc (suc zero)))) (suc zero) few some within = refl
starts (suc (suc (suc (suc zero)))) (suc (suc zero)) few some within = refl
starts (suc (suc (suc (suc zero)))) (suc (suc (suc zero))) few some within = refl
starts (suc (suc (suc (suc zero)))) (suc (suc (suc (suc zero)))) few some within = refl
starts n k few some within = absurd (omega arith)
