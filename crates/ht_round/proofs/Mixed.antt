-- What triangles make of the vectors of symbols, vector by vector, and the systems of such samples.
use Rattle.std.proofs.Common.{◌≡◌, ℕ, zero, suc, ◌+◌, ◌*◌, ◌<◌, ◌≤◌, List, [], ◌∷◌, ◌++◌, length, take, drop, map}
use Rattle.std.proofs.Common.{refl, sym, ap, ◌∙◌, length-append, arith}
use Rattle.std.proofs.Math.Nat.{add-mul, suc-mul}
use Rattle.std.specs.List.{AllByRecursion}
use Rattle.std.proofs.lemmas.List.{drop-drop, drop-take, take-take}
use Rattle.std.proofs.lemmas.List.Elements.{All-cons, All-head, All-nil, All-tail}
use Rattle.ht_pam.specs.declared.point.Point.{Point}
use Rattle.ht_metric.specs.declared.complex.Complex.{Complex}
use Rattle.ht_metric.specs.declared.sample.Sample.{Sample}
use Rattle.ht_metric.specs.Distance.{combined, plus, received, scaled}
use Rattle.ht_metric.specs.Noiseless.{IsNoiseless, IsRegular}
use Rattle.ht_metric.specs.Rows.{Leg, Row, rows_of}
use Rattle.ht_sim.specs.Channel.{mixed, row_mixed, symbol_mixed, symbols_mixed}
use Rattle.ht_sim.proofs.Shapes.{length-mixed}
use Rattle.ht_round.specs.Exact.{HasFullDiagonal}
use Rattle.ht_round.proofs.Points.{vector_from}

-- what triangles make of the vectors from one on
abbrev pub symbol_from : ℕ → ℕ → List (List Leg) → List Point → List Complex
symbol_from streams number [] points = []
symbol_from streams number (t ∷ ts) points = mixed t (vector_from streams points number) ++ symbol_from streams (number + 1) ts points

-- and of those of a number of symbols from one on
abbrev pub symbols_from : ℕ → ℕ → ℕ → List (List Leg) → List Point → List Complex
symbols_from zero streams symbol ts points = []
symbols_from (suc n) streams symbol ts points = symbol_from streams (symbol * length ts) ts points ++ symbols_from n streams (symbol + 1) ts points

next_place : (number streams : ℕ) → number * streams + streams ≡ (number + 1) * streams
next_place number streams = omega (arith, add-mul number 1 streams)

symbol_is : (streams number : ℕ) (ts : List (List Leg)) (points : List Point)
    → symbol_mixed streams ts (take (length ts * streams) (drop (number * streams) points)) ≡ symbol_from streams number ts points
symbol_is streams number [] points = refl
symbol_is streams number (t ∷ ts) points =
    let n : ℕ = length ts in
    let left : List Point = drop (number * streams) points in
    let wide : suc n * streams ≡ streams + n * streams = omega (arith, suc-mul n streams) in
    let few : streams ≤ streams + n * streams = omega arith in
    let here : take streams (take (suc n * streams) left) ≡ vector_from streams points number =
    ap (λ (k : ℕ). take streams (take k left)) wide ∙ take-take streams (streams + n * streams) left few in
    let behind : drop streams (take (suc n * streams) left) ≡ take (n * streams) (drop ((number + 1) * streams) points) =
    ap (λ (k : ℕ). drop streams (take k left)) wide
    ∙ (drop-take streams (n * streams) left
    ∙ ap (λ (ps : List Point). take (n * streams) ps)
    (drop-drop streams (number * streams) points ∙ ap (λ (k : ℕ). drop k points) (next_place number streams))) in
    ap (λ (ps : List Point). mixed t ps ++ symbol_mixed streams ts (drop streams (take (suc n * streams) left))) here
    ∙ ap (λ (cs : List Complex). mixed t (vector_from streams points number) ++ cs)
    (ap (symbol_mixed streams ts) behind ∙ symbol_is streams (number + 1) ts points)

pub symbols_are : (n streams symbol : ℕ) (ts : List (List Leg)) (points : List Point)
    → symbols_mixed n streams ts (drop (symbol * length ts * streams) points) ≡ symbols_from n streams symbol ts points
symbols_are zero streams symbol ts points = refl
symbols_are (suc n) streams symbol ts points =
    let w : ℕ = length ts * streams in
    let left : List Point = drop (symbol * length ts * streams) points in
    let place : symbol * length ts * streams + w ≡ (symbol + 1) * length ts * streams =
    sym (add-mul (symbol * length ts) (length ts) streams) ∙ ap (λ (k : ℕ). k * streams) (next_place symbol (length ts)) in
    let behind : drop w left ≡ drop ((symbol + 1) * length ts * streams) points =
    drop-drop w (symbol * length ts * streams) points ∙ ap (λ (k : ℕ). drop k points) place in
    ap (λ (cs : List Complex). cs ++ symbols_mixed n streams ts (drop w left)) (symbol_is streams (symbol * length ts) ts points)
    ∙ ap (λ (cs : List Complex). symbol_from streams (symbol * length ts) ts points ++ cs)
    (ap (symbols_mixed n streams ts) behind ∙ symbols_are n streams (symbol + 1) ts points)

pub all_symbols : (n streams : ℕ) (ts : List (List Leg)) (points : List Point) → symbols_mixed n streams ts points ≡ symbols_from n streams 0 ts points
all_symbols n streams ts points =
    let none : 0 ≡ 0 * length ts * streams = omega arith in
    ap (λ (k : ℕ). symbols_mixed n streams ts (drop k points)) none ∙ symbols_are n streams 0 ts points

-- how many there are
abbrev pub HaveRows : ℕ → List (List Leg) → Type 0
HaveRows streams ts = AllByRecursion (λ (t : List Leg). length t ≡ streams) ts

pub length-symbol : (streams number : ℕ) (ts : List (List Leg)) (points : List Point) → HaveRows streams ts
    → length (symbol_from streams number ts points) ≡ length ts * streams
length-symbol streams number [] points rows = omega arith
length-symbol streams number (t ∷ ts) points rows =
    let here : length (mixed t (vector_from streams points number)) ≡ streams = length-mixed t (vector_from streams points number) ∙ rows.0 in
    let rest = length-symbol streams (number + 1) ts points rows.1 in
    length-append (mixed t (vector_from streams points number)) (symbol_from streams (number + 1) ts points)
    ∙ omega (arith, suc-mul (length ts) streams, here, rest)

pub length-symbols : (n streams symbol : ℕ) (ts : List (List Leg)) (points : List Point) → HaveRows streams ts
    → length (symbols_from n streams symbol ts points) ≡ n * (length ts * streams)
length-symbols zero streams symbol ts points rows = omega arith
length-symbols (suc n) streams symbol ts points rows =
    let here = length-symbol streams (symbol * length ts) ts points rows in
    let rest = length-symbols n streams (symbol + 1) ts points rows in
    length-append (symbol_from streams (symbol * length ts) ts points) (symbols_from n streams (symbol + 1) ts points)
    ∙ omega (arith, suc-mul n (length ts * streams), here, rest)

-- a system whose samples begin with what its triangle makes of a vector
same_first : (a b : Complex) (us vs : List Complex) → a ∷ us ≡ b ∷ vs → a ≡ b
same_first a b us vs e = cc

same_rest : (a b : Complex) (us vs : List Complex) → a ∷ us ≡ b ∷ vs → us ≡ vs
same_rest a b us vs e = cc

no_first : (b : Complex) (bs : List Complex) → [] ≡ b ∷ bs → ⊥
no_first b bs e = cc

pub noiseless_rows : (t : List Leg) (ys : List Sample) (xs : List Point) (rest : List Complex) → length xs ≡ length t
    → map received ys ≡ mixed t xs ++ rest → IsNoiseless (rows_of t ys) xs
noiseless_rows [] ys [] rest long e = tt
noiseless_rows [] ys (x ∷ xs) rest long e = absurd (omega (arith, long))
noiseless_rows (leg ∷ legs) ys [] rest long e = absurd (omega (arith, long))
noiseless_rows (leg ∷ legs) [] (x ∷ xs) rest long e = absurd (no_first (row_mixed leg (x ∷ xs)) (mixed legs xs ++ rest) e)
noiseless_rows (leg ∷ legs) (y ∷ ys) (x ∷ xs) rest long e = (
  same_first (received y) (plus (scaled leg.diagonal x) (combined leg.right xs)) (map received ys) (mixed legs xs ++ rest) e,
  noiseless_rows legs ys xs rest (omega (arith, long))
      (same_rest (received y) (plus (scaled leg.diagonal x) (combined leg.right xs)) (map received ys) (mixed legs xs ++ rest) e),
)

pub regular_rows : (t : List Leg) (ys : List Sample) → HasFullDiagonal t → IsRegular (rows_of t ys)
regular_rows [] ys full = All-nil (λ (row : Row). 0 < row.diagonal)
regular_rows (leg ∷ legs) ys full =
    All-cons (λ (row : Row). 0 < row.diagonal) _ (rows_of legs (drop 1 ys)) (All-head (λ (l : Leg). 0 < l.diagonal) leg legs full)
    (regular_rows legs (drop 1 ys) (All-tail (λ (l : Leg). 0 < l.diagonal) leg legs full))
