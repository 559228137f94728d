-- A walk has at most 19,173,960 marks: those of eight coordinates of eight levels each.
use Rattle.std.proofs.Common.{◌≡◌, ℕ, zero, suc, ◌+◌, ◌*◌, ◌≤◌, ℤ, List, [], ◌∷◌, ◌++◌, length, Bool, true, false, nat_lt, if◌then◌else◌, arith}
use Rattle.std.proofs.lemmas.List.{length-append}
use Rattle.std.proofs.Math.Nat.{mul-le-mul_right}
use Rattle.ht_pam.specs.Ladders.{levels as allowed}
use Rattle.ht_pam.proofs.Tables.{levels_few}
use Rattle.ht_pam.specs.declared.axes.Axes.{Axes}
use Rattle.ht_metric.specs.Jobs.{IsJob, JobView}
use Rattle.ht_metric.specs.Rows.{Row}
use Rattle.ht_sphere.specs.Coordinates.{Real, cost, from_last, in_phase, quadrature}
use Rattle.ht_sphere.proofs.Finding.{good_rows}
use Rattle.ht_sphere.proofs.Paths.{AreGood}
use Rattle.ht_witness.specs.Marking.{marks_by, marks_of}

-- the marks below a suffix with this number of coordinates in front of it, where each has eight levels, all open
abbrev most : ℕ → ℕ
most zero = 0
most (suc n) = 8 * (1 + most n)

one_more : (b : Bool) (n most : ℕ) (under rest : List Bool) → length under ≤ most → length rest ≤ n * (1 + most)
    → length ((if b then false ∷ [] else true ∷ under) ++ rest) ≤ suc n * (1 + most)
one_more true n most under rest few le =
    let times : suc n * (1 + most) ≡ (1 + most) + n * (1 + most) = omega arith in omega (arith, le, times)
one_more false n most under rest few le =
    let times : suc n * (1 + most) ≡ (1 + most) + n * (1 + most) = omega arith in
    omega (arith, le, few, times, length-append under rest)

few_by : (d : ℕ) (under : List ℤ → ℕ → List Bool) (c : Real) (s : List ℤ) (p most : ℕ) (xs : List ℤ)
    → ((t : List ℤ) (q : ℕ) → length (under t q) ≤ most) → length (marks_by d under c s p xs) ≤ length xs * (1 + most)
few_by d under c s p most [] few = omega arith
few_by d under c s p most (x ∷ xs) few =
    one_more (nat_lt d (p + cost c s x)) (length xs) most (under (x ∷ s) (p + cost c s x)) (marks_by d under c s p xs)
    (few (x ∷ s) (p + cost c s x)) (few_by d under c s p most xs few)

both_le : (a b c : ℕ) → a ≤ b → b ≤ c → a ≤ c
both_le a b c x y = omega (arith, x, y)

few_marks : (d n : ℕ) (cs : List Real) (s : List ℤ) (p : ℕ) → length cs ≤ n → AreGood cs → length (marks_of d cs s p) ≤ most n
few_marks d n [] s p le good = omega arith
few_marks d zero (c ∷ cs) s p le good = absurd (omega (arith, le))
few_marks d (suc n) (c ∷ cs) s p le good =
    let each = few_by d (marks_of d cs) c s p (most n) (allowed c.ladder) (λ t q. few_marks d n cs t q (omega (arith, le)) good.1) in
    let wide : length (allowed c.ladder) * (1 + most n) ≤ 8 * (1 + most n) = mul-le-mul_right (1 + most n) (levels_few c.ladder good.0) in
    both_le (length (marks_by d (marks_of d cs) c s p (allowed c.ladder))) (length (allowed c.ladder) * (1 + most n)) (8 * (1 + most n)) each wide

-- two coordinates for each stream
twice : (rows : List Row) (grid : List Axes) → length (from_last rows grid) ≤ 2 * length rows
twice [] grid = omega arith
twice (row ∷ rows) [] = omega arith
twice (row ∷ rows) (a ∷ grid) =
    omega (arith, length-append (from_last rows grid) (quadrature (length rows) row a ∷ in_phase (length rows) row a ∷ []), twice rows grid)

pub marks_few : (d : ℕ) (job : JobView) → IsJob job → length (marks_of d (from_last job.system job.grid) [] 0) ≤ 19173960
marks_few d job is =
    let eight : length (from_last job.system job.grid) ≤ 8 = omega (arith, twice job.system job.grid, is.streams, is.grid.few) in
    few_marks d 8 (from_last job.system job.grid) [] 0 eight (good_rows job.system job.grid is.grid.ladders)
