-- How many jobs have a number.
use Rattle.std.proofs.Common.{◌≡◌, ◌≢◌, ℕ, zero, suc, ◌+◌, ◌<◌, ◌≤◌, ◌==◌, List, [], ◌∷◌, length, get_or, Bool, true, false, cond, refl, ap, arith}
use Rattle.std.proofs.lemmas.Bool.{false≢true}
use Rattle.std.specs.Prelude.{slice_get, Option, Some, None, is_some}
use Rattle.std.specs.List.{sum_by, flat_map}
use Rattle.std.specs.Option.{option_to_list}
use Rattle.std.proofs.lemmas.List.Sums.{sum_by-cons}
use Rattle.ht_metric.specs.Jobs.{JobView}
use Rattle.ht_metric.specs.declared.hit.Hit.{Hit}
use Rattle.ht_machine.specs.Machine.{has_number, hit_of}
use Rattle.ht_machine.specs.Facts.{jobs_of}

abbrev pub one_of : ℕ → JobView → ℕ
one_of n j = cond (j.number == n) 1 0

pub one_is : (n : ℕ) (j : JobView) → j.number ≡ n → one_of n j ≡ 1
one_is n j e = grind (arith, e)

pub one_not : (n : ℕ) (j : JobView) → j.number ≢ n → one_of n j ≡ 0
one_not n j e = grind (arith, e)

abbrev pub IsFrom : ℕ → List JobView → Type 0
IsFrom off xs = (k : ℕ) (j : JobView) → slice_get xs k ≡ Some j → j.number ≡ off + k

from_next : (off : ℕ) (x : JobView) (xs : List JobView) → IsFrom off (x ∷ xs) → IsFrom (suc off) xs
from_next off x xs from k j e = let is = from (suc k) j e in omega (arith, is)

-- none of the jobs that are numbered from here on has a number of none of them
not_among : (n off : ℕ) (xs : List JobView) → IsFrom off xs → ((k : ℕ) → k < length xs → off + k ≢ n) → sum_by (one_of n) xs ≡ 0
not_among n off [] from others = refl
not_among n off (x ∷ xs) from others =
    let is = from 0 x refl in
    let first = others 0 (omega arith) in
    omega (
      arith,
      sum_by-cons (one_of n) x xs,
      one_not n x (let other : x.number ≢ n = omega (arith, is, first) in other),
      not_among n (suc off) xs (from_next off x xs from)
          (λ k lt. let next = others (suc k) (omega (arith, lt)) in let other : suc off + k ≢ n = omega (arith, next) in other),
    )

-- jobs that are numbered one after another have each number once
pub absent : (n off : ℕ) (xs : List JobView) → IsFrom off xs → n < off → sum_by (one_of n) xs ≡ 0
absent n off xs from lt = not_among n off xs from (λ k below. let other : off + k ≢ n = omega (arith, lt) in other)

pub beyond : (n off : ℕ) (xs : List JobView) → IsFrom off xs → off + length xs ≤ n → sum_by (one_of n) xs ≡ 0
beyond n off xs from ge = not_among n off xs from (λ k below. let other : off + k ≢ n = omega (arith, ge, below) in other)

pub present : (n off d : ℕ) (xs : List JobView) → IsFrom off xs → n ≡ off + d → d < length xs → sum_by (one_of n) xs ≡ 1
present n off d [] from is lt = absurd (omega (arith, lt))
present n off zero (x ∷ xs) from is lt =
    let first = from 0 x refl in
    omega (arith, sum_by-cons (one_of n) x xs, one_is n x (omega (arith, first, is)), absent n (suc off) xs (from_next off x xs from) (omega (arith, is)))
present n off (suc d) (x ∷ xs) from is lt =
    let first = from 0 x refl in
    omega (
      arith,
      sum_by-cons (one_of n) x xs,
      one_not n x (let other : x.number ≢ n = omega (arith, first, is) in other),
      present n (suc off) d xs (from_next off x xs from) (omega (arith, is)) (omega (arith, lt)),
    )

-- where one of a number is, something is
pub found_hand : (n : ℕ) (hands : List (Option JobView)) → 0 < sum_by (one_of n) (flat_map option_to_list hands)
    → (a : ℕ) × (a < length hands) × (is_some (get_or hands a None) ≡ true)
found_hand n [] some = absurd (omega (arith, some))
found_hand n (None ∷ hands) some = let p = found_hand n hands some in (suc p.0, let lt = p.1 in omega (arith, lt), p.2)
found_hand n (Some job ∷ hands) some = (0, omega arith, refl)

pub found_deque : (n : ℕ) (deques : List (List JobView)) → 0 < sum_by (one_of n) (flat_map (λ jobs. jobs) deques)
    → (a : ℕ) × (a < length deques) × (0 < length (get_or deques a []))
found_deque n [] some = absurd (omega (arith, some))
found_deque n ([] ∷ deques) some = let p = found_deque n deques some in (suc p.0, let lt = p.1 in omega (arith, lt), p.2)
found_deque n ((job ∷ jobs) ∷ deques) some = (0, omega arith, omega arith)

found_hit_from : (b : Bool) (n : ℕ) (x : Hit) (hits : List Hit) → has_number n x ≡ b → (0 < sum_by (one_of n) (jobs_of hits) → is_some (hit_of n hits) ≡ true)
    → 0 < sum_by (one_of n) (jobs_of (x ∷ hits)) → is_some (cond b (Some x) (hit_of n hits)) ≡ true
found_hit_from true n x hits is rest some = refl
found_hit_from false n x hits is rest some =
    let other : one_of n x.job ≡ 0 = ap (λ (b : Bool). cond b 1 0) is in
    rest (omega (arith, some, other, sum_by-cons (one_of n) x.job (jobs_of hits)))

pub found_hit : (n : ℕ) (hits : List Hit) → 0 < sum_by (one_of n) (jobs_of hits) → is_some (hit_of n hits) ≡ true
found_hit n [] some = absurd (omega (arith, some))
found_hit n (x ∷ hits) some = found_hit_from (has_number n x) n x hits refl (found_hit n hits) some

-- where a hit of a number is, one of it is; where none is, none
counts_from : (b : Bool) (n : ℕ) (x : Hit) (hits : List Hit) → has_number n x ≡ b → (is_some (hit_of n hits) ≡ true → 0 < sum_by (one_of n) (jobs_of hits))
    → is_some (cond b (Some x) (hit_of n hits)) ≡ true → 0 < sum_by (one_of n) (jobs_of (x ∷ hits))
counts_from true n x hits is rest some =
    let one : one_of n x.job ≡ 1 = ap (λ (b : Bool). cond b 1 0) is in
    omega (arith, one, sum_by-cons (one_of n) x.job (jobs_of hits))
counts_from false n x hits is rest some = omega (arith, rest some, sum_by-cons (one_of n) x.job (jobs_of hits))

pub hit_counts : (n : ℕ) (hits : List Hit) → is_some (hit_of n hits) ≡ true → 0 < sum_by (one_of n) (jobs_of hits)
hit_counts n [] some = absurd (false≢true some)
hit_counts n (x ∷ hits) some = counts_from (has_number n x) n x hits refl (hit_counts n hits) some

none_counts_from : (n : ℕ) (hits : List Hit) → is_some (hit_of n hits) ≢ true → (k : ℕ) → sum_by (one_of n) (jobs_of hits) ≡ k → k ≡ 0
none_counts_from n hits none zero e = refl
none_counts_from n hits none (suc k) e = absurd (none (found_hit n hits (omega (arith, e))))

pub none_counts : (n : ℕ) (hits : List Hit) → is_some (hit_of n hits) ≢ true → sum_by (one_of n) (jobs_of hits) ≡ 0
none_counts n hits none = none_counts_from n hits none (sum_by (one_of n) (jobs_of hits)) refl
