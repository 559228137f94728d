-- Blocks that are given to the pool, or stay with the caller.
use Rattle.std.proofs.Common.{◌≡◌, ℕ, zero, suc, ◌+◌, ◌≤◌, List, [], ◌∷◌, ◌++◌, length, drop, slice_get, Some, false}
use Rattle.std.proofs.Common.{if◌then◌else◌, ◌==◌, nat_lt, refl, ap, sym, subst, ◌∙◌, arith}
use Rattle.std.specs.List.{sum_by}
use Rattle.std.proofs.lemmas.Bool.Decides.{nat_tests}
use Rattle.std.proofs.lemmas.List.{length-append, drop-drop}
use Rattle.std.proofs.lemmas.List.Sums.{sum_by-append, sum_by-cons, sum_by_push}
use Rattle.ht_metric.specs.Jobs.{JobView}
use Rattle.ht_feed.specs.OwnNumbers.{AreByNumber, HaveNumbers, is_below, is_number}
use Rattle.ht_feed.specs.Dues.{NoneEmpty, all_in}
use Rattle.ht_feed.specs.Feeds.{FeedView, GivesBlock, IsAlong}
use Rattle.ht_feed.specs.Items.{Numbered}
use Rattle.ht_feed.proofs.Turning.{all_in-more, came_of}
use Rattle.ht_drive.specs.Blocks.{IsSameCaller, gave}
use Rattle.ht_drive.specs.Blocks.{BlockCaller, IsBlock, jobs_in, jobs_of}
use Rattle.ht_drive.specs.Driving.{AreCountsOf}
use Rattle.ht_drive.specs.declared.counts.CallerCounts.{CallerCounts}
use Rattle.ht_drive.proofs.Windows.{full-more}

below_later : (n m more : ℕ) → (if nat_lt n m then 1 else 0) ≤ (if nat_lt n (m + more) then 1 else 0)
below_later n m more = grind (arith, nat_tests)

number_step : (n m k : ℕ) → k ≡ m → (if k == n then 1 else 0) + (if nat_lt n m then 1 else 0) ≤ (if nat_lt n (m + 1) then 1 else 0)
number_step n m k e = grind (arith, nat_tests, e)

-- jobs that are numbered on have numbers of their own
numbers_on : (n count : ℕ) (jobs : List JobView) → Numbered count jobs → sum_by (is_number n) jobs + is_below count n ≤ is_below (count + length jobs) n
numbers_on n count [] numbered = omega (arith, below_later n count 0)
numbers_on n count (job ∷ jobs) numbered =
    let at : count + 1 + length jobs ≡ count + length (job ∷ jobs) = omega arith in
    let later : sum_by (is_number n) jobs + is_below (count + 1) n ≤ is_below (count + length (job ∷ jobs)) n =
    subst (λ (m : ℕ). sum_by (is_number n) jobs + is_below (count + 1) n ≤ is_below m n) at (numbers_on n (count + 1) jobs numbered.1) in
    omega (arith, sum_by-cons (is_number n) job jobs, number_step n count job.number numbered.0, later)

numbers_more : (count : ℕ) (given jobs : List JobView) → HaveNumbers count given → Numbered count jobs → HaveNumbers (count + length jobs) (given ++ jobs)
numbers_more count given jobs was numbered n = omega (arith, was n, sum_by-append (is_number n) given jobs, numbers_on n count jobs numbered)

numbers_later : (count more : ℕ) (given : List JobView) → HaveNumbers count given → HaveNumbers (count + more) given
numbers_later count more given was n = omega (arith, was n, below_later n count more)

-- it is the same caller still
pub same_on : (a b c : BlockCaller) → IsSameCaller a b → IsSameCaller b c → IsSameCaller a c
same_on a b c ab bc = record {
  capacity_is = bc.capacity_is ∙ ab.capacity_is;
  deques_are = bc.deques_are ∙ ab.deques_are;
  queue_is = bc.queue_is ∙ ab.queue_is;
}

-- the same was given to the same pool
pub counted_still : (t : CallerCounts) (h h' : BlockCaller) → AreCountsOf t h → h'.given ≡ h.given → h'.capacity ≡ h.capacity → AreCountsOf t h'
counted_still t h h' was given room =
    let same = ap (λ (xs : List (List JobView)). length xs) given in
    record {
      jobs = omega (arith, was.jobs, ap jobs_of given);
      blocks = omega (arith, was.blocks, same);
      full = subst (λ (xs : List (List JobView)). NoneEmpty xs) (sym given) was.full;
      sure = λ kept. omega (arith, was.sure kept, same, room);
      numbers = subst (λ (xs : List (List JobView)). HaveNumbers t.issued (all_in xs)) (sym given) was.numbers;
    }

-- a block was given, or the pool had no memory for it
module _ (t : CallerCounts) (h : BlockCaller) (jobs : List JobView) (counted : AreCountsOf t h) (numbered : Numbered t.issued jobs) (block : IsBlock jobs) where
  pub issues_given : (t' : CallerCounts) → t'.issued ≡ t.issued + length jobs → t'.own ≡ t.own → AreCountsOf t' (gave h jobs)
  issues_given t' issued own =
      let some = block.some in
      record {
        jobs = omega (arith, counted.jobs, sum_by_push jobs_in h.given jobs, issued, own);
        blocks = omega (arith, counted.blocks, length-append h.given (jobs ∷ []), issued, some);
        full = full-more h.given jobs counted.full block.some;
        sure = λ kept. omega (arith, counted.sure (omega (arith, kept, own)), length-append h.given (jobs ∷ []));
        numbers = subst (λ (n : ℕ). HaveNumbers n (all_in (h.given ++ jobs ∷ []))) (sym issued)
            (subst (λ (xs : List JobView). HaveNumbers (t.issued + length jobs) xs) (sym (all_in-more h.given jobs))
            (numbers_more t.issued (all_in h.given) jobs counted.numbers numbered));
      }

  pub issues_kept : (t' : CallerCounts) → t'.issued ≡ t.issued + length jobs → t'.own ≡ t.own + length jobs → h.capacity ≤ length h.given → AreCountsOf t' h
  issues_kept t' issued own full = record {
    jobs = omega (arith, counted.jobs, issued, own);
    blocks = omega (arith, counted.blocks, issued);
    full = counted.full;
    sure = λ kept. full;
    numbers = subst (λ (n : ℕ). HaveNumbers n (all_in h.given)) (sym issued) (numbers_later t.issued (length jobs) (all_in h.given) counted.numbers);
  }

-- jobs that are told behind others
told_more : (all given jobs : List JobView) → AreByNumber all given → AreByNumber all jobs → AreByNumber all (given ++ jobs)
told_more all [] jobs told more = more
told_more all (g ∷ given) jobs told more = (told.0, told_more all given jobs told.1 more)

pub told_given : (all : List JobView) (h : BlockCaller) (jobs : List JobView) → AreByNumber all (all_in h.given) → AreByNumber all jobs
    → AreByNumber all (all_in (gave h jobs).given)
told_given all h jobs told more =
    subst (λ (xs : List JobView). AreByNumber all xs) (sym (all_in-more h.given jobs)) (told_more all (all_in h.given) jobs told more)

at_dropped : (n : ℕ) (xs : List JobView) (x : JobView) (rest : List JobView) → drop n xs ≡ x ∷ rest → slice_get xs n ≡ Some x
at_dropped zero xs x rest e = ap (λ (ys : List JobView). slice_get ys 0) e
at_dropped (suc n) [] x rest e = let none : 0 ≡ length (x ∷ rest) = ap (λ (ys : List JobView). length ys) e in absurd (omega arith)
at_dropped (suc n) (y ∷ ys) x rest e = at_dropped n ys x rest e

-- jobs that stand behind this number of others, and are numbered so
told_behind : (n : ℕ) (all jobs after : List JobView) → drop n all ≡ jobs ++ after → Numbered n jobs → AreByNumber all jobs
told_behind n all [] after e numbered = tt
told_behind n all (job ∷ jobs) after e numbered = (
  ap (λ (k : ℕ). slice_get all k) numbered.0 ∙ at_dropped n all job (jobs ++ after) e,
  told_behind (n + 1) all jobs after (sym (drop-drop 1 n all) ∙ ap (λ (xs : List JobView). drop 1 xs) e) numbered.1,
)

-- the jobs of a block that a feed gives in turn are those of their numbers
pub told_block : {Fault : Type 0} (most : ℕ) (all : List JobView) (f f' : FeedView Fault) (jobs : List JobView) → IsAlong (Some all) f
    → f.ended ≡ false → GivesBlock most f f' jobs → AreByNumber all jobs
told_block most all f f' jobs along running gives =
    let came = came_of most (Some all) f f' jobs along running gives all refl in
    told_behind f.count all jobs came.after came.is gives.numbers
