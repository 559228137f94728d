-- The jobs of a part of a symbol.
use Rattle.std.proofs.Common.{◌≡◌, ℕ, zero, suc, ◌+◌, ◌-◌, ◌<◌, ◌≤◌, List, ◌∷◌, ◌++◌, length, map, refl, sym, ap, subst, ◌∙◌, true, arith}
use Rattle.std.specs.Prelude.{IfSome, Option, Some, slice_get}
use Rattle.std.proofs.lemmas.List.{map-append}
use Rattle.std.proofs.lemmas.List.FromFn.{length-map-range_with_len}
use Rattle.ht_fields.specs.Meanings.{Meaning, before}
use Rattle.ht_fields.proofs.Steps.{before-before}
use Rattle.ht_metric.specs.Jobs.{JobView}
use Rattle.ht_metric.specs.declared.place.Place.{Place}
use Rattle.ht_clause18.specs.Carriers.{carriers}
use Rattle.ht_feed.specs.Items.{Item, One, Numbered}
use Rattle.ht_feed.specs.Reading.{CountsBlock}
use Rattle.ht_legacy_blocks.specs.declared.head.LegacyFrameHead.{LegacyFrameHead}
use Rattle.ht_legacy_blocks.specs.Jobs.{SymbolView, job_of, jobs_between}
use Rattle.ht_legacy_blocks.specs.Readers.{first_of}

pub jobs_length : (s : SymbolView) (first count : ℕ) → length (jobs_between s first count) ≡ count
unfolding jobs_between
jobs_length s first count = length-map-range_with_len (job_of s) first count

jobs_get : (s : SymbolView) (count first k : ℕ) → k < count → slice_get (jobs_between s first count) k ≡ Some (job_of s (first + k))
unfolding jobs_between
jobs_get s zero first k lt = absurd (omega arith)
jobs_get s (suc count) first zero lt =
    let same : first ≡ first + 0 = omega arith in
    ap (λ n. let o : Option JobView = Some (job_of s n) in o) same
jobs_get s (suc count) first (suc k) lt =
    let same : first + 1 + k ≡ first + suc k = omega arith in
    jobs_get s count (first + 1) k (omega (arith, lt)) ∙ ap (λ n. let o : Option JobView = Some (job_of s n) in o) same

-- they are numbered on
jobs_numbered : (s : SymbolView) (count first n : ℕ) → s.number + first ≡ n → Numbered n (jobs_between s first count)
unfolding job_of jobs_between
jobs_numbered s zero first n is = tt
jobs_numbered s (suc count) first n is = (is, jobs_numbered s count (first + 1) (n + 1) (omega (arith, is)))

jobs_split : (s : SymbolView) (a b first : ℕ) → jobs_between s first (a + b) ≡ jobs_between s first a ++ jobs_between s (first + a) b
unfolding jobs_between
jobs_split s zero b first =
    let same : first ≡ first + 0 = omega arith in
    let none : 0 + b ≡ b = omega arith in
    ap (jobs_between s first) none ∙ ap (λ n. jobs_between s n b) same
jobs_split s (suc a) b first =
    let same : first + 1 + a ≡ first + suc a = omega arith in
    let count : suc a + b ≡ suc (a + b) = omega arith in
    ap (jobs_between s first) count
    ∙ ap (λ (js : List JobView). job_of s first ∷ js) (jobs_split s a b (first + 1) ∙ ap (λ n. jobs_between s (first + 1) a ++ jobs_between s n b) same)

-- the jobs that are left: some of them, and then the others
pub left_split : (s : SymbolView) (left count : ℕ) (rest : Meaning (Item LegacyFrameHead)) → left ≤ carriers → count ≤ left
    → before (map One (jobs_between s (first_of left) left)) rest
    ≡ before (map One (jobs_between s (first_of left) count)) (before (map One (jobs_between s (first_of (left - count)) (left - count))) rest)
left_split s left count rest few within =
    let first = first_of left in
    let all : left ≡ count + (left - count) = omega (arith, within) in
    let behind : first + count ≡ first_of (left - count) = omega (arith, few, within) in
    let one : List JobView → List (Item LegacyFrameHead) = λ jobs. map One jobs in
    ap (λ (is : List (Item LegacyFrameHead)). before is rest)
    (ap (λ n. one (jobs_between s first n)) all
    ∙ (ap one (jobs_split s count (left - count) first)
    ∙ (map-append One (jobs_between s first count) (jobs_between s (first + count) (left - count))
    ∙ ap (λ n. one (jobs_between s first count) ++ one (jobs_between s n (left - count))) behind)))
    ∙ sym (before-before (one (jobs_between s first count)) (one (jobs_between s (first_of (left - count)) (left - count))) rest)

-- as a block gives them
pub block_job : (s d : SymbolView) (first count at : ℕ) (job : JobView) → at < count → d ≡ s → job ≡ job_of d (first + at)
    → Some job ≡ slice_get (jobs_between s first count) at
block_job s d first count at job lt same is =
    let some : JobView → Option JobView = Some in
    ap some (is ∙ ap (λ (x : SymbolView). job_of x (first + at)) same) ∙ sym (jobs_get s count first at lt)

pub block_place : (s d : SymbolView) (first count at n : ℕ) (place : Place) → at < count → d ≡ s → first + at ≡ n → place ≡ (job_of d n).place
    → IfSome (slice_get (jobs_between s first count) at) (λ job. job.place ≡ place)
block_place s d first count at n place lt same sum is =
    let there : (job_of s (first + at)).place ≡ place =
    ap (λ m. (job_of s m).place) sum ∙ sym (is ∙ ap (λ (x : SymbolView). (job_of x n).place) same) in
    subst (λ (o : Option JobView). IfSome o (λ job. job.place ≡ place)) (sym (jobs_get s count first at lt)) there

-- a place among the jobs of a block
pub inside_block : (s : SymbolView) (first count at : ℕ) → at < length (jobs_between s first count) → at < count
inside_block s first count at lt = subst (λ n. at < n) (jobs_length s first count) lt

-- a block of some of the jobs that are left
pub block_of : (s d : SymbolView) (left count : ℕ) (block : List JobView) → s ≡ d → block ≡ jobs_between s (first_of left) count
    → block ≡ jobs_between d (first_of left) count
block_of s d left count block same is = is ∙ ap (λ (x : SymbolView). jobs_between x (first_of left) count) same

pub block_counts : (most left number more count : ℕ) (s : SymbolView) (block : List JobView) → block ≡ jobs_between s (first_of left) count
    → 1 ≤ count → count ≤ most → count ≤ left → left ≤ carriers → left ≤ number → s.number + carriers ≡ number
    → CountsBlock most (record { given = number - left; more = left + more; going = true })
    (record { given = number - (left - count); more = (left - count) + more; going = true }) block
block_counts most left number more count s block is some few within low given whole =
    let size : length block ≡ count = ap (λ (jobs : List JobView). length jobs) is ∙ jobs_length s (first_of left) count in
    let first : s.number + first_of left ≡ number - left = omega (arith, low, given, whole) in
    let sum : number - (left - count) ≡ number - left + length block = omega (arith, size, within, given) in
    record {
      going = refl;
      numbers = subst (λ (jobs : List JobView). Numbered (number - left) jobs) (sym is) (jobs_numbered s count (first_of left) (number - left) first);
      given = sum;
      some = omega (arith, size, some);
      few = omega (arith, size, few);
      fewer = omega (arith, size, within);
    }

-- what is said of eight of its jobs, from the one on that has so many others before it
pub block_labelled : (s d : SymbolView) (first count at : ℕ) (says : ℕ → JobView → Type 0) → d ≡ s → at + 8 ≤ count
    → ((k : ℕ) → k < 8 → says k (job_of d (first + at + k)))
    → (k : ℕ) → k < 8 → IfSome (slice_get (jobs_between s first count) (at + k)) (λ job. says k job)
block_labelled s d first count at says same within each k lt =
    let sum : first + at + k ≡ first + (at + k) = omega arith in
    let here : says k (job_of s (first + (at + k))) =
    subst (λ (n : ℕ). says k (job_of s n)) sum (subst (λ (x : SymbolView). says k (job_of x (first + at + k))) same (each k lt)) in
    subst (λ (o : Option JobView). IfSome o (λ job. says k job)) (sym (jobs_get s count first (at + k) (omega (arith, within, lt)))) here

-- eight of its jobs are among its symbol's
pub eight_inside : (s : SymbolView) (first count at : ℕ) → at + 8 ≤ length (jobs_between s first count) → at + 8 ≤ count
eight_inside s first count at within = subst (λ n. at + 8 ≤ n) (jobs_length s first count) within
