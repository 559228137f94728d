-- Jobs under other numbers are the same jobs.
use Rattle.std.proofs.Common.{◌≡◌, ℕ, zero, suc, ◌+◌, List, [], ◌∷◌, length, map, slice_get, Option, Some, refl, ap, ◌∙◌, sym, subst, arith}
use Rattle.std.specs.Option.{option_map}
use Rattle.std.specs.Prelude.{None}
use Rattle.ht_metric.specs.Jobs.{JobView, near}
use Rattle.ht_metric.specs.declared.found.Found.{Found}
use Rattle.ht_metric.specs.declared.place.Place.{Place}
use Rattle.ht_pam.specs.declared.point.Point.{Point}
use Rattle.ht_rounding.specs.declared.eight.Labelled.{Labelled}
use Rattle.ht_rounding.specs.Labels.{IsLabelledIn}
use Rattle.ht_feed.specs.Items.{Numbered}
use Rattle.ht_feed.specs.Dues.{AreHits, IsPlaceAt, StartsAt}
use Rattle.ht_feed.specs.Numbers.{numbered, with_number}
use Rattle.ht_feed.proofs.Numbering.{get_numbered, length_numbered}
use Rattle.ht_lanes.specs.Lanes.{LaneJobs, whole_jobs}

numbered-again : (m n : ℕ) (jobs : List JobView) → numbered m (numbered n jobs) ≡ numbered m jobs
numbered-again m n [] = refl
numbered-again m n (job ∷ jobs) = ap (λ (js : List JobView). with_number m job ∷ js) (numbered-again (m + 1) (n + 1) jobs)

numbered-own : (n : ℕ) (jobs : List JobView) → Numbered n jobs → numbered n jobs ≡ jobs
numbered-own n [] are = refl
numbered-own n (job ∷ jobs) are =
    ap (λ (k : ℕ). with_number k job ∷ numbered (n + 1) jobs) (sym are.0) ∙ ap (λ (js : List JobView). job ∷ js) (numbered-own (n + 1) jobs are.1)

-- jobs that are alike but for their numbers, and have the same numbers
pub same_jobs : (own m n : ℕ) (xs ys : List JobView) → Numbered own xs → Numbered own ys → numbered m xs ≡ numbered n ys → xs ≡ ys
same_jobs own m n xs ys p q is =
    sym (numbered-own own xs p)
    ∙ (sym (numbered-again own m xs)
    ∙ (ap (numbered own) is
    ∙ (numbered-again own n ys ∙ numbered-own own ys q)))

near-numbered : (n : ℕ) (jobs : List JobView) → map near (numbered n jobs) ≡ map near jobs
near-numbered n [] = refl
near-numbered n (job ∷ jobs) = ap (λ (fs : List Found). near job ∷ fs) (near-numbered (n + 1) jobs)

-- hits of jobs under other numbers are theirs
pub hits_numberless : (found : List Found) (n : ℕ) (jobs : List JobView) → AreHits found (numbered n jobs) → AreHits found jobs
hits_numberless found n jobs right = record {
  are = right.are ∙ near-numbered n jobs;
  below = right.below;
  few = let e = length_numbered n jobs in let f = right.few in omega (arith, e, f);
}

-- a job of them
pub job_at : (n : ℕ) (jobs : List JobView) (at number : ℕ) (job : JobView) → Some job ≡ slice_get jobs at → number ≡ n + at
    → Some (with_number number job) ≡ slice_get (numbered n jobs) at
job_at n jobs at number job is same =
    ap (λ (k : ℕ). Some (with_number k job)) same
    ∙ (ap (λ (o : Option JobView). option_map (with_number (n + at)) o) is ∙ sym (get_numbered n jobs at))

pub starts_at : (n : ℕ) (place : Place) (jobs : List JobView) → StartsAt place jobs → StartsAt place (numbered n jobs)
starts_at n place [] is = is
starts_at n place (job ∷ jobs) is = is

pub place_at : (n : ℕ) (place : Place) (jobs : List JobView) (at : ℕ) → IsPlaceAt place jobs at → IsPlaceAt place (numbered n jobs) at
place_at n place [] at is = is
place_at n place (job ∷ jobs) zero is = is
place_at n place (job ∷ jobs) (suc at) is = place_at (n + 1) place jobs at is

-- a block, as it stands inside, has as many jobs as contracts see
pub as_many_jobs : (inside seen : LaneJobs) → inside ≡ seen → length inside.jobs ≡ length (whole_jobs seen)
as_many_jobs inside seen is = ap (λ (b : LaneJobs). length b.jobs) is ∙ sym (length_numbered seen.first seen.jobs)

labelled_again : (label : Point → ℕ) (r : Labelled) (k n : ℕ) (o : Option JobView) → IsLabelledIn label r k o
    → IsLabelledIn label r k (option_map (with_number n) o)
labelled_again label r k n None known = known
labelled_again label r k n (Some job) known = λ sure.
    record {
      distance = (known sure).distance;
      labels = (known sure).labels;
    }

-- labels of a job are its labels under another number
pub labelled_at : (label : Point → ℕ) (r : Labelled) (k n : ℕ) (jobs : List JobView) (at : ℕ) → IsLabelledIn label r k (slice_get jobs at)
    → IsLabelledIn label r k (slice_get (numbered n jobs) at)
labelled_at label r k n jobs at known =
    subst (λ (o : Option JobView). IsLabelledIn label r k o) (sym (get_numbered n jobs at)) (labelled_again label r k (n + at) (slice_get jobs at) known)
