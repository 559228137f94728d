-- The jobs due of a feed that goes over the same jobs again and again.
use Rattle.std.proofs.Common.{◌≡◌, ℕ, zero, suc, ◌+◌, ◌-◌, ◌<◌, List, [], ◌∷◌, ◌++◌, length, drop, slice_get, Some, false, ap, ◌∙◌, sym, refl, arith}
use Rattle.std.proofs.lemmas.Option.{slice_get_within}
use Rattle.ht_metric.specs.Jobs.{JobView}
use Rattle.ht_crew.specs.Feeds.{GivesJob, TakesHit}
use Rattle.ht_bench.specs.Rounds.{RoundsView, IsRounds, job_at, jobs_from, shown}

-- one more behind
from_more : (jobs : List JobView) (number count : ℕ) → jobs_from jobs number (suc count) ≡ jobs_from jobs number count ++ job_at jobs (number + count) ∷ []
from_more jobs number zero = let at : number ≡ number + 0 = omega arith in ap (λ (n : ℕ). job_at jobs n ∷ []) at
from_more jobs number (suc count) =
    let at : number + 1 + count ≡ number + suc count = omega arith in
    ap (λ (js : List JobView). job_at jobs number ∷ js)
    (from_more jobs (number + 1) count ∙ ap (λ (n : ℕ). jobs_from jobs (number + 1) count ++ job_at jobs n ∷ []) at)

length_from : (jobs : List JobView) (number count : ℕ) → length (jobs_from jobs number count) ≡ count
length_from jobs number zero = refl
length_from jobs number (suc count) = ap suc (length_from jobs (number + 1) count)

-- the next job
pub gives : {Fault : Type 0} (feed : RoundsView) → IsRounds feed → feed.ended ≡ false → feed.given < feed.all
    → GivesJob {Fault = Fault} (shown feed) (shown (record feed { given = feed.given + 1 })) (job_at feed.jobs feed.given)
gives feed is running some =
    let count : ℕ = feed.given - feed.taken in
    let more : feed.given + 1 - feed.taken ≡ suc count = omega (arith, is.taken) in
    let at : feed.taken + count ≡ feed.given = omega (arith, is.taken) in
    record {
      running = running;
      number = refl;
      count = refl;
      due = ap (λ (n : ℕ). jobs_from feed.jobs feed.taken n) more
          ∙ (from_more feed.jobs feed.taken count
          ∙ ap (λ (n : ℕ). jobs_from feed.jobs feed.taken count ++ job_at feed.jobs n ∷ []) at);
      more = omega (arith, some);
      left = tt;
      failed = refl;
    }

-- there is a job due
pub some_due : (jobs : List JobView) (taken given : ℕ) (job : JobView) → slice_get (jobs_from jobs taken (given - taken)) 0 ≡ Some job → taken < given
some_due jobs taken given job first =
    omega (arith, slice_get_within (jobs_from jobs taken (given - taken)) 0 job first, length_from jobs taken (given - taken))

-- the first job due was taken
pub takes : {Fault : Type 0} (feed : RoundsView) → feed.taken < feed.given
    → TakesHit {Fault = Fault} (shown feed) (shown (record feed { taken = feed.taken + 1 }))
takes feed some =
    let count : ℕ = feed.given - (feed.taken + 1) in
    let more : feed.given - feed.taken ≡ suc count = omega (arith, some) in
    record { due = sym (ap (λ (n : ℕ). drop 1 (jobs_from feed.jobs feed.taken n)) more); failed = refl }
