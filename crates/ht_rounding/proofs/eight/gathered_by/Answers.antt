use Rattle.std.proofs.Common.{ℕ, sym, subst, slice_index_or}
use Rattle.ht_rounding.specs.Labels.{HasJob}
use Rattle.ht_rounding.specs.Loading.{no_job}
use Rattle.ht_rounding.proofs.eight.gathered_by.Goals as goal

pub returns-then-streams-eq1-clause-jobs : goal.returns-then-streams-eq1-clause-jobs
returns-then-streams-eq1-clause-jobs c k lt =
    subst (λ (n : ℕ). HasJob c.args.i c.args.q c.gathered.result n k (slice_index_or c.args.jobs.now k no_job)) (sym c.if-streams-eq1.true)
    (c.gathered.ensures.jobs k lt)

pub returns-then-streams-eq2-clause-jobs : goal.returns-then-streams-eq2-clause-jobs
returns-then-streams-eq2-clause-jobs c k lt =
    subst (λ (n : ℕ). HasJob c.args.i c.args.q c.gathered-then-streams-eq2.result n k (slice_index_or c.args.jobs.now k no_job)) (sym c.if-streams-eq2.true)
    (c.gathered-then-streams-eq2.ensures.jobs k lt)

pub returns-then-streams-eq4-clause-jobs : goal.returns-then-streams-eq4-clause-jobs
returns-then-streams-eq4-clause-jobs c k lt =
    subst (λ (n : ℕ). HasJob c.args.i c.args.q c.gathered-then-streams-eq4.result n k (slice_index_or c.args.jobs.now k no_job)) (sym c.if-streams-eq4.true)
    (c.gathered-then-streams-eq4.ensures.jobs k lt)
