-- Where every block was taken, the pool has run all that it was given.
use Rattle.std.proofs.Common.{◌≡◌, ℕ, ◌+◌, ◌<◌, ◌≤◌, ◌++◌, List, [], ◌∷◌, length, map, sum, min, drop, true}
use Rattle.std.proofs.Common.{ap, ◌∙◌, sym, refl, arith, subst}
use Rattle.std.specs.List.{flat_map}
use Rattle.std.proofs.lemmas.List.Sums.{sum_by-append, sum_by-cons}
use Rattle.ht_list.specs.Counts.{SameCounts}
use Rattle.ht_metric.specs.Jobs.{JobView}
use Rattle.ht_pool.specs.Gathering.{answered_by}
use Rattle.ht_pool.specs.Members.{answers_of, answered_weight}
use Rattle.ht_pool.specs.Pools.{HasRun, moved_on, taken_on}
use Rattle.ht_pool.specs.declared.closed.Closed.{Closed}
use Rattle.ht_pool.specs.declared.member.Member.{Member}
use Rattle.ht_feed.specs.OwnNumbers.{HaveNumbers}
use Rattle.ht_feed.specs.Dues.{NoneEmpty, all_in}
use Rattle.ht_drive.specs.Blocks.{BlockCaller, RunBlock, jobs_in, jobs_of, jobs_run, lacking, lacks, pool_of, run_block, task_of}
use Rattle.ht_drive.specs.Driving.{AreCountsOf}
use Rattle.ht_drive.specs.Reports.{HasRunInPool, IsShared, Passes, Report, blocks_pushed, came_back, deques_of}
use Rattle.ht_drive.specs.declared.counts.CallerCounts.{CallerCounts}

-- the caller kept no more than the jobs beyond the room
kept : (own given blocks jobs room : ℕ) → given + own ≡ jobs → blocks ≤ given → (0 < own → room ≤ blocks) → own + min jobs room ≤ jobs
kept own given blocks jobs room all few sure = grind (arith, all, few, sure)

-- where no block is empty, there are no more blocks than jobs
few_given : (blocks : List (List JobView)) → NoneEmpty blocks → length blocks ≤ jobs_of blocks
few_given [] full = omega arith
few_given (jobs ∷ blocks) full = let f = full.0 in omega (arith, few_given blocks full.1, f, sum_by-cons jobs_in jobs blocks)

-- blocks that were taken back, and answered
abbrev answered_all : List (List JobView) → List RunBlock
answered_all blocks = map (λ (jobs : List JobView). run_block jobs true) blocks

blocks_of : (blocks : List (List JobView)) → map task_of (answered_all blocks) ≡ blocks
blocks_of [] = refl
blocks_of (jobs ∷ blocks) = ap (λ (rest : List (List JobView)). jobs ∷ rest) (blocks_of blocks)

none_lacks : (blocks : List (List JobView)) → lacking (answered_all blocks) ≡ 0
none_lacks [] = refl
none_lacks (jobs ∷ blocks) = omega (arith, none_lacks blocks, sum_by-cons lacks (run_block jobs true) (answered_all blocks))

-- how many jobs they have
weighed : (runs : List RunBlock) → jobs_of (map task_of runs) ≡ jobs_run runs
weighed [] = refl
weighed (run ∷ runs) = omega (
  arith,
  weighed runs,
  sum_by-cons jobs_in run.jobs (map task_of runs),
  sum_by-cons (λ (r : RunBlock). length r.jobs) run runs,
)

weighed_all : (blocks : List (List JobView)) → jobs_of blocks ≡ jobs_run (answered_all blocks)
weighed_all blocks = ap jobs_of (sym (blocks_of blocks)) ∙ weighed (answered_all blocks)

-- what came of the blocks that each of some workers delivered
abbrev Helper : Type 0
Helper = Member (List JobView) RunBlock

abbrev runs_by : List Helper → List (List RunBlock)
runs_by members = map (λ (m : Helper). (answers_of m).pushed) members

all_delivered : (members : List Helper) → answered_by members ≡ flat_map (λ (runs : List RunBlock). runs) (runs_by members)
all_delivered [] = refl
all_delivered (m ∷ members) = ap (λ (rest : List RunBlock). (answers_of m).pushed ++ rest) (all_delivered members)

members_counted : (members : List Helper) → map (answered_weight task_of jobs_in) members ≡ map jobs_run (runs_by members)
members_counted [] = refl
members_counted (m ∷ members) =
    ap (λ (n : ℕ). n ∷ map (answered_weight task_of jobs_in) members) (weighed (answers_of m).pushed)
    ∙ ap (λ (ns : List ℕ). jobs_run (answers_of m).pushed ∷ ns) (members_counted members)

-- their jobs add up to those of all blocks
summed : (others : List (List RunBlock)) → sum (map jobs_run others) ≡ jobs_run (flat_map (λ (runs : List RunBlock). runs) others)
summed [] = refl
summed (runs ∷ others) = omega (
  arith,
  summed others,
  sum_by-cons (λ (n : ℕ). n) (jobs_run runs) (map jobs_run others),
  sum_by-append (λ (r : RunBlock). length r.jobs) runs (flat_map (λ (rs : List RunBlock). rs) others),
)

module _ (t : CallerCounts) (h : BlockCaller) (members : List Helper) (c : Closed (List JobView) RunBlock) (counted : AreCountsOf t h)
    (run : HasRun task_of jobs_in (pool_of h) members c) (answered : lacking h.answers ≡ 0) where
  abbrev passes_of : Passes
  passes_of = record { deques = c.deques; results = c.pass }

  abbrev delivered : List RunBlock
  delivered = (came_back passes_of).pushed

  shared : IsShared c.ran.items passes_of
  shared = record {
    mine = answered_all h.taken;
    others = runs_by members;
    delivered = run.delivered ∙ all_delivered members;
    once = subst (λ (blocks : List (List JobView)). SameCounts (map task_of (answered_all h.taken) ++ map task_of delivered) blocks) (sym run.pushed)
        (subst (λ (blocks : List (List JobView)). SameCounts (blocks ++ map task_of delivered) h.given) (sym (blocks_of h.taken)) run.each_once);
    mine_answered = none_lacks h.taken;
    answered = sym (run.answers lacks) ∙ ap lacking run.received ∙ answered;
    numbers = run.numbers ∙ ap (λ (n : ℕ). n ∷ map (answered_weight task_of jobs_in) members) (weighed_all h.taken)
        ∙ ap (λ (ns : List ℕ). jobs_run (answered_all h.taken) ∷ ns) (members_counted members);
  }

  helped : jobs_run delivered ≡ sum (drop 1 c.ran.items)
  helped = ap jobs_run shared.delivered ∙ (sym (summed shared.others) ∙ sym (ap (λ (ns : List ℕ). sum (drop 1 ns)) shared.numbers))

  -- a report that says so
  pub has_run_in_pool : (report : Report) → report.jobs ≡ t.issued → report.own ≡ t.own → report.ran ≡ c.ran
      → HasRunInPool (length h.deques) h.capacity report passes_of
  has_run_in_pool report jobs own ran =
      let items = ap (λ v. v.items) ran in
      record {
        deques = run.deques;
        pushed = omega (arith, ap jobs_of run.pushed, counted.jobs, jobs, own);
        full = subst NoneEmpty (sym run.pushed) counted.full;
        sure = omega (
          arith,
          kept t.own (jobs_of h.given) (length h.given) t.issued h.capacity counted.jobs (few_given h.given counted.full) counted.sure,
          jobs,
          own,
          ap (λ n. min n h.capacity) jobs,
        );
        numbers = subst (λ (n : ℕ). HaveNumbers n (all_in (blocks_pushed passes_of))) (sym jobs)
            (subst (λ (blocks : List (List JobView)). HaveNumbers t.issued (all_in blocks)) (sym run.pushed) counted.numbers);
        emptied = run.emptied;
        taken = subst (λ (blocks : List (List JobView)). SameCounts (taken_on (deques_of passes_of)) (blocks ++ moved_on (deques_of passes_of)))
            (sym run.pushed) run.taken;
        each = ap length items ∙ run.each;
        ran = omega (arith, ap sum items, run.ran, counted.jobs, jobs, own);
        shared = subst (λ (ns : List ℕ). IsShared ns passes_of) (sym items) shared;
        helped = helped ∙ sym (ap (λ (ns : List ℕ). sum (drop 1 ns)) items);
        received = run.answers;
      }
