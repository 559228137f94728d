use Rattle.std.proofs.Common.{◌≡◌, ◌++◌, ◌∷◌, [], List, length-append, take, sym, subst, ◌∙◌, arith}
use Rattle.ht_metric.specs.Jobs.{JobView}
use Rattle.ht_frames.specs.Tallies.{IsTally}
use Rattle.ht_frames.proofs.Tallying.{take_one}
use Rattle.ht_soft_rx.proofs.near_work.tally_near.Goals as goal

pub loop-at-preserved : goal.loop-at-preserved
loop-at-preserved g c =
    let plan = g.K.Kind.plan in
    let all = g.B.Jobs.jobs c.args.block.now in
    let l = c.loop-at in
    let t = l.tally in
    let job = c.job-job.result in
    let new = c.add.new.tally in
    let add = c.in_ok-distance.ensures in
    let head : t.head ≡ c.args.head.now = l.invariant.head in
    let was : IsTally plan t.head (take l.at all) t.jobs t.data_sum t.pilot_sum t.places t.values.items =
    subst (λ (h : g.row.K-Head.Denot). IsTally plan h (take l.at all) t.jobs t.data_sum t.pilot_sum t.places t.values.items) (sym head) l.invariant.is in
    let now : IsTally plan t.head (take l.at all ++ job ∷ []) new.jobs new.data_sum new.pilot_sum new.places new.values.items = add.added (take l.at all) was in
    let long = length-append (take l.at all) (job ∷ []) in
    record {
      count = omega (arith, long, l.invariant.count, l.invariant.is.count, now.count);
      head = add.head ∙ head;
      long = add.long;
      is = subst (λ (js : List JobView). IsTally plan c.args.head.now js new.jobs new.data_sum new.pilot_sum new.places new.values.items)
          (sym (take_one all l.at job c.job-job.ensures))
          (subst (λ (h : g.row.K-Head.Denot). IsTally plan h (take l.at all ++ job ∷ []) new.jobs new.data_sum new.pilot_sum new.places new.values.items)
          head now);
      from = omega (arith, c.go_on.ensures.first);
      to = omega (arith, c.go_on.ensures.last);
      lanes = c.go_on.ensures.labels;
    }

pub add-requires-clause-least : goal.add-requires-clause-least
add-requires-clause-least g c = c.least_in-least.ensures c.job-job.result c.job-job.ensures
