use Rattle.std.proofs.Common.{rules, List, [], ◌∷◌, ◌++◌, ap, ◌∙◌, subst, sym}
use Rattle.ht_metric.specs.declared.found.Found.{Found}
use Rattle.ht_feed.specs.Dues.{AreBounded}
use Rattle.ht_feed.proofs.Detecting.{bounded_next, found_next}
use Rattle.ht_feed.proofs.hits.hits_of.Goals as goal

pub loop-at-preserved : goal.loop-at-preserved
loop-at-preserved g c =
    let l = c.loop-at in
    let found = l.found.items in
    let is = c.push_reserved.ensures.items in
    record {
      count = search rules;
      room = search rules;
      are = is ∙ (ap (λ (f : Found). found ++ f ∷ []) c.find.ensures.found
          ∙ found_next (g.B.Jobs.jobs c.args.block.now) l.at c.job-job.result found c.job-job.ensures l.invariant.are);
      below = subst (λ (fs : List Found). AreBounded fs) (sym is) (bounded_next found c.find.result l.invariant.below c.find.ensures.below);
    }
