use Rattle.std.proofs.Common.{rules, subst}
use Rattle.ht_drive.specs.Reports.{HasRunJobs}
use Rattle.ht_crew.proofs.Delivered.{if_delivered}
use Rattle.ht_crew.proofs.InBlocks.{leaves, went_through}
use Rattle.ht_crew.proofs.threaded.drive.Goals as goal

pub returns-in-Ok-clause-delivered : goal.returns-in-Ok-clause-delivered
returns-in-Ok-clause-delivered g c = λ many. if_delivered c.args.workers c.args.window c.in-Ok.report c.in-Ok.report.passes (c.in-Ok.ensures.ran.in_pool many)

pub returns-in-Ok-clause-ran : goal.returns-in-Ok-clause-ran
returns-in-Ok-clause-ran g c =
    subst (λ f. HasRunJobs c.args.workers c.args.window (g.F.Feed.shown f).left c.in-Ok.report) c.new-singles.ensures.feed c.in-Ok.ensures.ran

pub returns-in-Ok-clause-drives : goal.returns-in-Ok-clause-drives
returns-in-Ok-clause-drives g c = record {
  leaves = search (rules, leaves g.F.Feed.shown g.F.Feed.leads _ _ _ c.in-Ok.ensures.drives.leaves);
  through = search (
    rules,
    went_through g.F.Feed.shown g.F.Feed.leads _ _ _ _ c.new-singles.ensures.feed c.new-singles.ensures.failed c.in-Ok.ensures.drives.leaves
        c.in-Ok.ensures.drives.through,
  );
  jobs = search rules;
  refuses = search rules;
}

pub returns-in-Err-Feed-clause-drives : goal.returns-in-Err-Feed-clause-drives
returns-in-Err-Feed-clause-drives g c = record {
  leaves = search (rules, leaves g.F.Feed.shown g.F.Feed.leads _ _ _ c.in-Err-Feed.ensures.drives.leaves);
  through = tt;
  jobs = tt;
  refuses = search rules;
}

pub returns-in-Err-NoMemory-clause-drives : goal.returns-in-Err-NoMemory-clause-drives
returns-in-Err-NoMemory-clause-drives g c = record {
  leaves = search (rules, leaves g.F.Feed.shown g.F.Feed.leads _ _ _ c.in-Err-NoMemory.ensures.drives.leaves);
  through = tt;
  jobs = tt;
  refuses = search rules;
}
