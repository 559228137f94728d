use Rattle.std.proofs.Common.{rules}
use Rattle.ht_crew.proofs.InBlocks.{leaves, went_through}
use Rattle.ht_crew.proofs.alone.drive_alone.Goals as goal

pub returns-in-Ok-clause-drives : goal.returns-in-Ok-clause-drives
returns-in-Ok-clause-drives g c = record {
  leaves = search (rules, leaves g.F.Feed.shown g.F.Feed.leads _ _ _ c.in-Ok.ensures.leaves);
  through = search (
    rules,
    went_through g.F.Feed.shown g.F.Feed.leads _ _ _ _ c.new-singles.ensures.feed c.new-singles.ensures.failed c.in-Ok.ensures.leaves
        c.in-Ok.ensures.through,
  );
  jobs = search rules;
  refuses = search rules;
}

pub returns-in-Err-Feed-clause-drives : goal.returns-in-Err-Feed-clause-drives
returns-in-Err-Feed-clause-drives g c = record {
  leaves = search (rules, leaves g.F.Feed.shown g.F.Feed.leads _ _ _ c.in-Err-Feed.ensures.leaves);
  through = tt;
  jobs = tt;
  refuses = search rules;
}

pub returns-in-Err-NoMemory-clause-drives : goal.returns-in-Err-NoMemory-clause-drives
returns-in-Err-NoMemory-clause-drives g c = record {
  leaves = search (rules, leaves g.F.Feed.shown g.F.Feed.leads _ _ _ c.in-Err-NoMemory.ensures.leaves);
  through = tt;
  jobs = tt;
  refuses = search rules;
}
