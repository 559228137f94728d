use Rattle.std.proofs.Common.{sym, ◌∙◌, rules}
use Rattle.ht_drive.specs.Blocks.{seen}
use Rattle.ht_drive.specs.Driving.{IsLeading}
use Rattle.ht_drive.proofs.Giving.{same_on}
use Rattle.ht_drive.proofs.Going.{goes_further, goes_taken, leaves_by, numbers_first}
use Rattle.ht_drive.proofs.lead.lead.Goals as goal
use Rattle.ht_drive.proofs.lead.lead.Goals.{In-Ok}

-- the window was filled
supplied : (g : _) (c : In-Ok g) → IsLeading g.F.BlockFeed.shown g.F.BlockFeed.leads c.in-Ok.on (seen g.B.Jobs.jobs c.args.window.now)
    (seen g.B.Jobs.jobs c.supply.new.window)
    c.args.caller.now c.supply.new.caller c.supply.new.counts c.args.feed.now c.supply.new.feed
supplied g c = goes_further _ _ g.met.F.BlockFeed.goes_on c.loop.invariant c.in-Ok.ensures.goes_on

pub returns-in-Err : goal.returns-in-Err
returns-in-Err g c = record {
  leaves = leaves_by _ _ g.met.F.BlockFeed.goes_on c.requires.fresh c.loop.invariant c.supply.ensures.steps;
  same = same_on c.args.caller.now c.loop.caller c.supply.new.caller c.loop.invariant.same c.supply.ensures.same;
  led = tt;
  refuses = c.in-Err.ensures.refuses;
}

pub returns-in-Err-deliver : goal.returns-in-Err-deliver
returns-in-Err-deliver g c =
    let so_far = supplied g (goal.at.returns-in-Err-deliver g c).In-Ok in
    record {
      leaves = leaves_by _ _ g.met.F.BlockFeed.goes_on c.requires.fresh so_far c.deliver.ensures.steps;
      same = so_far.same;
      led = tt;
      refuses = c.in-Err-deliver.ensures.fault;
    }

pub returns-then-is_home : goal.returns-then-is_home
returns-then-is_home g c =
    let so_far = supplied g (goal.at.returns-then-is_home g c).In-Ok in
    let delivered = c.in_default.ensures in
    record {
      leaves = leaves_by _ _ g.met.F.BlockFeed.goes_on c.requires.fresh so_far c.deliver.ensures.steps;
      same = so_far.same;
      led = record {
        through = search rules;
        jobs = so_far.stands.issued ∙ sym delivered.takes.count;
        counted = so_far.stands.counted;
        by_number = numbers_first _ _ c.requires so_far;
        settled = search rules;
        whole = so_far.whole ∙ c.requires.whole;
      };
      refuses = tt;
    }

pub returns-then-is_err : goal.returns-then-is_err
returns-then-is_err g c =
    let so_far = supplied g (goal.at.returns-then-is_err g c).In-Ok in
    record {
      leaves = leaves_by _ _ g.met.F.BlockFeed.goes_on c.requires.fresh so_far c.deliver.ensures.steps;
      same = same_on c.args.caller.now c.supply.new.caller c.turn.new.caller so_far.same c.turn.ensures.same;
      led = tt;
      refuses = search rules;
    }

pub loop-preserved : goal.loop-preserved
loop-preserved g c =
    let delivered = c.in_default.ensures in
    goes_taken _ _ g.met.F.BlockFeed.goes_on (supplied g (goal.at.loop-preserved g c).In-Ok) c.deliver.ensures.steps delivered.holds delivered.turn
    delivered.takes c.turn.ensures.window c.turn.ensures.given c.turn.ensures.same (search rules)
