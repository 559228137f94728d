use Rattle.std.proofs.Common.{List, [], ◌∷◌, ◌++◌, drop, ap, ◌∙◌, arith, rules}
use Rattle.ht_metric.specs.Jobs.{JobView}
use Rattle.ht_feed.specs.Feeds.{GivesBlock, IsAlong, TakesBlock}
use Rattle.ht_feed.proofs.Turning.{along_less, along_more, in_turn_failed}
use Rattle.ht_feed.proofs.drive.drive_alone.Goals as goal
use Rattle.ht_feed.proofs.drive.drive_alone.Goals.{In-Ok-Some}

-- the feed has given a block in its turn
along-given : (g : _) (c : In-Ok-Some g) → IsAlong (g.F.BlockFeed.shown c.args.feed.now).left (g.F.BlockFeed.shown c.next.new.self)
along-given g c =
    let seen = g.F.BlockFeed.shown in
    let jobs = g.F.Block.Jobs.jobs c.in-Ok-Some.block in
    let gives : GivesBlock c.args.window (seen c.loop-block.feed) (seen c.next.new.self) jobs = search rules in
    let i = c.loop-block.invariant in
    along_more c.args.window (seen c.args.feed.now).left (seen c.loop-block.feed) (seen c.next.new.self) jobs i.along i.running gives

pub returns-in_default : goal.returns-in_default
returns-in_default g c = record {
  leaves = record {
    leads = search rules;
    due = search rules;
    in_turn = (along-given g (goal.at.returns-in_default g c).In-Ok-Some).in_turn;
  };
  through = tt;
  jobs = tt;
  refuses = search rules;
}

pub returns-in-Err-take : goal.returns-in-Err-take
returns-in-Err-take g c =
    let seen = g.F.BlockFeed.shown in
    let goes_on = g.met.F.BlockFeed.goes_on in
    record {
      leaves = record {
        leads = goes_on _ _ _ (goes_on _ _ _ c.loop-block.invariant.leads c.next.ensures.leads) c.take.ensures.leads;
        due = search rules;
        in_turn = in_turn_failed (seen c.args.feed.now).left (seen c.next.new.self) (seen c.take.new.self) c.in-Err-take.fault
            (along-given g (goal.at.returns-in-Err-take g c).In-Ok-Some) c.in-Err-take.ensures.fault;
      };
      through = tt;
      jobs = tt;
      refuses = search rules;
    }

pub loop-block-preserved : goal.loop-block-preserved
loop-block-preserved g c =
    let seen = g.F.BlockFeed.shown in
    let goes_on = g.met.F.BlockFeed.goes_on in
    let old = seen c.loop-block.feed in
    let mid = seen c.next.new.self in
    let new = seen c.take.new.self in
    let jobs = g.F.Block.Jobs.jobs c.in-Ok-Some.block in
    let gives : GivesBlock c.args.window old mid jobs = search rules in
    let takes : TakesBlock mid new = search rules in
    let i = c.loop-block.invariant in
    record {
      running = takes.ended ∙ gives.running;
      none = takes.due ∙ ap (λ (blocks : List (List JobView)). drop 1 blocks) (gives.due ∙ ap (λ (blocks : List (List JobView)). blocks ++ jobs ∷ []) i.none);
      count = omega (arith, takes.count, gives.count, i.count, c.size.ensures, c.from-jobs.ensures);
      well = takes.failed ∙ (gives.failed ∙ i.well);
      along = along_less (seen c.args.feed.now).left mid new (along-given g (goal.at.loop-block-preserved g c).In-Ok-Some) takes;
      leads = goes_on _ _ _ (goes_on _ _ _ i.leads c.next.ensures.leads) c.take.ensures.leads;
    }
