use Rattle.std.proofs.Common.{rules}
use Rattle.ht_feed.specs.Feeds.{TakesBlock}
use Rattle.ht_feed.proofs.Turning.{along_less, in_turn_failed}
use Rattle.ht_drive.proofs.deliver.deliver.Goals as goal

pub returns-in_err-take-clause-steps : goal.returns-in_err-take-clause-steps
returns-in_err-take-clause-steps g c =
    let seen = g.F.BlockFeed.shown in
    let so_far = c.loop-block.invariant in
    record {
      leads = g.met.F.BlockFeed.goes_on _ _ _ so_far.leads c.take.ensures.leads;
      capacity = search rules;
      due = search rules;
      in_turn = λ known start. in_turn_failed known (seen c.loop-block.feed) (seen c.take.new.self) c.in_err-take.field-0.0
          (so_far.turn known start) c.in_err-take.ensures.fault;
    }

pub loop-block-preserved : goal.loop-block-preserved
loop-block-preserved g c =
    let seen = g.F.BlockFeed.shown in
    let old = seen c.loop-block.feed in
    let new = seen c.take.new.self in
    let takes : TakesBlock old new = search rules in
    let so_far = c.loop-block.invariant in
    record {
      holds = search rules;
      capacity = search rules;
      takes = search rules;
      turn = λ known start. along_less known old new (so_far.turn known start) takes;
      leads = g.met.F.BlockFeed.goes_on c.args.feed.now c.loop-block.feed c.take.new.self so_far.leads c.take.ensures.leads;
    }

pub returns-clause-steps : goal.returns-clause-steps
returns-clause-steps g c =
    let so_far = c.loop-block.invariant in
    record {
      leads = so_far.leads;
      capacity = search rules;
      due = search rules;
      in_turn = λ known start. (so_far.turn known start).in_turn;
    }
