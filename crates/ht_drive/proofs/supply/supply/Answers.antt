use Rattle.std.proofs.Common.{◌≡◌, ◌+◌, ◌≤◌, length, List, Some, false, ap, sym, ◌∙◌, arith, rules}
use Rattle.std.specs.Result.{is_err}
use Rattle.ht_metric.specs.Jobs.{JobView}
use Rattle.ht_feed.specs.OwnNumbers.{AreByNumber}
use Rattle.ht_feed.specs.Dues.{all_in, count_in}
use Rattle.ht_feed.specs.Feeds.{EndsBlocks, GivesBlock}
use Rattle.ht_feed.proofs.Turning.{along_end, along_more, in_turn_failed}
use Rattle.ht_drive.specs.Blocks.{BlockWindow, due_in, seen}
use Rattle.ht_drive.specs.Driving.{Holds, KeepsTurn, AreCountsOf}
use Rattle.ht_drive.proofs.Giving.{same_on, told_block}
use Rattle.ht_drive.proofs.Going.{steps_held}
use Rattle.ht_drive.proofs.Supplying.{goes_on_end, goes_on_more, holds_more, holds_still, is_running, on_ok}
use Rattle.ht_drive.proofs.supply.supply.Goals as goal
use Rattle.ht_drive.proofs.supply.supply.Goals.{After-issue}

-- a block was given
gives : (g : _) (c : After-issue g) → GivesBlock c.args.size (g.F.BlockFeed.shown c.loop-running.feed) (g.F.BlockFeed.shown c.next.new.self)
    (g.B.Jobs.jobs c.in-Ok-Some.block)
gives g c = search rules

-- the feed went on before
running : (g : _) (c : After-issue g) → (g.F.BlockFeed.shown c.loop-running.feed).ended ≡ false
running g c = is_running c.loop-running.running (g.F.BlockFeed.shown c.loop-running.feed) c.loop-running-test.true c.loop-running.invariant.stands.under_way

-- and goes on in turn
turn : (g : _) (c : After-issue g) → KeepsTurn (g.F.BlockFeed.shown c.args.feed.now) (g.F.BlockFeed.shown c.next.new.self)
turn g c = λ known start.
    along_more c.args.size known (g.F.BlockFeed.shown c.loop-running.feed) (g.F.BlockFeed.shown c.next.new.self) (g.B.Jobs.jobs c.in-Ok-Some.block)
    (c.loop-running.invariant.turn known start) (running g c) (gives g c)

-- the block stands in the window
holds : (g : _) (c : After-issue g) → Holds (seen g.B.Jobs.jobs c.issue.new.window) (g.F.BlockFeed.shown c.next.new.self)
holds g c =
    let before = c.loop-running in
    let jobs = g.B.Jobs.jobs c.in-Ok-Some.block in
    let few = (gives g c).few in
    let size = c.if-room-size.true in
    let left = c.room.ensures in
    let room : count_in (due_in g.B.Jobs.jobs before.window.slots) + length jobs ≤ before.window.capacity = omega (arith, few, size, left) in
    holds_more c.args.size (seen g.B.Jobs.jobs before.window) (seen g.B.Jobs.jobs c.issue.new.window) (g.F.BlockFeed.shown before.feed)
    (g.F.BlockFeed.shown c.next.new.self) jobs
    before.invariant.stands.holds (gives g c) room c.issue.ensures.window

-- which has the same room
capacity : (g : _) (c : After-issue g) → c.issue.new.window.capacity ≡ c.args.window.now.capacity
capacity g c =
    ◌∙◌ {a = c.issue.new.window.capacity} {b = c.loop-running.window.capacity} (ap (λ (w : BlockWindow). w.capacity) c.issue.ensures.window)
    c.loop-running.invariant.capacity

pub returns-then-is_err-clause-holds : goal.returns-then-is_err-clause-holds
returns-then-is_err-clause-holds g c = holds g (goal.at.returns-then-is_err-clause-holds g c).After-issue

pub returns-then-is_err-clause-steps : goal.returns-then-is_err-clause-steps
returns-then-is_err-clause-steps g c =
    let so_far = c.loop-running.invariant in
    let here = (goal.at.returns-then-is_err-clause-steps g c).After-issue in
    steps_held g.F.BlockFeed.shown g.F.BlockFeed.leads (seen g.B.Jobs.jobs c.args.window.now)
    (seen g.B.Jobs.jobs c.issue.new.window) c.args.feed.now c.next.new.self
    (g.met.F.BlockFeed.goes_on c.args.feed.now c.loop-running.feed c.next.new.self so_far.leads c.next.ensures.leads)
    (capacity g here) (holds g here) (λ known start. (turn g here known start).in_turn)

pub loop-running-preserved-else-is_err : goal.loop-running-preserved-else-is_err
loop-running-preserved-else-is_err g c =
    let shown = g.F.BlockFeed.shown in
    let before = c.loop-running in
    let so_far = before.invariant in
    let jobs = g.B.Jobs.jobs c.in-Ok-Some.block in
    let here = (goal.at.loop-running-preserved-else-is_err g c).After-issue in
    let given = gives g here in
    let good : is_err c.issue.result ≡ false = sym c.is_err.ensures.value ∙ c.if-is_err.false in
    let by_number = on_ok c.issue.result ((all : List JobView) → AreByNumber all (all_in before.caller.given) → AreByNumber all jobs
    → AreByNumber all (all_in c.issue.new.caller.given)) good c.issue.ensures.by_number in
    record {
      stands = record {
        holds = holds g here;
        counted = on_ok c.issue.result (AreCountsOf c.issue.new.counts c.issue.new.caller) good c.issue.ensures.counted;
        issued = omega (arith, c.issue.ensures.issued, so_far.stands.issued, given.count);
        under_way = goes_on_more c.args.size before.running (shown before.feed)
            (shown c.next.new.self) jobs c.loop-running-test.true so_far.stands.under_way given;
      };
      leads = g.met.F.BlockFeed.goes_on c.args.feed.now c.loop-running.feed c.next.new.self so_far.leads c.next.ensures.leads;
      capacity = capacity g here;
      same = same_on c.args.caller.now before.caller c.issue.new.caller so_far.same c.issue.ensures.same;
      whole = c.issue.ensures.whole ∙ so_far.whole;
      turn = turn g here;
      by_number = λ all start first. by_number all (so_far.by_number all start first)
          (told_block c.args.size all (shown before.feed) (shown c.next.new.self) jobs (so_far.turn (Some all) start) (running g here) given);
    }

pub loop-running-preserved : goal.loop-running-preserved
loop-running-preserved g c =
    let shown = g.F.BlockFeed.shown in
    let before = c.loop-running in
    let so_far = before.invariant in
    let old = shown before.feed in
    let new = shown c.next.new.self in
    let ends : EndsBlocks old new = search rules in
    record {
      stands = record {
        holds = holds_still (seen g.B.Jobs.jobs before.window) old new so_far.stands.holds ends.due;
        counted = so_far.stands.counted;
        issued = so_far.stands.issued ∙ sym ends.count;
        under_way = goes_on_end before.running old new so_far.stands.under_way ends;
      };
      leads = g.met.F.BlockFeed.goes_on c.args.feed.now c.loop-running.feed c.next.new.self so_far.leads c.next.ensures.leads;
      capacity = so_far.capacity;
      same = so_far.same;
      whole = so_far.whole;
      turn = λ known start. along_end known old new (so_far.turn known start) ends;
      by_number = so_far.by_number;
    }

pub returns-in-Err-clause-steps : goal.returns-in-Err-clause-steps
returns-in-Err-clause-steps g c =
    let shown = g.F.BlockFeed.shown in
    let old = shown c.loop-running.feed in
    let new = shown c.next.new.self in
    let so_far = c.loop-running.invariant in
    let fails = c.in-Err.ensures.fault in
    steps_held shown g.F.BlockFeed.leads (seen g.B.Jobs.jobs c.args.window.now) (seen g.B.Jobs.jobs c.loop-running.window) c.args.feed.now c.next.new.self
    (g.met.F.BlockFeed.goes_on c.args.feed.now c.loop-running.feed c.next.new.self so_far.leads c.next.ensures.leads) so_far.capacity
    (holds_still (seen g.B.Jobs.jobs c.loop-running.window) old new so_far.stands.holds fails.due)
    (λ known start. in_turn_failed known old new c.in-Err.fault (so_far.turn known start) fails)

pub returns-clause-steps : goal.returns-clause-steps
returns-clause-steps g c =
    let so_far = c.loop-running.invariant in
    steps_held g.F.BlockFeed.shown g.F.BlockFeed.leads (seen g.B.Jobs.jobs c.args.window.now)
    (seen g.B.Jobs.jobs c.loop-running.window) c.args.feed.now c.loop-running.feed so_far.leads so_far.capacity so_far.stands.holds
    (λ known start. (so_far.turn known start).in_turn)
