use Rattle.std.proofs.Common.{◌+◌, ◌^◌, ◌<◌, arith, slice_index}
use Rattle.ht_metric.specs.Distance.{received, minus as complex_minus, times as entry_times}
use Rattle.ht_rounding.specs.RowSteps.{point_of}
use Rattle.ht_rounding.proofs.Settling.{IsTarget, row-known, point-few, target-without}
use Rattle.ht_rounding.proofs.FoundLanes.{tap_1, split_two, found_two}
use Rattle.ht_rounding.proofs.streams.detect_two.Goals as goal

pub returns : goal.returns
returns c k job lt some is =
    let ch = c.args.channel.now in
    let y = c.args.samples.now in
    let all = split_two ch.first ch.second ch.third ch.fourth y.first y.second y.third y.fourth k job.system is.streams is.rows in
    let r1 = all.0 in
    let in1 = all.3 in
    let y1 : IsTarget (slice_index y.first.re k) (slice_index y.first.im k) (2 ^ 31) (received r1.sample) = record { held = in1.sample; within = in1.within } in
    let r2 = all.1 in
    let in2 = all.4 in
    let y2 : IsTarget (slice_index y.second.re k) (slice_index y.second.im k) (2 ^ 31)
    (received r2.sample) = record { held = in2.sample; within = in2.within } in
    let some1 = some in
    let some2 : 0 < slice_index c.last_row-second.result.spare k = omega (arith, some1, c.next_row-first.ensures.less k lt) in
    let sure2 = row-known c.args.i c.args.q _ _ _ _ _ _ _ _ _ _ (2 ^ 31) (received r2.sample) (omega arith) in2.diagonal
    (c.last_row-second.ensures.certain k lt) y2 some2 in
    let few2 = point-few c.args.i c.args.q _ _ _ _ _ _ _ _ sure2 in
    let t1_1 = target-without _ _ _ _ _ _ (2 ^ 31) (received r1.sample) (tap_1 r1)
    (point_of (slice_index c.last_row-second.result.i k) (slice_index c.last_row-second.result.q k)) y1 (in1.next (omega arith)) few2
    (λ h. c.without-target.ensures k lt (received r1.sample) (tap_1 r1) h (in1.next (omega arith)) few2) in
    let sure1 = row-known c.args.i c.args.q _ _ _ _ _ _ _ _ _ _ (2 ^ 31 + 458752)
    (complex_minus (received r1.sample) (entry_times (tap_1 r1)
    (point_of (slice_index c.last_row-second.result.i k) (slice_index c.last_row-second.result.q k)))) (omega arith) in1.diagonal
    (c.next_row-first.ensures.certain k lt) t1_1 some1 in
    found_two c.args.i c.args.q job is.valid r1 r2 _ _ _ _ _ _ _ _ all.2 is.grid sure2 sure1 some
