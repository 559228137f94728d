use Rattle.std.proofs.Common.{◌+◌, ◌^◌, ◌<◌, arith, slice_index}
use Rattle.ht_metric.specs.Distance.{received, minus as complex_minus, times as entry_times}
use Rattle.ht_rounding.specs.RowSteps.{point_of}
use Rattle.ht_rounding.proofs.Settling.{IsTarget, row-known, point-few, target-without}
use Rattle.ht_rounding.proofs.FoundLanes.{tap_1, tap_2, tap_3, split_four, found_four}
use Rattle.ht_rounding.proofs.streams.detect_four.Goals as goal

pub returns : goal.returns
returns c k job lt some is =
    let ch = c.args.channel.now in
    let y = c.args.samples.now in
    let all = split_four ch.first ch.second ch.third ch.fourth y.first y.second y.third y.fourth k job.system is.streams is.rows in
    let r1 = all.0 in
    let in1 = all.5 in
    let y1 : IsTarget (slice_index y.first.re k) (slice_index y.first.im k) (2 ^ 31) (received r1.sample) = record { held = in1.sample; within = in1.within } in
    let r2 = all.1 in
    let in2 = all.6 in
    let y2 : IsTarget (slice_index y.second.re k) (slice_index y.second.im k) (2 ^ 31)
    (received r2.sample) = record { held = in2.sample; within = in2.within } in
    let r3 = all.2 in
    let in3 = all.7 in
    let y3 : IsTarget (slice_index y.third.re k) (slice_index y.third.im k) (2 ^ 31) (received r3.sample) = record { held = in3.sample; within = in3.within } in
    let r4 = all.3 in
    let in4 = all.8 in
    let y4 : IsTarget (slice_index y.fourth.re k) (slice_index y.fourth.im k) (2 ^ 31)
    (received r4.sample) = record { held = in4.sample; within = in4.within } in
    let some1 = some in
    let some2 : 0 < slice_index c.next_row-second.result.spare k = omega (arith, some1, c.next_row-first.ensures.less k lt) in
    let some3 : 0 < slice_index c.next_row-third.result.spare k = omega (arith, some2, c.next_row-second.ensures.less k lt) in
    let some4 : 0 < slice_index c.last_row-fourth.result.spare k = omega (arith, some3, c.next_row-third.ensures.less k lt) in
    let sure4 = row-known c.args.i c.args.q _ _ _ _ _ _ _ _ _ _ (2 ^ 31) (received r4.sample) (omega arith) in4.diagonal
    (c.last_row-fourth.ensures.certain k lt) y4 some4 in
    let few4 = point-few c.args.i c.args.q _ _ _ _ _ _ _ _ sure4 in
    let t3_1 = target-without _ _ _ _ _ _ (2 ^ 31) (received r3.sample) (tap_1 r3)
    (point_of (slice_index c.last_row-fourth.result.i k) (slice_index c.last_row-fourth.result.q k)) y3 (in3.next (omega arith)) few4
    (λ h. c.without-target.ensures k lt (received r3.sample) (tap_1 r3) h (in3.next (omega arith)) few4) in
    let sure3 = row-known c.args.i c.args.q _ _ _ _ _ _ _ _ _ _ (2 ^ 31 + 458752)
    (complex_minus (received r3.sample) (entry_times (tap_1 r3)
    (point_of (slice_index c.last_row-fourth.result.i k) (slice_index c.last_row-fourth.result.q k)))) (omega arith) in3.diagonal
    (c.next_row-third.ensures.certain k lt) t3_1 some3 in
    let few3 = point-few c.args.i c.args.q _ _ _ _ _ _ _ _ sure3 in
    let t2_1 = target-without _ _ _ _ _ _ (2 ^ 31) (received r2.sample) (tap_1 r2)
    (point_of (slice_index c.next_row-third.result.i k) (slice_index c.next_row-third.result.q k)) y2 (in2.next (omega arith)) few3
    (λ h. c.without-target-2.ensures k lt (received r2.sample) (tap_1 r2) h (in2.next (omega arith)) few3) in
    let t2_2 = target-without _ _ _ _ _ _ (2 ^ 31 + 458752)
    (complex_minus (received r2.sample) (entry_times (tap_1 r2)
    (point_of (slice_index c.next_row-third.result.i k) (slice_index c.next_row-third.result.q k)))) (tap_2 r2)
    (point_of (slice_index c.last_row-fourth.result.i k) (slice_index c.last_row-fourth.result.q k)) t2_1 (in2.second (omega arith)) few4
    (λ h. c.without-target-3.ensures k lt (complex_minus (received r2.sample)
    (entry_times (tap_1 r2) (point_of (slice_index c.next_row-third.result.i k) (slice_index c.next_row-third.result.q k)))) (tap_2 r2) h
    (in2.second (omega arith)) few4) in
    let sure2 = row-known c.args.i c.args.q _ _ _ _ _ _ _ _ _ _ (2 ^ 31 + 458752 + 458752)
    (complex_minus (complex_minus (received r2.sample)
    (entry_times (tap_1 r2) (point_of (slice_index c.next_row-third.result.i k) (slice_index c.next_row-third.result.q k))))
    (entry_times (tap_2 r2) (point_of (slice_index c.last_row-fourth.result.i k) (slice_index c.last_row-fourth.result.q k))))
    (omega arith) in2.diagonal (c.next_row-second.ensures.certain k lt) t2_2 some2 in
    let few2 = point-few c.args.i c.args.q _ _ _ _ _ _ _ _ sure2 in
    let t1_1 = target-without _ _ _ _ _ _ (2 ^ 31) (received r1.sample) (tap_1 r1)
    (point_of (slice_index c.next_row-second.result.i k) (slice_index c.next_row-second.result.q k)) y1 (in1.next (omega arith)) few2
    (λ h. c.without-target-4.ensures k lt (received r1.sample) (tap_1 r1) h (in1.next (omega arith)) few2) in
    let t1_2 = target-without _ _ _ _ _ _ (2 ^ 31 + 458752)
    (complex_minus (received r1.sample) (entry_times (tap_1 r1)
    (point_of (slice_index c.next_row-second.result.i k) (slice_index c.next_row-second.result.q k)))) (tap_2 r1)
    (point_of (slice_index c.next_row-third.result.i k) (slice_index c.next_row-third.result.q k)) t1_1 (in1.second (omega arith)) few3
    (λ h. c.without-target-5.ensures k lt (complex_minus (received r1.sample)
    (entry_times (tap_1 r1) (point_of (slice_index c.next_row-second.result.i k) (slice_index c.next_row-second.result.q k)))) (tap_2 r1) h
    (in1.second (omega arith)) few3) in
    let t1_3 = target-without _ _ _ _ _ _ (2 ^ 31 + 458752 + 458752)
    (complex_minus (complex_minus (received r1.sample)
    (entry_times (tap_1 r1) (point_of (slice_index c.next_row-second.result.i k) (slice_index c.next_row-second.result.q k))))
    (entry_times (tap_2 r1) (point_of (slice_index c.next_row-third.result.i k) (slice_index c.next_row-third.result.q k)))) (tap_3 r1)
    (point_of (slice_index c.last_row-fourth.result.i k) (slice_index c.last_row-fourth.result.q k)) t1_2 (in1.third (omega arith)) few4
    (λ h. c.without-target-6.ensures k lt (complex_minus
    (complex_minus (received r1.sample) (entry_times (tap_1 r1)
    (point_of (slice_index c.next_row-second.result.i k) (slice_index c.next_row-second.result.q k))))
    (entry_times (tap_2 r1) (point_of (slice_index c.next_row-third.result.i k) (slice_index c.next_row-third.result.q k)))) (tap_3 r1) h
    (in1.third (omega arith)) few4) in
    let sure1 = row-known c.args.i c.args.q _ _ _ _ _ _ _ _ _ _ (2 ^ 31 + 458752 + 458752 + 458752)
    (complex_minus (complex_minus (complex_minus (received r1.sample)
    (entry_times (tap_1 r1) (point_of (slice_index c.next_row-second.result.i k) (slice_index c.next_row-second.result.q k))))
    (entry_times (tap_2 r1) (point_of (slice_index c.next_row-third.result.i k) (slice_index c.next_row-third.result.q k))))
    (entry_times (tap_3 r1) (point_of (slice_index c.last_row-fourth.result.i k) (slice_index c.last_row-fourth.result.q k))))
    (omega arith) in1.diagonal (c.next_row-first.ensures.certain k lt) t1_3 some1 in
    found_four c.args.i c.args.q job is.valid r1 r2 r3 r4 _ _ _ _ _ _ _ _ _ _ _ _ _ _ _ _ all.4 is.grid sure4 sure3 sure2 sure1 some
