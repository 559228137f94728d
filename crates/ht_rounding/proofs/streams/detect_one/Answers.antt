use Rattle.std.proofs.Common.{◌^◌, arith, slice_index}
use Rattle.ht_metric.specs.Distance.{received}
use Rattle.ht_rounding.proofs.Settling.{IsTarget, row-known}
use Rattle.ht_rounding.proofs.FoundLanes.{split_one, found_one}
use Rattle.ht_rounding.proofs.streams.detect_one.Goals as goal

pub returns : goal.returns
returns c k job lt some is =
    let ch = c.args.channel.now in
    let y = c.args.samples.now in
    let all = split_one ch.first ch.second ch.third ch.fourth y.first y.second y.third y.fourth k job.system is.streams is.rows in
    let r = all.0 in
    let t : IsTarget (slice_index y.first.re k) (slice_index y.first.im k) (2 ^ 31)
    (received r.sample) = record { held = all.2.sample; within = all.2.within } in
    found_one c.args.i c.args.q job is.valid r _ _ _ _ all.1 is.grid
    (row-known c.args.i c.args.q _ _ _ _ _ _ _ _ _ _ (2 ^ 31) (received r.sample) (omega arith) all.2.diagonal (c.last_row.ensures.certain k lt) t some) some
