use Rattle.std.proofs.Common.{slice_index}
use Rattle.ht_rounding.proofs.Labelling.{labelled}
use Rattle.ht_rounding.proofs.labels.labels.Goals as goal

pub returns : goal.returns
returns c k lt is_i is_q =
    labelled c.args.i c.args.q (slice_index c.args.stream.now.i k) (slice_index c.args.stream.now.q k) _ _ _ _ _ (c.bits.ensures k lt is_i)
    (c.bits-2.ensures k lt is_q) c.count.ensures (c.times.ensures.lane k lt) (c.plus.ensures.lane k lt)
