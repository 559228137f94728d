use Rattle.std.proofs.Common.{arith, slice_index}
use Rattle.ht_rounding.proofs.LaneFacts.{fits-lane}
use Rattle.ht_rounding.proofs.RowLemmas.{row-sure, spare-less, sum-fits}
use Rattle.ht_rounding.proofs.rows.next_row.Goals as goal

pub cost-cost-requires-clause-i : goal.cost-cost-requires-clause-i
cost-cost-requires-clause-i c k lt = (c.nearest_level-at_i.ensures k lt).small

pub cost-cost-requires-clause-q : goal.cost-cost-requires-clause-q
cost-cost-requires-clause-q c k lt = (c.nearest_level-at_q.ensures k lt).small

pub returns-clause-fitting : goal.returns-clause-fitting
returns-clause-fitting c k lt = sum-fits (slice_index c.args.spare k) (slice_index c.args.rho k) _ _ _ _ _ _ _
    (fits-lane c.args.spare k (omega (arith, c.fits-spare.0)) c.fits-spare.1) (c.requires.fitting k lt) (c.nearest_level-at_i.ensures k lt).small
    (c.nearest_level-at_q.ensures k lt).small (c.cost-cost.ensures k lt) (c.over.ensures.lane k lt) (c.lesser-2.ensures.lane k lt)
    (c.plus.ensures.lane k lt)

pub returns-clause-certain : goal.returns-clause-certain
returns-clause-certain c k lt = row-sure c.args.i c.args.q (slice_index c.args.d k) _ (slice_index c.args.spare k)
    (slice_index c.args.rho k) _ _ _ _ _ _ _ _ _ _ _ _ _ _ _
    (c.cut-cut.ensures k lt) (fits-lane c.args.spare k (omega (arith, c.fits-spare.0)) c.fits-spare.1) (c.requires.fitting k lt)
    (c.nearest_level-at_i.ensures k lt) (c.nearest_level-at_q.ensures k lt) (c.cost-cost.ensures k lt) (c.over.ensures.lane k lt) (c.lesser.ensures.lane k lt)
    (c.times.ensures.lane k lt) (c.product-margin.ensures.lane k lt) (c.lesser-2.ensures.lane k lt) (c.plus.ensures.lane k lt)

pub returns-clause-less : goal.returns-clause-less
returns-clause-less c k lt = spare-less (slice_index c.args.spare k) _ _ _ _ _ _ (fits-lane c.args.spare k (omega (arith, c.fits-spare.0)) c.fits-spare.1)
    (c.nearest_level-at_i.ensures k lt).small (c.nearest_level-at_q.ensures k lt).small (c.cost-cost.ensures k lt) (c.over.ensures.lane k lt)
    (c.lesser-2.ensures.lane k lt)
