use Rattle.std.proofs.Common.{slice_index}
use Rattle.ht_rounding.proofs.RowLemmas.{cost-is}
use Rattle.ht_rounding.proofs.rows.cost.Goals as goal

pub returns : goal.returns
returns c k lt =
    cost-is (slice_index c.args.i k) (slice_index c.args.q k) _ _ _ (c.requires.i k lt) (c.requires.q k lt) (c.product.ensures.lane k lt)
    (c.product-2.ensures.lane k lt)
    (c.plus.ensures.lane k lt)
