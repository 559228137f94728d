use Rattle.std.proofs.lemmas.Simd.{get_or-chunk}
use Rattle.ht_rounding.proofs.columns.part_lanes.Goals as goal

pub returns : goal.returns
returns c has k lt = get_or-chunk c.args.at 8 c.args.column.now k 0 lt
