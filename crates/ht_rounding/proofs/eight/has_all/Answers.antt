use Rattle.std.proofs.Common.{arith}
use Rattle.ht_pam.specs.Grids.{no_axes}
use Rattle.ht_rounding.proofs.Answered.{all_same}
use Rattle.ht_rounding.proofs.eight.has_all.Goals as goal

pub returns : goal.returns
returns c e = all_same c.args.grid.now c.args.streams no_axes _ c.requires (λ k lt. c.loop-stream.invariant k (omega (arith, lt, c.loop-stream-test.false)))
