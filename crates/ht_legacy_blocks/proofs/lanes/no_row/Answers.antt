use Rattle.std.proofs.Common.{ℕ, arith}
use Rattle.std.proofs.lemmas.Simd.{get_or-replicate}
use Rattle.ht_legacy_blocks.proofs.lanes.no_row.Goals as goal

pub returns : goal.returns
returns c k lt = let none = get_or-replicate {A = ℕ} 8 k 0 0 lt in omega (arith, none)
