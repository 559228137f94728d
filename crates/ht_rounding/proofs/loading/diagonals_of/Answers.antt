use Rattle.std.proofs.Common.{ℕ}
use Rattle.std.proofs.lemmas.Simd.{get_or-replicate}
use Rattle.ht_rounding.proofs.Loaded.{cut-diagonal, cut-small}
use Rattle.ht_rounding.proofs.loading.diagonals_of.Goals as goal

pub returns-clause-small : goal.returns-clause-small
returns-clause-small c k lt = cut-small _ _ _ (c.lesser.ensures.lane k lt) (get_or-replicate {A = ℕ} 8 k 65535 0 lt)

pub returns-clause-diagonal : goal.returns-clause-diagonal
returns-clause-diagonal c k lt le =
    cut-diagonal _ _ _ _ (c.lesser.ensures.lane k lt) (get_or-replicate {A = ℕ} 8 k 65535 0 lt) (c.lanes_of.ensures k lt le)
