use Rattle.std.proofs.Common.{◌∙◌, ℕ, [], slice_index_or, subst, sym}
use Rattle.ht_viterbi.specs.Lanes.{HasLanes, pair_of_number, row_costs}
use Rattle.ht_viterbi.proofs.RowFacts.{row-back}
use Rattle.ht_viterbi.proofs.branches.lanes_of.Goals as goal

pub returns : goal.returns
returns c = λ value holds.
    subst (λ (n : ℕ). HasLanes (slice_index_or c.args.branches.now n []) (value (row_costs c.args.row)))
    (row-back c.args.row c.requires ∙ sym c.from.ensures) (holds (pair_of_number c.args.row))
