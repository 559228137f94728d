use Rattle.std.proofs.Common.{◌∙◌, ℕ, ◌+◌, ◌-◌, ◌%◌, ap, slice_index, true}
use Rattle.ht_viterbi.specs.Lanes.{hard_costs}
use Rattle.ht_viterbi.specs.Trellis.{branch_cost}
use Rattle.ht_viterbi.proofs.branches.rises_of_pair.Goals as goal

pub returns : goal.returns
returns c =
    let ones = c.costs_of_pair.ensures in
    let zeros = c.costs_of_pair-2.ensures in
    let is = c.differences.ensures in
    record {
      count = is.count;
      lane = λ k lt.
          is.lane k lt
          ∙ (ap (λ (n : ℕ). (n + (256 - slice_index c.costs_of_pair-2.result k)) % 256) (ones.lane k lt)
          ∙ ap (λ (n : ℕ). (branch_cost (hard_costs c.args.pair) k true + (256 - n)) % 256) (zeros.lane k lt));
    }
