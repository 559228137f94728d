use Rattle.std.proofs.Common.{Fits, arith, w32, ℕ}
use Rattle.std.proofs.lemmas.Simd.{Each1-get_or, get_or-replicate}
use Rattle.ht_viterbi.specs.declared.weights.TheConstants.{FALL}
use Rattle.ht_viterbi.proofs.weights.lowered.Goals as goal

pub returns-else-first_lane-lt-LIMIT-clause-costs : goal.returns-else-first_lane-lt-LIMIT-clause-costs
returns-else-first_lane-lt-LIMIT-clause-costs c = λ k lt.
    let high = c.if-first_lane-lt-LIMIT.false in
    let fits = Each1-get_or (Fits w32) c.args.costs k 0 (omega (arith, c.fits-costs.0, lt)) c.fits-costs.1 in
    let fall = get_or-replicate {A = ℕ} 64 k FALL 0 lt in
    omega (arith, high, c.first_lane.ensures, c.requires.close k lt, c.differences.ensures.lane k lt, fall, fits.fits, c.from.ensures)
