use Rattle.std.proofs.Common.{ℕ, arith, slice_index, subst, sym}
use Rattle.std.proofs.lemmas.Simd.{get_or-replicate}
use Rattle.ht_rounding.specs.Proposals.{Proposes}
use Rattle.ht_rounding.proofs.LaneFacts.{fits-lane}
use Rattle.ht_rounding.proofs.Folding.{one-proposes}
use Rattle.ht_rounding.proofs.levels.at_one.Goals as goal

pub returns-clause-zero : goal.returns-clause-zero
returns-clause-zero c k lt = get_or-replicate {A = ℕ} 8 k 0 0 lt

pub returns-clause-proposed : goal.returns-clause-proposed
returns-clause-proposed c k lt bound le =
    subst (λ (x : ℕ). Proposes 1 bound (slice_index c.args.target k) (slice_index c.args.d k) x (slice_index c.size.result k))
    (sym (get_or-replicate {A = ℕ} 8 k 0 0 lt))
    (one-proposes (slice_index c.args.target k) (slice_index c.args.d k) (slice_index c.size.result k) bound
    (fits-lane c.args.target k (omega (arith, c.fits-target.0)) c.fits-target.1) le (c.size.ensures.lane k lt))
