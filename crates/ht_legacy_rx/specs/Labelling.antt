-- What is kept of a job whose nearest vector has one point is that point's label.
use Rattle.std.proofs.Common.{◌≡◌, ℕ, zero, suc, List, [], ◌∷◌, length, map, refl, arith}
use Rattle.ht_metric.specs.Jobs.{JobView, near}
use Rattle.ht_pam.specs.declared.point.Point.{Point}
use Rattle.ht_rate.specs.declared.kinds.Modulation.{Modulation}
use Rattle.ht_clause18.specs.Rates.{modulation_of}
use Rattle.ht_results.specs.Folding.{label_at}
use Rattle.ht_legacy_blocks.specs.declared.head.LegacyFrameHead.{LegacyFrameHead}
use Rattle.ht_legacy_rx.specs.Results.{first_label}

of_one : (m : Modulation) (points : List Point) → length points ≡ 1 → first_label m points ∷ [] ≡ map (label_at m) points
of_one m [] one = absurd (omega (arith, one))
of_one m (p ∷ []) one = refl
of_one m (p ∷ q ∷ points) one = absurd (omega (arith, one))

pub one_label : (head : LegacyFrameHead) (job : JobView) → length (near job).vector ≡ 1
    → first_label (modulation_of head.rate) (near job).vector ∷ [] ≡ map (label_at (modulation_of head.rate)) (near job).vector
one_label head job one = of_one (modulation_of head.rate) (near job).vector one
