-- Heads of one rate, and the result of a whole frame.
use Rattle.std.proofs.Common.{◌≡◌, ℕ, List, [], ◌∷◌, ap, refl}
use Rattle.ht_clause18.specs.declared.rates.LegacyRate.{LegacyRate}
use Rattle.ht_clause18.specs.Rates.{modulation_of}
use Rattle.ht_frames.specs.Tallies.{IsAlike}
use Rattle.ht_inverse.specs.declared.decoded.Decoded.{Decoded}
use Rattle.ht_legacy_blocks.specs.declared.head.LegacyFrameHead.{LegacyFrameHead}
use Rattle.ht_legacy_inverse.specs.Decoding.{legacy_decoded_frame}
use Rattle.ht_metric.specs.Jobs.{JobView, near}
use Rattle.ht_results.proofs.Taking.{result_is as result_so}
use Rattle.ht_legacy_rx.specs.Results.{LegacySoFar, first_label, legacy_plan, result_by, result_of}

-- heads of one rate say the same of their jobs
pub alike : (head other : LegacyFrameHead) → head.rate ≡ other.rate → IsAlike legacy_plan head other
alike head other same =
    let kept : LegacyRate → JobView → List ℕ = λ r job. first_label (modulation_of r) (near job).vector ∷ [] in
    record {
      kind = refl;
      values = ap kept same;
      data_carriers = refl;
      width = refl;
    }

-- the result of a whole frame
pub result_is : (f g : LegacySoFar) (d : Decoded) → g ≡ f → d ≡ legacy_decoded_frame g.head.rate g.head.length g.labels → result_by g d ≡ result_of f
unfolding result_of
result_is = result_so (λ (h : LegacyFrameHead). h.frame) (λ h labels. legacy_decoded_frame h.rate h.length labels)
