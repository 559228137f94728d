-- Weights of a subcarrier, their place, and lines, by computation. The numbers were worked out by hand.
use Rattle.std.proofs.Common.{◌≡◌, ℕ, ◌*◌, pos, negsuc, [], ◌∷◌, ◌++◌, codes, None, Some, refl}
use Rattle.std.specs.Fmt.{digits}
use Rattle.ht_rate.specs.Rates.{data_carriers_of, label_bits_of, modulation_of, rate_at, streams_of}
use Rattle.ht_map.specs.Constellation.{axes_of}
use Rattle.ht_metric.specs.Jobs.{JobView}
use Rattle.ht_capture.specs.declared.items.FrameHead.{FrameHead}
use Rattle.ht_inverse.specs.declared.outcome.Outcome.TheVariants.{Octets, SeedZero}
use Rattle.ht_soft.specs.Halves.{cut_axis, half_axes, half_of}
use Rattle.ht_soft.specs.Weights.{weight_at, weight_of}
use Rattle.ht_text.specs.Lines.{outcome_text, soft_text}
use Rattle.ht_results.specs.Plans.{place_by}
use Rattle.ht_soft_rx.specs.Jobs.{weight_plan}
use Rattle.ht_soft_rx.specs.Texts.{soft_line}
use Rattle.ht_soft_rx.specs.Weights.{weights_in, weights_of_job}

-- a frame at 20 MHz
unfoldable head_at : ℕ → FrameHead
head_at mcs = record { frame = 0; rate = rate_at 0 mcs; length = 1; erased = 0 }

-- QPSK on one stream, diagonal 10, sample 3 - 4i: I has the gaps 13 and 7 to -10 and 10, and Q the gaps 6 and 14. So the bit
-- of I weighs 169 - 49, and that of Q 36 - 196.
unfoldable job : JobView
job = record {
  number = 5;
  place = record { frame = 0; symbol = 0; carrier = 3 };
  grid = axes_of (modulation_of (rate_at 0 1)) ∷ [];
  system = record { diagonal = 10; right = []; sample = record { re = pos 3; im = negsuc 3 } } ∷ [];
}

weighs : weights_in (head_at 1) (Some job) ≡ pos 120 ∷ negsuc 159 ∷ []
unfolding head_at job rate_at modulation_of streams_of label_bits_of weight_at weight_of half_of half_axes cut_axis axes_of
weighs = refl

erased : weights_in (head_at 1) None ≡ pos 0 ∷ pos 0 ∷ []
unfolding head_at rate_at modulation_of streams_of label_bits_of
erased = refl

-- at MCS 31 a job has 24 weights, and those of data subcarrier 3 in symbol 1 stand behind those of 55 others
of_a_job : weights_of_job (head_at 31) ≡ 24
unfolding head_at rate_at modulation_of streams_of label_bits_of
of_a_job = refl

place : place_by weight_plan (head_at 31) 1 3 ≡ 55 * 24
unfolding head_at rate_at modulation_of streams_of label_bits_of data_carriers_of
place = refl

-- the lines of two frames
decoded_line : soft_line (record { frame = 0; cost = 5; outcome = Octets (165 ∷ 15 ∷ []) }) ≡ codes "soft 0 cost 5 octets a50f" ++ 10 ∷ []
unfolding soft_line soft_text outcome_text digits
decoded_line = refl

seedless_line : soft_line (record { frame = 7; cost = 0; outcome = SeedZero }) ≡ codes "soft 7 cost 0 seed zero" ++ 10 ∷ []
unfolding soft_line soft_text outcome_text digits
seedless_line = refl
