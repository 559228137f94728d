-- Halves and weights worked out, by computation.
use Rattle.std.proofs.Common.{◌≡◌, ℕ, ℤ, pos, negsuc, List, [], ◌∷◌, map, Bool, true, false, refl}
use Rattle.ht_rate.specs.declared.kinds.Modulation.{Modulation}
use Rattle.ht_rate.specs.declared.kinds.Modulation.TheVariants.{Bpsk, Qpsk, Qam16, Qam64}
use Rattle.ht_pam.specs.Ladders.{levels}
use Rattle.ht_map.specs.Constellation.{axes_of}
use Rattle.ht_metric.specs.Jobs.{JobView}
use Rattle.ht_soft.specs.Halves.{cut_axis, half_axes, half_of}
use Rattle.ht_soft.specs.Weights.{weight_at, weight_of}

-- bit 0 of 64-QAM is the sign of I, and bit 5 says whether Q is -5, -3, 3 or 5
abbrev i_levels : Modulation → ℕ → Bool → List ℤ
i_levels m e value = levels (half_axes m e value).i

abbrev q_levels : Modulation → ℕ → Bool → List ℤ
q_levels m e value = levels (half_axes m e value).q

i_cut : i_levels Bpsk 0 true ∷ i_levels Qpsk 1 false ∷ i_levels Qam16 1 true ∷ i_levels Qam64 0 false ∷ []
    ≡ (pos 1 ∷ []) ∷ (negsuc 0 ∷ pos 1 ∷ []) ∷ (negsuc 0 ∷ pos 1 ∷ []) ∷ (negsuc 6 ∷ negsuc 4 ∷ negsuc 2 ∷ negsuc 0 ∷ []) ∷ []
unfolding half_axes cut_axis axes_of
i_cut = refl

q_cut : q_levels Qpsk 1 false ∷ q_levels Qam16 2 true ∷ q_levels Qam64 5 true ∷ []
    ≡ (negsuc 0 ∷ []) ∷ (pos 1 ∷ pos 3 ∷ []) ∷ (negsuc 4 ∷ negsuc 2 ∷ pos 3 ∷ pos 5 ∷ []) ∷ []
unfolding half_axes cut_axis axes_of
q_cut = refl

-- the first distance less the second, cut at both ends
cut_at_both_ends : map (λ (pair : ℕ × ℕ). weight_of pair.0 pair.1) ((185, 65) ∷ (100, 100) ∷ (6400000000, 0) ∷ (0, 65536) ∷ [])
    ≡ pos 120 ∷ pos 0 ∷ pos 65535 ∷ negsuc 65534 ∷ []
unfolding weight_of
cut_at_both_ends = refl

-- one stream, diagonal d and sample re, im
unfoldable job : Modulation → ℕ → ℤ → ℤ → JobView
job m d re im = record {
  number = 0;
  place = record { frame = 0; symbol = 0; carrier = 0 };
  grid = axes_of m ∷ [];
  system = record { diagonal = d; right = []; sample = record { re = re; im = im } } ∷ [];
}

-- BPSK with diagonal 10 and the samples 3 - 4i, where the distances are 185 and 65, and -4i
by_sample : map (λ (re : ℤ). weight_at Bpsk (job Bpsk 10 re (negsuc 3)) 1 0) (pos 3 ∷ pos 0 ∷ []) ≡ pos 120 ∷ pos 0 ∷ []
unfolding weight_at weight_of half_of half_axes cut_axis axes_of job
by_sample = refl

-- 16-QAM with diagonal 2 and sample 3 - 7i
unfoldable by_hand : List ℤ
by_hand =
    let w : ℕ → ℤ = weight_at Qam16 (job Qam16 2 (pos 3) (negsuc 6)) 1 in
    w 0 ∷ w 1 ∷ w 2 ∷ w 3 ∷ []

worked : by_hand ≡ pos 24 ∷ pos 8 ∷ negsuc 79 ∷ negsuc 23 ∷ []
unfolding weight_at weight_of half_of half_axes cut_axis axes_of job by_hand
worked = refl
