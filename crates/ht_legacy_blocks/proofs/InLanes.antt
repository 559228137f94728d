-- A symbol's subcarriers in lanes.
use Rattle.std.proofs.Common.{◌≡◌, ℕ, ◌+◌, ◌<◌, List, [], ◌∷◌, inl, inr, length, set, slice_index, slice_index_or, refl, sym, ap, ◌∙◌, arith, subst}
use Rattle.std.proofs.lemmas.Bool.{cases_lt}
use Rattle.std.proofs.lemmas.List.{get_or-set_other, get_or-set_same, length-set}
use Rattle.std.proofs.lemmas.List.Elements.{All-cons, All-nil}
use Rattle.ht_rate.specs.declared.kinds.Carrier.{Carrier}
use Rattle.ht_rate.specs.declared.kinds.Modulation.{Modulation}
use Rattle.ht_rate.specs.declared.kinds.Modulation.TheVariants.{Bpsk, Qpsk, Qam16, Qam64}
use Rattle.ht_map.specs.Constellation.{axes_of}
use Rattle.ht_pam.specs.declared.axes.Axes.{Axes}
use Rattle.ht_pam.specs.Grids.{AreLadders, IsGrid}
use Rattle.ht_pam.specs.Ladders.{IsLadder}
use Rattle.ht_metric.specs.Rows.{no_sample}
use Rattle.ht_clause18.specs.Carriers.{carrier_of}
use Rattle.ht_clause18.specs.Rates.{modulation_of}
use Rattle.ht_rounding.specs.declared.levels.Levels.{Levels}
use Rattle.ht_rounding.specs.declared.levels.Levels.TheVariants.{One, Two, Four, Eight}
use Rattle.ht_rounding.specs.declared.streams.Channel.{Channel}
use Rattle.ht_rounding.specs.declared.streams.SampleLanes.{SampleLanes}
use Rattle.ht_rounding.specs.InLanes.{IsInLane, axes_of as lane_axes}
use Rattle.ht_rounding.specs.Labels.{i_levels, q_levels}
use Rattle.ht_rounding.specs.Loading.{IsWord}
use Rattle.ht_rounding.specs.Proposals.{full}
use Rattle.ht_legacy_blocks.specs.Jobs.{SymbolView, axes_for, grid_at, job_of}
use Rattle.ht_legacy_blocks.specs.Lanes.{IsData}

-- one more lane
pub lanes-more : (holds : ℕ → ℕ → Type 0) (lanes : List ℕ) (k w : ℕ) → k < 8 → (length lanes ≡ 8) × ((j : ℕ) → j < k → holds j (slice_index lanes j))
    → holds k w → (length (set lanes k w) ≡ 8) × ((j : ℕ) → j < k + 1 → holds j (slice_index (set lanes k w) j))
lanes-more holds lanes k w lt before here = (
  length-set lanes k w ∙ before.0,
  λ j less. elim (cases_lt j k) [
    | inl earlier ↦
        subst (λ (n : ℕ). holds j n) (sym (get_or-set_other lanes k j w 0 (λ same. omega (arith, same, earlier)))) (before.1 j earlier)
    | inr later ↦
        let same : k ≡ j = omega (arith, less, later) in
        let word : holds k (slice_index (set lanes k w) k) =
        subst (λ (n : ℕ). holds k n) (sym (get_or-set_same lanes k w 0 (omega (arith, before.0, lt)))) here in
        subst (λ (m : ℕ). holds m (slice_index (set lanes k w) m)) same word
  ],
)

-- a constellation has all levels
all-levels : (m : Modulation) → axes_of m ≡ lane_axes (i_levels m) (q_levels m)
unfolding axes_of
all-levels Bpsk = refl
all-levels Qpsk = refl
all-levels Qam16 = refl
all-levels Qam64 = refl

ladder : (l : Levels) → IsLadder (full l)
ladder One = record { size = inl refl; some = omega arith; within = omega arith }
ladder Two = record { size = inr (inl refl); some = omega arith; within = omega arith }
ladder Four = record { size = inr (inr (inl refl)); some = omega arith; within = omega arith }
ladder Eight = record { size = inr (inr (inr refl)); some = omega arith; within = omega arith }

ladders : (m : Modulation) → AreLadders (lane_axes (i_levels m) (q_levels m))
ladders m = record { i = ladder (i_levels m); q = ladder (q_levels m) }

one-grid : (m : Modulation) → IsGrid (lane_axes (i_levels m) (q_levels m) ∷ [])
one-grid m = record {
  some = omega arith;
  few = omega arith;
  ladders = All-cons AreLadders (lane_axes (i_levels m) (q_levels m)) [] (ladders m) (All-nil AreLadders);
}

-- a data subcarrier is in its lane
pub in-lane : (m : Modulation) (channel : Channel) (samples : SampleLanes) (s : SymbolView) (k c : ℕ) → modulation_of s.head.rate ≡ m → IsData (carrier_of c)
    → slice_index channel.first.diagonal k ≡ slice_index_or s.diagonals c 0
    → IsWord (slice_index samples.first.re k) (slice_index_or s.samples c no_sample).re
    → IsWord (slice_index samples.first.im k) (slice_index_or s.samples c no_sample).im
    → IsInLane (i_levels m) (q_levels m) channel samples k 1 (job_of s c)
unfolding job_of grid_at
in-lane m channel samples s k c of carries diagonal re im =
    let grid : grid_at s.head.rate s.symbol c ≡ lane_axes (i_levels m) (q_levels m) ∷ [] =
    ap (λ (kind : Carrier). axes_for s.head.rate s.symbol kind ∷ []) carries.1 ∙ ap (λ (n : Modulation). axes_of n ∷ []) of
    ∙ ap (λ (a : Axes). a ∷ []) (all-levels m) in
    record {
      valid = record { grid = subst (λ (g : List Axes). IsGrid g) (sym grid) (one-grid m); streams = refl };
      streams = refl;
      grid = grid;
      rows = (
        record {
          diagonal = diagonal;
          sample = record { re = re.held; im = im.held };
          within = record { re = re.within; im = im.within };
          next = λ some. absurd (omega (arith, some));
          second = λ some. absurd (omega (arith, some));
          third = λ some. absurd (omega (arith, some));
        },
        tt,
      );
    }
