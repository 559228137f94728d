-- The weights of label bits, as C passes them.
use Rattle.std.specs.Prelude.{◌≡◌, ℕ, ◌+◌, ◌*◌, ◌/◌, ◌%◌, ◌<◌, ◌≤◌, ℤ, pos, List, slice_index_or}
use Rattle.ht_rate.specs.declared.rates.Rate.{Rate}
use Rattle.ht_rate.specs.Rates.{label_bits_of, modulation_of, streams_of}
use Rattle.ht_soft.specs.Weights.{weight_at}
use Rattle.ht_library.specs.declared.crossing.MizgaureChannel.{MizgaureChannel}
use Rattle.ht_library.specs.declared.crossing.MizgaureReceived.{MizgaureReceived}
use Rattle.ht_library.specs.Detected.{job_at}

-- the label bits of a data subcarrier on all streams
abbrev pub bits_each : Rate → ℕ
bits_each rate = streams_of rate * label_bits_of rate

-- there is a weight for each label bit of each sample, and the samples are those of whole symbols over the channels
pub record AreWeighed (rate : Rate) (channels received weights : ℕ) : Type 0 where
  pub some : 1 ≤ channels
  pub each : weights ≡ received * bits_each rate
  pub whole : received % channels ≡ 0

-- the first of these weights are those of their label bits, in the order sample, stream, bit
abbrev pub AreWeights : ℕ → Rate → List MizgaureChannel → List MizgaureReceived → List ℤ → Type 0
AreWeights count rate channels received weights = (k : ℕ) → k < count
    → slice_index_or weights k (pos 0)
    ≡ weight_at (modulation_of rate) (job_at rate channels received (k / bits_each rate))
    (k % bits_each rate / label_bits_of rate + 1) (k % bits_each rate % label_bits_of rate)
