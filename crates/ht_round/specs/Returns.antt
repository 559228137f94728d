-- The labels of a frame, in the order in which a receiver has them.
use Rattle.std.specs.Prelude.{ℕ, ◌<◌, ◌≤◌, ◌^◌, List, length, All, slice_index_or}
use Rattle.ht_rate.specs.Rates.{data_carriers_of, streams_of, symbols_of}
use Rattle.ht_tx.specs.Frames.{FrameView}
use Rattle.ht_tx.specs.Transmitted.{IsLabelOf}
use Rattle.ht_inverse.specs.Received.{label_number}

-- numbers below 256
abbrev pub AreOctets : List ℕ → Type 0
AreOctets octets = All (λ octet. octet < 2 ^ 8) octets

-- each label is the one that the transmit chain gives to its symbol, data subcarrier and stream
abbrev pub AreLabelsOf : FrameView → List ℕ → Type 0
AreLabelsOf f labels =
    (symbol carrier stream : ℕ) → symbol < symbols_of f.rate (length f.octets) → carrier < data_carriers_of f.rate
    → 1 ≤ stream → stream ≤ streams_of f.rate
    → IsLabelOf f symbol carrier stream (slice_index_or labels (label_number f.rate symbol carrier stream) 0)
