-- Where the bits of a symbol's labels stand among the coded bits, and what the parts of the transmitter hand on.
use Rattle.std.specs.Prelude.{◌≡◌, ℕ, ◌+◌, ◌-◌, ◌*◌, ◌/◌, ◌%◌, ◌<◌, ◌≤◌, List, length, Bool, false, slice_index_or}
use Rattle.ht_rate.specs.declared.rates.Rate.{Rate}
use Rattle.ht_rate.specs.Carriers.{carrier_of}
use Rattle.ht_rate.specs.Rates.{data_carriers_of, streams_of, carriers_of, label_bits_of, encoders_of}
use Rattle.ht_pam.specs.declared.point.Point.{Point}
use Rattle.ht_landing.specs.Landings.{coded_bit_of}
use Rattle.ht_tx.specs.Frames.{FrameView}
use Rattle.ht_tx.specs.Symbols.{origin}
use Rattle.ht_tx.specs.Coded.{coded_of, reach_of}
use Rattle.ht_tx.specs.Transmitted.{label_bit_at, Carries}

-- the place of a label bit in a symbol, in the order data subcarrier, stream, bit
unfoldable pub slot_of : Rate → ℕ → ℕ → ℕ → ℕ
slot_of r carrier stream bit = (carrier * streams_of r + (stream - 1)) * label_bits_of r + bit

-- the place of its coded bit in symbol 0, where the lists of the encoders stand one after another, each as long as `reach`
unfoldable pub source_at : Rate → ℕ → ℕ → ℕ → ℕ → ℕ
source_at r reach carrier stream bit =
    let from = coded_bit_of r (label_bit_at 0 carrier stream bit) in
    from.0 * reach + from.1

-- the same by the place of the label bit
unfoldable pub source_of_slot : Rate → ℕ → ℕ → ℕ
source_of_slot r reach slot =
    source_at r reach (slot / label_bits_of r / streams_of r) (slot / label_bits_of r % streams_of r + 1) (slot % label_bits_of r)

-- the lists of coded bits of the encoders, one after another
pub record AreCoded (f : FrameView) (bits : List Bool) : Type 0 where
  pub whole : length bits ≡ encoders_of f.rate * reach_of f
  pub places : (j q : ℕ) → j < encoders_of f.rate → q < reach_of f
      → slice_index_or bits (j * reach_of f + q) false ≡ slice_index_or (coded_of f j) q false

-- a label bit that the rate has
pub record IsLabelSlot (r : Rate) (carrier stream bit : ℕ) : Type 0 where
  pub carrier_below : carrier < data_carriers_of r
  pub stream_low : 1 ≤ stream
  pub stream_high : stream ≤ streams_of r
  pub bit_below : bit < label_bits_of r

-- coded bits in which each label bit of a symbol finds its coded bit by its source
pub record AreWired (f : FrameView) (symbol : ℕ) (coded : List Bool) (sources : List ℕ) : Type 0 where
  pub whole : length sources ≡ data_carriers_of f.rate * streams_of f.rate * label_bits_of f.rate
  pub inside : (carrier stream bit : ℕ) → IsLabelSlot f.rate carrier stream bit
      → slice_index_or sources (slot_of f.rate carrier stream bit) 0 < length coded
  pub found : (carrier stream bit : ℕ) → IsLabelSlot f.rate carrier stream bit
      → let from = coded_bit_of f.rate (label_bit_at symbol carrier stream bit) in
      slice_index_or coded (slice_index_or sources (slot_of f.rate carrier stream bit) 0) false
      ≡ slice_index_or (coded_of f from.0) from.1 false

-- the points of a frame as far as they are there, each by its place
abbrev pub AreCarried : FrameView → List Point → Type 0
AreCarried f points = (p : ℕ) → p < length points
    → Carries f (p / streams_of f.rate / carriers_of f.rate) (carrier_of f.rate (p / streams_of f.rate % carriers_of f.rate))
    (p % streams_of f.rate + 1) (slice_index_or points p origin)
