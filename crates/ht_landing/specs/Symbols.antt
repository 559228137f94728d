-- The interleaved bits of a symbol on all streams, and the bit that a label has there.
use Rattle.std.specs.Prelude.{◌≡◌, ℕ, ◌+◌, ◌-◌, ◌*◌, ◌<◌, ◌≤◌, List, Bool, false, slice_index_or}
use Rattle.ht_rate.specs.declared.rates.Rate.{Rate}
use Rattle.ht_rate.specs.Rates.{streams_of, stream_bits_of, label_bits_of}
use Rattle.ht_interleave.specs.Interleaver.{place_of}
use Rattle.ht_landing.specs.declared.landings.Landing.{Landing}

-- each stream's list has the stream's bits of the symbol, which has the streams one after another, at their places
abbrev pub AreInterleaved : Rate → List Bool → (ℕ → List Bool) → Type 0
AreInterleaved r bits places =
    (stream k : ℕ) → 1 ≤ stream → stream ≤ streams_of r → k < stream_bits_of r
    → slice_index_or (places stream) (place_of r stream k) false ≡ slice_index_or bits ((stream - 1) * stream_bits_of r + k) false

-- the bit at the place of a label bit
abbrev pub placed_bit : Rate → (ℕ → List Bool) → Landing → Bool
placed_bit r places l = slice_index_or (places l.stream) (l.carrier * label_bits_of r + l.bit) false
