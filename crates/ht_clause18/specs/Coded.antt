-- From the octets of a frame to its coded bits (IEEE Std 802.11-2012, clauses 18.3.5.2 to 18.3.5.6).
use Rattle.std.specs.Prelude.{ℕ, ◌+◌, ◌*◌, List, take, drop, length, Bool}
use Rattle.ht_scramble.specs.Sequence.{scrambled}
use Rattle.ht_conv.specs.Code.{sent_bits}
use Rattle.ht_data.specs.Data.{service_and_octets as octets_end, data_of as data_bits, zeroed}
use Rattle.ht_clause18.specs.Frames.{LegacyFrameView}
use Rattle.ht_clause18.specs.Rates.{coded_bits_of, pads_of, pattern_of}

-- SERVICE and the octets: 16 bits, and 8 for each octet
abbrev pub service_and_octets : LegacyFrameView → ℕ
service_and_octets f = octets_end f.octets

-- the DATA bits: the 16 zeros of SERVICE, the octets with the least significant bit first, six tail bits and the pads, all
-- zeros
unfoldable pub data_of : LegacyFrameView → List Bool
data_of f = data_bits f.octets (6 + pads_of f.rate (length f.octets))

-- what the encoder takes: the scrambled bits, with zeros again in the places of the six tail bits
unfoldable pub coder_input : LegacyFrameView → List Bool
coder_input f = zeroed (service_and_octets f) 6 (scrambled f.seed (data_of f))

-- the coded bits at the places that the rate's pattern keeps
unfoldable pub coded_of : LegacyFrameView → List Bool
coded_of f = sent_bits (pattern_of f.rate) (coder_input f)

-- those of symbol n: each symbol takes the next N_CBPS
unfoldable pub symbol_bits : LegacyFrameView → ℕ → List Bool
symbol_bits f n = take (coded_bits_of f.rate) (drop (n * coded_bits_of f.rate) (coded_of f))
