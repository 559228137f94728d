-- From the octets of a frame to the coded bits of its encoders (IEEE Std 802.11-2012, clauses 20.3.11.2 to 20.3.11.6).
use Rattle.std.specs.Prelude.{ℕ, ◌+◌, ◌*◌, ◌/◌, List, map, length, Bool, false, slice_index_or}
use Rattle.std.specs.List.{range_with_len}
use Rattle.ht_rate.specs.declared.rates.Rate.{Rate}
use Rattle.ht_rate.specs.Rates.{encoders_of, pads_of, pattern_of, symbols_of}
use Rattle.ht_scramble.specs.Sequence.{scrambled}
use Rattle.ht_conv.specs.Code.{sent_bits}
use Rattle.ht_data.specs.Data.{service_and_octets as octets_end, data_of as data_bits, zeroed}
use Rattle.ht_parse.specs.Streams.{share_of}
use Rattle.ht_tx.specs.Frames.{FrameView}

-- SERVICE and the octets: 16 bits, and 8 for each octet
abbrev pub service_and_octets : FrameView → ℕ
service_and_octets f = octets_end f.octets

-- six tail bits for each encoder
abbrev pub tail_of : FrameView → ℕ
tail_of f = 6 * encoders_of f.rate

-- the DATA bits: the 16 zeros of SERVICE, the octets with the least significant bit first, tail and pads, all zeros
unfoldable pub data_of : FrameView → List Bool
data_of f = data_bits f.octets (tail_of f + pads_of f.rate (length f.octets))

-- what the encoders take together: the scrambled bits, with zeros again in the places of the tail
unfoldable pub coder_input : FrameView → List Bool
coder_input f = zeroed (service_and_octets f) (tail_of f) (scrambled f.seed (data_of f))

-- the part of encoder j: bit i is bit N_ES * i + j of all
unfoldable pub part_of : Rate → List Bool → ℕ → List Bool
part_of r bits j = map (λ i. slice_index_or bits (encoders_of r * i + j) false) (range_with_len 0 (length bits / encoders_of r))

-- the coded bits of encoder j at the places that the pattern keeps
unfoldable pub coded_of : FrameView → ℕ → List Bool
coded_of f j = sent_bits (pattern_of f.rate) (part_of f.rate (coder_input f) j)

-- the number of coded bits of each encoder: its share of each symbol
unfoldable pub reach_of : FrameView → ℕ
reach_of f = symbols_of f.rate (length f.octets) * share_of f.rate
