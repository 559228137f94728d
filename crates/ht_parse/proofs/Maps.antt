-- The place maps of the stream parser, each the other's inverse, as other crates cite them.
use Rattle.std.proofs.Common.{◌≡◌, ℕ, ◌<◌, ◌≤◌, ap, ◌∙◌, arith}
use Rattle.ht_rate.specs.declared.rates.Rate.{Rate}
use Rattle.ht_rate.specs.Rates.{encoders_of, streams_of, stream_bits_of}
use Rattle.ht_parse.specs.Streams.{share_of, source_of, stream_place_of}
use Rattle.ht_parse.proofs.Inverse.{from-place, from-bit}
use Rattle.ht_parse.proofs.Whole.{streams-from}

-- a place of a stream comes from a bit that an encoder has, and that bit goes to it
pub source_of-place : (r : Rate) (stream k : ℕ) → 1 ≤ stream → stream ≤ streams_of r → k < stream_bits_of r
    → ((source_of r stream k).0 < encoders_of r) × ((source_of r stream k).1 < share_of r)
    × (stream_place_of r (source_of r stream k).0 (source_of r stream k).1 ≡ (stream, k))
source_of-place r stream k low high lk =
    streams-from (λ s. ((source_of r s k).0 < encoders_of r) × ((source_of r s k).1 < share_of r)
    × (stream_place_of r (source_of r s k).0 (source_of r s k).1 ≡ (s, k))) (streams_of r)
    (λ t lt. let found = from-place r t k lt lk in (found.encoder_below, found.bit_below, found.place)) stream low high

-- an encoder's bit goes to a place that the streams have, and that place comes from it
pub stream_place_of-bit : (r : Rate) (j i : ℕ) → j < encoders_of r → i < share_of r
    → (1 ≤ (stream_place_of r j i).0) × ((stream_place_of r j i).0 ≤ streams_of r) × ((stream_place_of r j i).1 < stream_bits_of r)
    × (source_of r (stream_place_of r j i).0 (stream_place_of r j i).1 ≡ (j, i))
stream_place_of-bit r j i lj li =
    let found = from-bit r j i lj li in
    let below = found.1 in
    let is_stream = found.2 in
    let place = found.3 in
    (omega arith, omega arith, place.place_below, ap (λ (y : ℕ). source_of r y (stream_place_of r j i).1) is_stream ∙ place.source)
