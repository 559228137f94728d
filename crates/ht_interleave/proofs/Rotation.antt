-- The rotation and back, by a test of every place.
use Rattle.std.proofs.Common.{◌≡◌, ℕ, ◌+◌, ◌-◌, ◌*◌, ◌/◌, ◌%◌, ◌<◌, ◌≤◌, nat_eq, nat_lt, nat_le, Bool, true, refl}
use Rattle.std.proofs.lemmas.Bool.{eqb-true, ltb-true, leb-true}
use Rattle.ht_rate.specs.declared.parts.Streams.{Streams}
use Rattle.ht_rate.specs.declared.rates.Rate.{Rate}
use Rattle.ht_rate.specs.Rates.{bandwidth_of, modulation_of, label_bits_of, data_carriers_of, stream_bits_of}
use Rattle.ht_rate.proofs.AllRates.{each_bandwidth, each_scheme}
use Rattle.ht_interleave.specs.Steps.{rotation_of, turn_of, third, third_back}
use Rattle.ht_interleave.proofs.Shapes.{each_shape, each_place, each_stream, at_shape, at_place, at_stream}

-- two numbers of each place of the streams 1 to 4, where a test of all says how they stand
module _ (f g : Rate → ℕ → ℕ → ℕ) where
  below : ((n : Streams) → each_place (each_stream (λ rate stream x. nat_lt (f rate stream x) (g rate stream x))) n ≡ true)
      → (rate : Rate) (stream x : ℕ) → 1 ≤ stream → stream ≤ 4 → x < stream_bits_of rate → f rate stream x < g rate stream x
  below tests rate stream x low high lt =
      let test : Rate → ℕ → ℕ → Bool = λ rate stream x. nat_lt (f rate stream x) (g rate stream x) in
      ltb-true (f rate stream x) (g rate stream x) (at_stream test rate stream x low high (at_place (each_stream test) tests rate x lt))

  same : ((n : Streams) → each_place (each_stream (λ rate stream x. nat_eq (f rate stream x) (g rate stream x))) n ≡ true)
      → (rate : Rate) (stream x : ℕ) → 1 ≤ stream → stream ≤ 4 → x < stream_bits_of rate → f rate stream x ≡ g rate stream x
  same tests rate stream x low high lt =
      let test : Rate → ℕ → ℕ → Bool = λ rate stream x. nat_eq (f rate stream x) (g rate stream x) in
      eqb-true (f rate stream x) (g rate stream x) (at_stream test rate stream x low high (at_place (each_stream test) tests rate x lt))

-- the rotation stays among the places
pub third-bound : (rate : Rate) (stream x : ℕ) → 1 ≤ stream → stream ≤ 4 → x < stream_bits_of rate → third rate stream x < stream_bits_of rate
unfolding each_place each_shape each_bandwidth each_scheme bandwidth_of modulation_of label_bits_of data_carriers_of stream_bits_of each_stream
    turn_of rotation_of third
third-bound = below third (λ rate stream x. stream_bits_of rate) (λ n. refl)

pub third_back-bound : (rate : Rate) (stream x : ℕ) → 1 ≤ stream → stream ≤ 4 → x < stream_bits_of rate → third_back rate stream x < stream_bits_of rate
unfolding each_place each_shape each_bandwidth each_scheme bandwidth_of modulation_of label_bits_of data_carriers_of stream_bits_of each_stream
    turn_of rotation_of third_back
third_back-bound = below third_back (λ rate stream x. stream_bits_of rate) (λ n. refl)

-- it is undone, both ways
pub third_back-third : (rate : Rate) (stream x : ℕ) → 1 ≤ stream → stream ≤ 4 → x < stream_bits_of rate → third_back rate stream (third rate stream x) ≡ x
unfolding each_place each_shape each_bandwidth each_scheme bandwidth_of modulation_of label_bits_of data_carriers_of stream_bits_of each_stream
    turn_of rotation_of third third_back
third_back-third = same (λ rate stream x. third_back rate stream (third rate stream x)) (λ rate stream x. x) (λ n. refl)

pub third-third_back : (rate : Rate) (stream x : ℕ) → 1 ≤ stream → stream ≤ 4 → x < stream_bits_of rate → third rate stream (third_back rate stream x) ≡ x
unfolding each_place each_shape each_bandwidth each_scheme bandwidth_of modulation_of label_bits_of data_carriers_of stream_bits_of each_stream
    turn_of rotation_of third third_back
third-third_back = same (λ rate stream x. third rate stream (third_back rate stream x)) (λ rate stream x. x) (λ n. refl)

-- it is by fewer places than there are
pub turn_of-bound : (rate : Rate) (stream : ℕ) → 1 ≤ stream → stream ≤ 4 → turn_of rate stream ≤ stream_bits_of rate
unfolding each_shape each_bandwidth each_scheme bandwidth_of modulation_of label_bits_of data_carriers_of stream_bits_of each_stream turn_of rotation_of
turn_of-bound rate stream low high =
    leb-true (turn_of rate stream) (stream_bits_of rate)
    (at_stream (λ rate stream x. nat_le (turn_of rate stream) (stream_bits_of rate)) rate stream 0 low high
    (at_shape (λ rate. each_stream (λ rate stream x. nat_le (turn_of rate stream) (stream_bits_of rate)) rate 0) (λ n. refl) rate))

-- the formula of the code
pub turn-is : (rate : Rate) (stream earlier rotation bits : ℕ) → earlier ≡ stream - 1 → rotation ≡ rotation_of rate → bits ≡ label_bits_of rate →
    (2 * earlier % 3 + 3 * (earlier / 3)) * rotation * bits ≡ turn_of rate stream
unfolding turn_of
turn-is rate stream earlier rotation bits e f g = cc
