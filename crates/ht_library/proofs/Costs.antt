-- What the codewords of a frame cost at most.
use Rattle.std.proofs.Common.{◌≡◌, ℕ, zero, suc, ◌+◌, ◌*◌, ◌/◌, ◌^◌, ◌<◌, ◌≤◌, ℤ, pos, negsuc, unsigned_abs, List, [], ◌∷◌, length, map, All}
use Rattle.std.proofs.Common.{slice_index_or, min, Bool, true, false, if◌then◌else◌, Option, None, Some, refl, arith}
use Rattle.std.specs.List.{AllByRecursion, range_with_len, sum}
use Rattle.std.proofs.Math.Nat.{div-le_self, mul-le-mul}
use Rattle.std.proofs.lemmas.List.FromFn.{length-map-range_with_len}
use Rattle.std.proofs.lemmas.List.Elements.{All-from_recursion}
use Rattle.std.proofs.lemmas.List.Sums.{sum_by-le}
use Rattle.ht_rate.specs.declared.kinds.Modulation.{Modulation}
use Rattle.ht_rate.specs.declared.rates.Rate.{Rate}
use Rattle.ht_rate.specs.Rates.{data_carriers_of, encoders_of, label_bits_of, modulation_of, pattern_of, steps_of, streams_of}
use Rattle.ht_rate.proofs.RateFacts.{encoders_of-range}
use Rattle.ht_conv.specs.Code.{sent_bits}
use Rattle.ht_conv.specs.Puncturing.{sent_count}
use Rattle.ht_metric.specs.Jobs.{JobView}
use Rattle.ht_viterbi.specs.Inputs.{cost_of, total_cost, weight_cost}
use Rattle.ht_viterbi.proofs.Turns.{distance-low, sent-low}
use Rattle.ht_inverse.specs.Decoding.{decoded_frame, distance_at, input_of}
use Rattle.ht_landing.specs.Landings.{landing_of}
use Rattle.ht_inverse.specs.Received.{is_lost, label_number, received_of, value_at, values_of}
use Rattle.ht_soft.specs.Frames.{soft_cost_at, soft_decoded_frame, soft_input_of, weights_of}
use Rattle.ht_soft.specs.Weights.{cut, weight_at, weight_of}
use Rattle.ht_capture_laws.specs.Items.{FrameJobs, symbols_in}
use Rattle.ht_capture_laws.proofs.Lists.{all_flat, all_map, all_range}
use Rattle.ht_results.specs.Labels.{data_job_at}
use Rattle.ht_capture.specs.declared.items.FrameHead.{FrameHead}
use Rattle.ht_soft_rx.specs.Weights.{carrier_weights, frame_weights, symbol_weights, weight_in, weights_in}

-- the steps of an encoder
steps-few : (r : Rate) (n : ℕ) → n ≤ 65535 → steps_of r n ≤ 524302
unfolding steps_of
steps-few r n few = omega (arith, div-le_self (8 * n + 16) (encoders_of r), few)

-- what is counted for each encoder, together
together : (r : Rate) (each : ℕ → ℕ) (most : ℕ) → ((j : ℕ) → each j ≤ most) → sum (map each (range_with_len 0 (encoders_of r))) ≤ 2 * most
together r each most few =
    let IsFew : ℕ → Type 0 = λ c. c ≤ most in
    let all : All IsFew (map each (range_with_len 0 (encoders_of r))) =
    All-from_recursion IsFew _ (all_map IsFew each (range_with_len 0 (encoders_of r))
    (all_range (λ j. IsFew (each j)) 0 (encoders_of r) (λ j within. few j))) in
    let summed = sum_by-le (λ (c : ℕ). c) most (map each (range_with_len 0 (encoders_of r))) all in
    let count : length (map each (range_with_len 0 (encoders_of r))) ≡ encoders_of r = length-map-range_with_len each 0 (encoders_of r) in
    let two : length (map each (range_with_len 0 (encoders_of r))) ≤ 2 = omega (arith, count, encoders_of-range r) in
    let same : most ≤ most = omega arith in
    let times : length (map each (range_with_len 0 (encoders_of r))) * most ≤ 2 * most = mul-le-mul two same in
    omega (arith, summed, times)

-- at how many places codewords differ
pub code-few : (r : Rate) (n erased : ℕ) (labels : List ℕ) → n ≤ 65535 → (decoded_frame r n erased labels).code < 100000000
unfolding decoded_frame distance_at received_of
code-few r n erased labels few =
    let each : (j : ℕ) → distance_at r n erased labels j ≤ 1048604 =
    λ j. omega (
      arith,
      distance-low (pattern_of r) (received_of r n erased labels j) (input_of r n erased labels j) (steps_of r n)
          (length-map-range_with_len _ 0 (sent_count (pattern_of r) (steps_of r n))),
      steps-few r n few,
    ) in
    omega (arith, together r (distance_at r n erased labels) 1048604 each)

-- a weight of at most this size
abbrev pub IsLight : ℤ → Type 0
IsLight w = unsigned_abs w ≤ 65535

place-few : (w : ℤ) (bit : Bool) → weight_cost w bit ≤ unsigned_abs w
place-few (pos n) false = omega arith
place-few (pos n) true = omega arith
place-few (negsuc n) false = omega arith
place-few (negsuc n) true = omega arith

total-few : (ws : List ℤ) (sent : List Bool) → AllByRecursion IsLight ws → total_cost weight_cost ws sent ≤ 65535 * length ws
total-few [] sent light = omega arith
total-few (w ∷ ws) [] light = omega arith
total-few (w ∷ ws) (bit ∷ sent) light = omega (arith, place-few w bit, light.0, total-few ws sent light.1)

light-at : (ws : List ℤ) (k : ℕ) → AllByRecursion IsLight ws → IsLight (slice_index_or ws k (pos 0))
light-at [] k light = omega arith
light-at (w ∷ ws) zero light = light.0
light-at (w ∷ ws) (suc k) light = light-at ws k light.1

light-if : (lost : Bool) (w : ℤ) → IsLight w → IsLight (if lost then pos 0 else w)
light-if true w light = omega arith
light-if false w light = light

-- the weight of a coded bit
value-light : (r : Rate) (erased : ℕ) (weights : List ℤ) (j q : ℕ) → AllByRecursion IsLight weights → IsLight (value_at (pos 0) r erased weights j q)
unfolding value_at
value-light r erased weights j q light =
    let l = landing_of r j q in
    let at : ℕ = label_number r l.symbol l.carrier l.stream * label_bits_of r + l.bit in
    light-if (is_lost r erased l.carrier) (slice_index_or weights at (pos 0)) (light-at weights at light)

-- what codewords cost at such weights
pub cost-few : (r : Rate) (n erased : ℕ) (weights : List ℤ) → n ≤ 65535 → AllByRecursion IsLight weights
    → (soft_decoded_frame r n erased weights).cost ≤ 2 ^ 66
unfolding soft_decoded_frame soft_cost_at cost_of weights_of values_of
cost-few r n erased weights few light =
    let places : ℕ = sent_count (pattern_of r) (steps_of r n) in
    let least : places ≤ 1048604 = omega (arith, sent-low (pattern_of r) (steps_of r n), steps-few r n few) in
    let each : (j : ℕ) → soft_cost_at r n erased weights j ≤ 70000000000 =
    λ j.
    let count : length (weights_of r n erased weights j) ≡ places = length-map-range_with_len (value_at (pos 0) r erased weights j) 0 places in
    let small : AllByRecursion IsLight (weights_of r n erased weights j) =
    all_map IsLight (value_at (pos 0) r erased weights j) (range_with_len 0 places)
    (all_range (λ q. IsLight (value_at (pos 0) r erased weights j q)) 0 places (λ q within. value-light r erased weights j q light)) in
    omega (arith, total-few (weights_of r n erased weights j) (sent_bits (pattern_of r) (soft_input_of r n erased weights j)) small, count, least) in
    omega (arith, together r (soft_cost_at r n erased weights) 70000000000 each)

cut-light : (w : ℤ) → IsLight (cut w)
cut-light (pos n) = omega arith
cut-light (negsuc n) = omega arith

weight-light : (m : Modulation) (job : Option JobView) (stream e : ℕ) → IsLight (weight_in m job stream e)
unfolding weight_at weight_of
weight-light m None stream e = omega arith
weight-light m (Some job) stream e = cut-light _

job-light : (head : FrameHead) (job : Option JobView) → AllByRecursion IsLight (weights_in head job)
job-light head job =
    all_flat IsLight (λ stream. map (weight_in (modulation_of head.rate) job stream) (range_with_len 0 (label_bits_of head.rate)))
    (range_with_len 1 (streams_of head.rate))
    (all_range (λ stream. AllByRecursion IsLight (map (weight_in (modulation_of head.rate) job stream) (range_with_len 0 (label_bits_of head.rate))))
    1 (streams_of head.rate)
    (λ stream within. all_map IsLight (weight_in (modulation_of head.rate) job stream) (range_with_len 0 (label_bits_of head.rate))
    (all_range (λ e. IsLight (weight_in (modulation_of head.rate) job stream e)) 0 (label_bits_of head.rate)
    (λ e inside. weight-light (modulation_of head.rate) job stream e))))

-- the weights of a frame
pub frame-light : (f : FrameJobs) → AllByRecursion IsLight (frame_weights f)
unfolding frame_weights carrier_weights
frame-light f =
    all_flat IsLight (symbol_weights f) (range_with_len 0 (symbols_in f.head))
    (all_range (λ symbol. AllByRecursion IsLight (symbol_weights f symbol)) 0 (symbols_in f.head)
    (λ symbol within. all_flat IsLight (carrier_weights f symbol) (range_with_len 0 (data_carriers_of f.head.rate))
    (all_range (λ carrier. AllByRecursion IsLight (carrier_weights f symbol carrier)) 0 (data_carriers_of f.head.rate)
    (λ carrier inside. job-light f.head (data_job_at f symbol carrier)))))
