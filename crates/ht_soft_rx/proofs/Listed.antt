-- The weights of a job one by one are those of its streams.
use Rattle.std.proofs.Common.{◌≡◌, ℕ, zero, suc, ◌+◌, ◌-◌, ◌*◌, ◌/◌, ◌%◌, ◌<◌, ◌≤◌, ℤ, pos, List, length, map, get_or, replicate, Some, arith}
use Rattle.std.proofs.Common.{sym, ap, ◌∙◌}
use Rattle.std.specs.List.{flat_map, range_with_len}
use Rattle.std.proofs.Math.Nat.{div-add-mod', div-lt_iff_lt-mul, mod-lt, mul-le-mul}
use Rattle.std.proofs.lemmas.List.{ext_get_or, get_or_append_left, get_or-append-add, get_or-replicate, length-replicate}
use Rattle.std.proofs.lemmas.List.FromFn.{get_or-map-range_with_len, length-map-range_with_len}
use Rattle.ht_rate.specs.declared.kinds.Modulation.{Modulation}
use Rattle.ht_rate.specs.declared.rates.Rate.{Rate}
use Rattle.ht_rate.proofs.RateFacts.{label_bits_of-range, streams_of-range}
use Rattle.ht_pam.specs.declared.axes.Axes.{Axes}
use Rattle.ht_pam.specs.Grids.{no_axes}
use Rattle.ht_pam.specs.Ladders.{Rungs}
use Rattle.ht_rate.specs.declared.kinds.Modulation.TheVariants.{Bpsk, Qpsk, Qam16, Qam64}
use Rattle.ht_rate.specs.Rates.{label_bits_of, modulation_of, streams_of}
use Rattle.ht_rate.specs.Schemes.{bits_of}
use Rattle.ht_map.specs.Constellation.{axes_of, grid_of}
use Rattle.ht_metric.specs.Jobs.{IsJob, JobView}
use Rattle.ht_capture.specs.declared.items.FrameHead.{FrameHead}
use Rattle.ht_capture.proofs.Grids.{length-grid_of}
use Rattle.ht_results.proofs.Putting.{long_blocks}
use Rattle.ht_soft.specs.Weights.{weight_at}
use Rattle.ht_weigh.specs.Weights.{AreWeights}
use Rattle.ht_soft_rx.specs.Weights.{job_weights, weight_in, weights_of_job}

-- a place in lists of one length, one after another
at_block : {A : Type 0} (f : ℕ → List A) (w a n k e : ℕ) (d : A) → ((i : ℕ) → length (f i) ≡ w) → k < n → e < w
    → get_or (flat_map f (range_with_len a n)) (k * w + e) d ≡ get_or (f (a + k)) e d
at_block f w a zero k e d each lk le = absurd (omega (arith, lk))
at_block f w a (suc n) zero e d each lk le =
    let here : a ≡ a + 0 = omega arith in
    let first : 0 * w + e ≡ e = omega arith in
    let size = each a in
    ap (λ i. get_or (flat_map f (range_with_len a (suc n))) i d) first
    ∙ (get_or_append_left (f a) (flat_map f (range_with_len (a + 1) n)) d e (omega (arith, size, le)) ∙ ap (λ i. get_or (f i) e d) here)
at_block f w a (suc n) (suc k) e d each lk le =
    let size = each a in
    let behind : suc k * w + e ≡ length (f a) + (k * w + e) = omega (arith, size) in
    let next : a + 1 + k ≡ a + suc k = omega arith in
    ap (λ i. get_or (flat_map f (range_with_len a (suc n))) i d) behind
    ∙ (get_or-append-add (f a) (flat_map f (range_with_len (a + 1) n)) (k * w + e) d
    ∙ (at_block f w (a + 1) n k e d each (omega (arith, lk)) le ∙ ap (λ i. get_or (f i) e d) next))

module _ (m : Modulation) (job : JobView) (n bits : ℕ) (some : 1 ≤ bits) where
  abbrev of_stream : ℕ → List ℤ
  of_stream stream = map (weight_in m (Some job) stream) (range_with_len 0 bits)

  abbrev all : List ℤ
  all = flat_map of_stream (range_with_len 1 n)

  wide : (stream : ℕ) → length (of_stream stream) ≡ bits
  wide stream = length-map-range_with_len (weight_in m (Some job) stream) 0 bits

  at_place : (k : ℕ) → k < n * bits → get_or all k (pos 0) ≡ weight_at m job (k / bits + 1) (k % bits)
  at_place k within =
      let stream : ℕ = k / bits in
      let bit : ℕ = k % bits in
      let low : bit < bits = mod-lt k some in
      let there : stream < n = (div-lt_iff_lt-mul some).1 within in
      let next : 1 + stream ≡ stream + 1 = omega arith in
      ap (λ i. get_or all i (pos 0)) (sym (div-add-mod' k bits))
      ∙ (at_block of_stream bits 1 n stream bit (pos 0) wide there low
      ∙ (get_or-map-range_with_len (weight_in m (Some job) (1 + stream)) 0 bits bit bit (pos 0) low (omega arith)
      ∙ ap (λ s. weight_at m job s bit) next))

  pub listed : (ws : List ℤ) → length ws ≡ n * bits
      → ((k : ℕ) → k < length ws → get_or ws k (pos 0) ≡ weight_at m job (k / bits + 1) (k % bits)) → ws ≡ all
  listed ws long each =
      ext_get_or (pos 0) ws all (long ∙ sym (long_blocks of_stream bits 1 n (λ stream low high. wide stream)))
      (λ k within. each k within ∙ sym (at_place k (omega (arith, within, long))))

-- the grid of a rate has all points of its modulation on the first stream
pub first_points : (r : Rate) (grid : List Axes) → grid ≡ grid_of r → 1 ≤ length grid → get_or grid 0 no_axes ≡ axes_of (modulation_of r)
unfolding grid_of
first_points r grid made some =
    let long = length-replicate (streams_of r) (axes_of (modulation_of r)) in
    let count : length grid ≡ length (replicate (streams_of r) (axes_of (modulation_of r))) = ap (λ (g : List Axes). length g) made in
    ap (λ (g : List Axes). get_or g 0 no_axes) made ∙ get_or-replicate (streams_of r) 0 (axes_of (modulation_of r)) no_axes (omega (arith, count, long, some))

pub some_stream : (r : Rate) (grid : List Axes) → grid ≡ grid_of r → 1 ≤ length grid
some_stream r grid made = let few = streams_of-range r in omega (arith, few.0, length-grid_of r grid made)

-- ladders that are those of some points
pub points_are : (i q : Rungs) (found points : Axes) → i ≡ found.i → q ≡ found.q → found ≡ points
    → (let p : Axes = record { i = i; q = q } in p) ≡ points
points_are i q found points is_i is_q same =
    let made : Rungs → Rungs → Axes = λ a b. record { i = a; q = b } in
    ap (λ (a : Rungs). made a q) is_i ∙ (ap (λ (b : Rungs). made found.i b) is_q ∙ same)

-- The weights of a job of this head, found by one search or bit by bit.
module _ (head : FrameHead) (job : JobView) (m : Modulation) (is : m ≡ modulation_of head.rate) (ws : List ℤ) where
  some_bits : 1 ≤ bits_of m
  some_bits = by m
    where
      by : (x : Modulation) → 1 ≤ bits_of x
      by Bpsk = omega arith
      by Qpsk = omega arith
      by Qam16 = omega arith
      by Qam64 = omega arith

  width_is : weights_of_job head ≡ streams_of head.rate * bits_of m
  unfolding label_bits_of
  width_is = ap (λ (x : Modulation). streams_of head.rate * bits_of x) (sym is)

  weights_are : ws ≡ flat_map (of_stream m job (streams_of head.rate) (bits_of m) some_bits) (range_with_len 1 (streams_of head.rate))
      → ws ≡ job_weights head job
  unfolding label_bits_of
  weights_are all_of = all_of ∙ ap (λ (x : Modulation). flat_map (λ stream. map (weight_in x (Some job) stream) (range_with_len 0 (bits_of x)))
      (range_with_len 1 (streams_of head.rate))) is

  pub by_bits : length ws ≡ weights_of_job head
      → ((k : ℕ) → k < weights_of_job head → get_or ws k (pos 0) ≡ weight_at m job (k / bits_of m + 1) (k % bits_of m)) → ws ≡ job_weights head job
  by_bits long each =
      weights_are (listed m job (streams_of head.rate) (bits_of m) some_bits ws (long ∙ width_is) (λ k within. each k (omega (arith, within, long))))

  pub by_search : length job.system ≡ streams_of head.rate → AreWeights m job ws → ws ≡ job_weights head job
  by_search rows are =
      let long : length ws ≡ streams_of head.rate * bits_of m = are.size ∙ ap (λ (n : ℕ). n * bits_of m) rows in
      weights_are (listed m job (streams_of head.rate) (bits_of m) some_bits ws long (λ k within.
      let there : k / bits_of m < streams_of head.rate = (div-lt_iff_lt-mul some_bits).1 (omega (arith, within, long)) in
      let place : (k / bits_of m + 1 - 1) * bits_of m + k % bits_of m ≡ k =
      ap (λ (n : ℕ). n * bits_of m + k % bits_of m) (let e : k / bits_of m + 1 - 1 ≡ k / bits_of m = omega arith in e) ∙ div-add-mod' k (bits_of m) in
      ap (λ (n : ℕ). get_or ws n (pos 0)) (sym place)
      ∙ are.each (k / bits_of m + 1) (k % bits_of m) (omega arith) (omega (arith, there, rows)) (mod-lt k some_bits)))

  pub size_is : length job.system ≡ streams_of head.rate → length ws ≡ weights_of_job head → length ws ≡ length job.system * bits_of m
  size_is rows long = long ∙ (width_is ∙ ap (λ (n : ℕ). n * bits_of m) (sym rows))

-- a job of the grid of a rate has a row for each stream
pub rows_of : (r : Rate) (job : JobView) → IsJob job → job.grid ≡ grid_of r → length job.system ≡ streams_of r
rows_of r job is made = sym is.streams ∙ length-grid_of r job.grid made

-- a job has at most 24 weights
pub few_weights : (head : FrameHead) → weights_of_job head ≤ 24
few_weights head =
    let streams = streams_of-range head.rate in
    let bits = label_bits_of-range head.rate in
    mul-le-mul streams.1 bits.1
