-- The weights of one sample more, behind those of the samples before.
use Rattle.std.proofs.Common.{◌≡◌, inl, inr, ℕ, ◌+◌, ◌-◌, ◌*◌, ◌/◌, ◌%◌, ◌<◌, ◌≤◌, ℤ, pos, List, ◌++◌, length, take, drop, get_or, slice_index_or}
use Rattle.std.proofs.Common.{sym, ap, subst, ◌∙◌, arith, length-append}
use Rattle.std.proofs.Math.Nat.{div-add-mod', div-lt_iff_lt-mul, mod-lt, mul-le-mul_right}
use Rattle.std.proofs.lemmas.Bool.{cases_lt}
use Rattle.std.proofs.lemmas.Nat.{div-mul-add, mod-mul-add}
use Rattle.std.proofs.lemmas.List.{get_or-append-add, get_or_append_left, get_or-take, length-drop, length-take-le}
use Rattle.ht_rate.specs.declared.kinds.Modulation.{Modulation}
use Rattle.ht_rate.specs.declared.rates.Rate.{Rate}
use Rattle.ht_rate.specs.Rates.{label_bits_of, modulation_of, streams_of}
use Rattle.ht_rate.specs.Schemes.{bits_of}
use Rattle.ht_rate.proofs.RateFacts.{label_bits_of-range}
use Rattle.ht_metric.specs.Jobs.{JobView}
use Rattle.ht_soft.specs.Weights.{weight_at}
use Rattle.ht_weigh.specs.Weights.{AreWeights as AreOfJob}
use Rattle.ht_library.specs.declared.crossing.MizgaureChannel.{MizgaureChannel}
use Rattle.ht_library.specs.declared.crossing.MizgaureReceived.{MizgaureReceived}
use Rattle.ht_library.specs.Detected.{job_at}
use Rattle.ht_library.specs.Weighed.{AreWeights, bits_each}

-- a weight among those of its job
among : (r : Rate) (job : JobView) (weights : List ℤ) (i : ℕ) → AreOfJob (modulation_of r) job weights → length job.system ≡ streams_of r
    → i < bits_each r → slice_index_or weights i (pos 0) ≡ weight_at (modulation_of r) job (i / label_bits_of r + 1) (i % label_bits_of r)
unfolding label_bits_of
among r job weights i are rows within =
    let bits : ℕ = label_bits_of r in
    let some : 1 ≤ bits = (label_bits_of-range r).0 in
    let stream : ℕ = i / bits in
    let there : stream < streams_of r = (div-lt_iff_lt-mul some).1 within in
    let low : i % bits < bits = mod-lt i some in
    let back : stream + 1 - 1 ≡ stream = omega arith in
    let place : (stream + 1 - 1) * bits + i % bits ≡ i = ap (λ (n : ℕ). n * bits + i % bits) back ∙ div-add-mod' i bits in
    sym (ap (λ (n : ℕ). slice_index_or weights n (pos 0)) place)
    ∙ are.each (stream + 1) (i % bits) (omega arith) (omega (arith, there, rows)) low

-- and among those of all
more-weights : (r : Rate) (channels : List MizgaureChannel) (received : List MizgaureReceived) (old put behind : List ℤ) (k : ℕ)
    → AreWeights (k * bits_each r) r channels received old → AreOfJob (modulation_of r) (job_at r channels received k) put
    → length (job_at r channels received k).system ≡ streams_of r → length put ≡ bits_each r → k * bits_each r ≤ length old
    → AreWeights ((k + 1) * bits_each r) r channels received (take (k * bits_each r) old ++ (put ++ behind))
more-weights r channels received old put behind k were are rows size room j within =
    let w : ℕ = bits_each r in
    let front : List ℤ = take (k * w) old in
    let long : length front ≡ k * w = length-take-le (k * w) old room in
    elim (cases_lt j (k * w)) [
      | inl before ↦
          get_or_append_left front (put ++ behind) (pos 0) j (omega (arith, long, before)) ∙ (get_or-take (k * w) old j (pos 0) before ∙ were j before)
      | inr after ↦
          let i : ℕ = j - k * w in
          let next : (k + 1) * w ≡ k * w + w = omega arith in
          let low : i < w = omega (arith, within, after, next) in
          let place : j ≡ k * w + i = omega (arith, after) in
          let shifted : j ≡ length front + i = omega (arith, long, place) in
          let here : get_or (front ++ (put ++ behind)) j (pos 0) ≡ get_or put i (pos 0) =
          ap (λ (n : ℕ). get_or (front ++ (put ++ behind)) n (pos 0)) shifted
          ∙ (get_or-append-add front (put ++ behind) i (pos 0) ∙ get_or_append_left put behind (pos 0) i (omega (arith, low, size))) in
          let job : j / w ≡ k = ap (λ (n : ℕ). n / w) place ∙ div-mul-add k w i low in
          let bit : j % w ≡ i = ap (λ (n : ℕ). n % w) place ∙ mod-mul-add k w i low in
          subst (λ (n : ℕ). get_or (front ++ (put ++ behind)) j (pos 0)
          ≡ weight_at (modulation_of r) (job_at r channels received n) (j % w / label_bits_of r + 1) (j % w % label_bits_of r)) (sym job)
          (subst (λ (n : ℕ). get_or (front ++ (put ++ behind)) j (pos 0)
          ≡ weight_at (modulation_of r) (job_at r channels received k) (n / label_bits_of r + 1) (n % label_bits_of r)) (sym bit)
          (here ∙ among r (job_at r channels received k) put i are rows low))
    ]

-- the places of a sample's weights
module _ (r : Rate) (s b e : ℕ) (streams : s ≡ streams_of r) (bits : b ≡ label_bits_of r) (each : e ≡ s * b) where
  each-is : e ≡ bits_each r
  each-is = each ∙ (ap (λ (n : ℕ). n * b) streams ∙ ap (λ (n : ℕ). streams_of r * n) bits)

  pub within-all : (k n size : ℕ) → k < n → size ≡ n * bits_each r → k * e + e ≤ size
  within-all k n size below all =
      let next : (k + 1) * bits_each r ≤ n * bits_each r = mul-le-mul_right (bits_each r) (omega (arith, below)) in
      let split : (k + 1) * bits_each r ≡ k * bits_each r + bits_each r = omega arith in
      let here : k * e ≡ k * bits_each r = ap (λ (n : ℕ). k * n) each-is in
      omega (arith, next, split, here, each-is, all)

  pub size-is : (m : Modulation) (job : JobView) (a : ℕ) (ws : List ℤ) → m ≡ modulation_of r → length job.system ≡ streams_of r → a + e ≤ length ws
      → length (take (a + e - a) (drop a ws)) ≡ length job.system * bits_of m
  unfolding label_bits_of
  size-is m job a ws same rows room =
      let rest : length (drop a ws) ≡ length ws - a = length-drop a ws in
      let few : a + e - a ≤ length (drop a ws) = omega (arith, rest, room) in
      let just : a + e - a ≡ e = omega arith in
      length-take-le (a + e - a) (drop a ws) few
      ∙ (just ∙ (each-is
      ∙ (ap (λ (n : ℕ). n * label_bits_of r) (sym rows) ∙ ap (λ (k : Modulation). length job.system * bits_of k) (sym same))))

  pub put-length : (a : ℕ) (ws put behind : List ℤ) → length put ≡ bits_each r → a + e ≤ length ws → behind ≡ drop (a + e - a) (drop a ws)
      → length (take a ws ++ (put ++ behind)) ≡ length ws
  put-length a ws put behind size room is =
      let kept : length behind ≡ length (drop (a + e - a) (drop a ws)) = ap (λ (xs : List ℤ). length xs) is in
      omega (
        arith,
        length-append (take a ws) (put ++ behind),
        length-append put behind,
        length-take-le a ws (omega (arith, room)),
        kept,
        length-drop (a + e - a) (drop a ws),
        length-drop a ws,
        size,
        each-is,
        room,
      )

  pub put-weights : (channels : List MizgaureChannel) (received : List MizgaureReceived) (ws put behind : List ℤ) (k : ℕ) (m : Modulation) (job : JobView)
      → m ≡ modulation_of r → job ≡ job_at r channels received k → length job.system ≡ streams_of r
      → AreWeights (k * bits_each r) r channels received ws → AreOfJob m job put → k * e + e ≤ length ws
      → AreWeights ((k + 1) * bits_each r) r channels received (take (k * e) ws ++ (put ++ behind))
  unfolding label_bits_of
  put-weights channels received ws put behind k m job same is rows were are room =
      let of_rate : AreOfJob (modulation_of r) job put = subst (λ (n : Modulation). AreOfJob n job put) same are in
      let of_sample : AreOfJob (modulation_of r) (job_at r channels received k) put = subst (λ (j : JobView). AreOfJob (modulation_of r) j put) is of_rate in
      let rows_there : length (job_at r channels received k).system ≡ streams_of r = subst (λ (j : JobView). length j.system ≡ streams_of r) is rows in
      let size : length put ≡ bits_each r = of_rate.size ∙ ap (λ (n : ℕ). n * label_bits_of r) rows in
      let place : k * e ≡ k * bits_each r = ap (λ (n : ℕ). k * n) each-is in
      subst (λ (a : ℕ). AreWeights ((k + 1) * bits_each r) r channels received (take a ws ++ (put ++ behind))) (sym place)
      (more-weights r channels received ws put behind k were of_sample rows_there size (omega (arith, room, place)))

  pub put-size : (m : Modulation) (job : JobView) (put : List ℤ) → m ≡ modulation_of r → length job.system ≡ streams_of r → AreOfJob m job put
      → length put ≡ bits_each r
  unfolding label_bits_of
  put-size m job put same rows are =
      are.size ∙ (ap (λ (n : ℕ). n * bits_of m) rows ∙ ap (λ (k : Modulation). streams_of r * bits_of k) same)
