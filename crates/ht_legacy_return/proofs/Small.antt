-- What subcarriers make of the points of a frame fits the 32 bits of a sample, and so it does with noise.
use Rattle.std.proofs.Common.{◌≡◌, ℕ, zero, suc, ◌+◌, ◌*◌, ◌%◌, ◌<◌, ◌≤◌, ◌^◌, ◌==◌, ℤ, pos, neg_ℤ, ◌+ℤ◌, ◌-ℤ◌, ◌*ℤ◌, unsigned_abs}
use Rattle.std.proofs.Common.{w32, FitsSigned, List, [], ◌∷◌, get_or, length, map, All, Bool, true, false, if◌then◌else◌}
use Rattle.std.proofs.Common.{sym, subst, ◌∙◌, arith}
use Rattle.std.specs.List.{AllByRecursion, range_with_len}
use Rattle.std.proofs.lemmas.Int.{fits_signed_from_abs, ints, unsigned_abs-mul}
use Rattle.std.proofs.lemmas.List.Elements.{All-head, All-tail}
use Rattle.std.proofs.lemmas.Nat.{mod_below, mul-le}
use Rattle.ht_rate.specs.declared.kinds.Carrier.{Carrier}
use Rattle.ht_rate.specs.declared.kinds.Carrier.TheVariants.{Data, Pilot}
use Rattle.ht_rate.specs.declared.kinds.Modulation.{Modulation}
use Rattle.ht_rate.specs.declared.kinds.Modulation.TheVariants.{Bpsk, Qpsk, Qam16, Qam64}
use Rattle.ht_scramble.proofs.Signs.{unsigned_abs-polarity_at}
use Rattle.ht_pam.specs.declared.point.Point.{Point}
use Rattle.ht_map.specs.Gray.{Axis, i_axis, level_at, point_of, q_axis}
use Rattle.ht_metric.specs.declared.complex.Complex.{Complex}
use Rattle.ht_metric.specs.declared.sample.Sample.{Sample}
use Rattle.ht_metric.specs.Distance.{IsInRange, received}
use Rattle.ht_capture.specs.Contents.{AreSamples}
use Rattle.ht_capture_laws.proofs.Lists.{all_flat, all_map, all_range}
use Rattle.ht_clause18.specs.declared.rates.LegacyRate.{LegacyRate}
use Rattle.ht_clause18.specs.Carriers.{carriers, carrier_of}
use Rattle.ht_clause18.specs.Coded.{symbol_bits}
use Rattle.ht_clause18.specs.Frames.{LegacyFrameView}
use Rattle.ht_clause18.specs.Interleaver.{interleaved}
use Rattle.ht_clause18.specs.Pilots.{pilot_of}
use Rattle.ht_clause18.specs.Points.{carried, label_at, sent_points, symbol_points}
use Rattle.ht_clause18.specs.Rates.{modulation_of, symbols_of}
use Rattle.ht_sim.specs.Channel.{noise_of, sample_drawn}
use Rattle.ht_sim.specs.Draws.{each}
use Rattle.ht_sim.specs.Words.{next, word}
use Rattle.ht_legacy_sim.specs.Drawing.{exact_from}

-- the levels of an axis are from -7 to 7
abbrev IsLow : ℕ × ℤ → Type 0
IsLow step = unsigned_abs step.1 ≤ 7

one_or_other : (b : Bool) (x y : ℤ) → unsigned_abs x ≤ 7 → unsigned_abs y ≤ 7 → unsigned_abs (if b then x else y) ≤ 7
one_or_other true x y p q = p
one_or_other false x y p q = q

low_level : (axis : Axis) (bits : ℕ) → AllByRecursion IsLow axis → unsigned_abs (level_at axis bits) ≤ 7
unfolding level_at
low_level [] bits low = omega arith
low_level (step ∷ axis) bits low = one_or_other (step.0 == bits) step.1 (level_at axis bits) low.0 (low_level axis bits low.1)

low_i : (m : Modulation) → AllByRecursion IsLow (i_axis m)
low_i Bpsk = (omega arith, (omega arith, tt))
low_i Qpsk = (omega arith, (omega arith, tt))
low_i Qam16 = (omega arith, (omega arith, (omega arith, (omega arith, tt))))
low_i Qam64 = (omega arith, (omega arith, (omega arith, (omega arith, (omega arith, (omega arith, (omega arith, (omega arith, tt))))))))

low_q : (m : Modulation) → AllByRecursion IsLow (q_axis m)
low_q Bpsk = (omega arith, tt)
low_q Qpsk = (omega arith, (omega arith, tt))
low_q Qam16 = (omega arith, (omega arith, (omega arith, (omega arith, tt))))
low_q Qam64 = (omega arith, (omega arith, (omega arith, (omega arith, (omega arith, (omega arith, (omega arith, (omega arith, tt))))))))

point_small : (m : Modulation) (label : ℕ) → IsInRange (point_of m label)
unfolding point_of
point_small m label = record { i = low_level (i_axis m) _ (low_i m); q = low_level (q_axis m) _ (low_q m) }

-- a pilot's value is 1 or -1
abs-neg : (z : ℤ) → unsigned_abs (neg_ℤ z) ≡ unsigned_abs z
abs-neg z = omega (arith, ints)

either_sign : (b : Bool) (z : ℤ) → unsigned_abs z ≡ 1 → unsigned_abs (if b then neg_ℤ z else z) ≡ 1
either_sign true z one = abs-neg z ∙ one
either_sign false z one = one

pub abs-pilot : (symbol k : ℕ) → unsigned_abs (pilot_of symbol k) ≡ 1
unfolding pilot_of
abs-pilot symbol k = either_sign (k == 3) _ (unsigned_abs-polarity_at ((symbol + 1) % 127))

carried_small : (r : LegacyRate) (places : List Bool) (symbol : ℕ) (c : Carrier) → IsInRange (carried r places symbol c)
carried_small r places symbol (Data m) = point_small (modulation_of r) (label_at r places m)
carried_small r places symbol (Pilot k) = let one = abs-pilot symbol k in record { i = omega (arith, one); q = omega arith }

symbol_small : (r : LegacyRate) (bits : List Bool) (symbol : ℕ) → AllByRecursion IsInRange (symbol_points r bits symbol)
unfolding symbol_points
symbol_small r bits symbol =
    all_map IsInRange (λ index. carried r (interleaved r bits) symbol (carrier_of index)) (range_with_len 0 carriers)
    (all_range (λ index. IsInRange (carried r (interleaved r bits) symbol (carrier_of index))) 0 carriers
    (λ index lt. carried_small r (interleaved r bits) symbol (carrier_of index)))

pub sent_small : (f : LegacyFrameView) → AllByRecursion IsInRange (sent_points f)
unfolding sent_points
sent_small f =
    let n : ℕ = symbols_of f.rate (length f.octets) in
    all_flat IsInRange (λ k. symbol_points f.rate (symbol_bits f k) k) (range_with_len 0 n)
    (all_range (λ k. AllByRecursion IsInRange (symbol_points f.rate (symbol_bits f k) k)) 0 n (λ k lt. symbol_small f.rate (symbol_bits f k) k))

-- both parts are at most so large
abbrev pub IsSmall : ℕ → Complex → Type 0
IsSmall n c = (unsigned_abs c.re ≤ n) × (unsigned_abs c.im ≤ n)

product : (d : ℕ) (z : ℤ) → d < 2 ^ 16 → unsigned_abs z ≤ 7 → unsigned_abs (pos d *ℤ z) ≤ 458752
product d z small low =
    let times = mul-le d (unsigned_abs z) 65536 7 (omega (arith, small)) low in
    let is : unsigned_abs (pos d *ℤ z) ≡ d * unsigned_abs z = unsigned_abs-mul (pos d) z in
    omega (arith, times, is)

diagonal_at : (ds : List ℕ) (i : ℕ) → All (λ d. d < 2 ^ 16) ds → get_or ds i 0 < 2 ^ 16
diagonal_at [] i all = omega arith
diagonal_at (d ∷ ds) zero all = All-head (λ d. d < 2 ^ 16) d ds all
diagonal_at (d ∷ ds) (suc i) all = diagonal_at ds i (All-tail (λ d. d < 2 ^ 16) d ds all)

pub exact_small : (ds : List ℕ) (place : ℕ) (points : List Point) → All (λ d. d < 2 ^ 16) ds → AllByRecursion IsInRange points
    → AllByRecursion (IsSmall 458752) (exact_from ds place points)
exact_small ds place [] small low = tt
exact_small ds place (x ∷ xs) small low =
    let d : ℕ = get_or ds (place % carriers) 0 in
    let here = diagonal_at ds (place % carriers) small in
    ((product d x.i here low.0.i, product d x.q here low.0.q), exact_small ds (place + 1) xs small low.1)

-- with noise
noise_small : (noise w : ℕ) → unsigned_abs (noise_of noise w) ≤ noise
noise_small noise w =
    let low = mod_below w (2 * noise + 1) (omega arith) in
    let at_most : (n : ℕ) → n < 2 * noise + 1 → unsigned_abs (pos n -ℤ pos noise) ≤ noise = λ n lt. omega (arith, ints) in
    at_most (w % (2 * noise + 1)) low

sum_fits : (a b : ℤ) (noise : ℕ) → unsigned_abs a ≤ 458752 → unsigned_abs b ≤ noise → noise < 2 ^ 16 → FitsSigned w32 (a +ℤ b)
sum_fits a b noise p q few =
    let low : unsigned_abs (a +ℤ b) ≤ 524288 = omega (arith, ints) in
    fits_signed_from_abs w32 (a +ℤ b) (omega (arith, low))

pub samples_fit : (noise : ℕ) (cs : List Complex) (z : ℕ) → noise < 2 ^ 16 → AllByRecursion (IsSmall 458752) cs
    → AreSamples (each (sample_drawn noise) cs z).value
unfolding sample_drawn
samples_fit noise [] z few small = tt
samples_fit noise (c ∷ cs) z few small = (
  sum_fits c.re (noise_of noise (word z)) noise small.0.0 (noise_small noise (word z)) few,
  sum_fits c.im (noise_of noise (word (next z))) noise small.0.1 (noise_small noise (word (next z))) few,
  samples_fit noise cs (next (next z)) few small.1,
)

-- samples that are just what subcarriers make of a frame's points
only_fits : (ys : List Sample) → AllByRecursion (IsSmall 458752) (map received ys) → AreSamples ys
only_fits [] small = tt
only_fits (y ∷ ys) small =
    let fits : (z : ℤ) → unsigned_abs z ≤ 458752 → FitsSigned w32 z = λ z le. fits_signed_from_abs w32 z (omega (arith, le)) in
    (fits y.re small.0.0, fits y.im small.0.1, only_fits ys small.1)

pub exact_fit : (f : LegacyFrameView) (ds : List ℕ) (ys : List Sample) → All (λ d. d < 2 ^ 16) ds
    → map received ys ≡ exact_from ds 0 (sent_points f) → AreSamples ys
exact_fit f ds ys small is = only_fits ys (subst (AllByRecursion (IsSmall 458752)) (sym is) (exact_small ds 0 (sent_points f) small (sent_small f)))
