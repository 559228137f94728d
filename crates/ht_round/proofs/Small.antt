-- What a triangle makes of a vector fits the 32 bits of a sample.
use Rattle.std.proofs.Common.{◌≡◌, ℕ, zero, suc, ◌+◌, ◌*◌, ◌<◌, ◌≤◌, ◌^◌, ℤ, pos, ◌+ℤ◌, ◌-ℤ◌, ◌*ℤ◌, unsigned_abs, w16, w32, FitsSigned}
use Rattle.std.proofs.Common.{List, [], ◌∷◌, length, drop, map, All, sym, ap, subst, ◌∙◌, arith}
use Rattle.std.specs.List.{AllByRecursion}
use Rattle.std.proofs.lemmas.Int.{fits_signed_from_abs, ints, unsigned_abs-mul}
use Rattle.std.proofs.lemmas.List.Elements.{All-drop, All-head, All-tail}
use Rattle.std.proofs.lemmas.Nat.{mul-le}
use Rattle.ht_rate.specs.declared.rates.Rate.{Rate}
use Rattle.ht_rate.specs.Rates.{carriers_of, streams_of, symbols_of}
use Rattle.ht_rate.proofs.RateFacts.{streams_of-range}
use Rattle.ht_pam.specs.declared.point.Point.{Point}
use Rattle.ht_metric.specs.declared.complex.Complex.{Complex}
use Rattle.ht_metric.specs.declared.sample.Sample.{Sample}
use Rattle.ht_metric.specs.declared.tap.Tap.{Tap}
use Rattle.ht_metric.specs.Distance.{IsInRange, combined, plus, received, scaled, times}
use Rattle.ht_metric.specs.Rows.{Leg}
use Rattle.ht_capture.specs.Contents.{AreLegs, AreSamples, AreTaps, AreTriangles}
use Rattle.ht_capture_laws.proofs.Lists.{all_append}
use Rattle.ht_tx.specs.Symbols.{IsSymbols}
use Rattle.ht_sim.specs.Channel.{mixed, row_mixed}
use Rattle.ht_round.proofs.Mixed.{symbol_from, symbols_from}
use Rattle.ht_round.proofs.Points.{in_range, vector_at}

-- both parts are at most so large
abbrev pub Small : ℕ → Complex → Type 0
Small n c = (unsigned_abs c.re ≤ n) × (unsigned_abs c.im ≤ n)

abs-16 : (a : ℤ) → FitsSigned w16 a → unsigned_abs a ≤ 32768
abs-16 a fits = omega (arith, ints)

pub product : (a b : ℤ) (m n : ℕ) → unsigned_abs a ≤ m → unsigned_abs b ≤ n → unsigned_abs (a *ℤ b) ≤ m * n
product a b m n p q = let times = mul-le (unsigned_abs a) (unsigned_abs b) m n p q in let e = unsigned_abs-mul a b in omega (arith, times, e)

sum_small : (a b : ℤ) (m n : ℕ) → unsigned_abs a ≤ m → unsigned_abs b ≤ n → unsigned_abs (a +ℤ b) ≤ m + n
sum_small a b m n p q = omega (arith, ints)

pub difference_small : (a b : ℤ) (m n : ℕ) → unsigned_abs a ≤ m → unsigned_abs b ≤ n → unsigned_abs (a -ℤ b) ≤ m + n
difference_small a b m n p q = omega (arith, ints)

times_small : (r : Tap) (x : Point) → FitsSigned w16 r.re → FitsSigned w16 r.im → IsInRange x → Small 458752 (times r x)
times_small r x re im in_it =
    let a = abs-16 r.re re in
    let b = abs-16 r.im im in (
      difference_small (r.re *ℤ x.i) (r.im *ℤ x.q) 229376 229376 (product r.re x.i 32768 7 a in_it.i) (product r.im x.q 32768 7 b in_it.q),
      sum_small (r.re *ℤ x.q) (r.im *ℤ x.i) 229376 229376 (product r.re x.q 32768 7 a in_it.q) (product r.im x.i 32768 7 b in_it.i),
    )

plus_small : (a b : Complex) (m n : ℕ) → Small m a → Small n b → Small (m + n) (plus a b)
plus_small a b m n p q = (sum_small a.re b.re m n p.0 q.0, sum_small a.im b.im m n p.1 q.1)

at_most : (c : Complex) (m n : ℕ) → Small m c → m ≤ n → Small n c
at_most c m n s le = (let p = s.0 in omega (arith, p, le), let q = s.1 in omega (arith, q, le))

none_small : (n : ℕ) → Small n (record { re = pos 0; im = pos 0 })
none_small n = (omega arith, omega arith)

pub combined_small : (taps : List Tap) (xs : List Point) → AreTaps taps → All IsInRange xs → Small (458752 * length taps) (combined taps xs)
combined_small [] xs typed within = none_small (458752 * length {A = Tap} [])
combined_small (r ∷ taps) [] typed within = none_small (458752 * length (r ∷ taps))
combined_small (r ∷ taps) (x ∷ xs) typed within =
    let here = times_small r x typed.0 typed.1 (All-head IsInRange x xs within) in
    let rest = combined_small taps xs typed.2 (All-tail IsInRange x xs within) in
    let more : 458752 + 458752 * length taps ≤ 458752 * suc (length taps) = omega arith in
    at_most (combined (r ∷ taps) (x ∷ xs)) (458752 + 458752 * length taps) (458752 * suc (length taps))
    (plus_small (times r x) (combined taps xs) 458752 (458752 * length taps) here rest) more

scaled_small : (d : ℕ) (x : Point) → d < 2 ^ 16 → IsInRange x → Small 458752 (scaled d x)
scaled_small d x small in_it =
    let low : unsigned_abs (pos d) ≤ 65536 = omega (arith, small) in
    (product (pos d) x.i 65536 7 low in_it.i, product (pos d) x.q 65536 7 low in_it.q)

row_small : (leg : Leg) (xs : List Point) → leg.diagonal < 2 ^ 16 → AreTaps leg.right → length leg.right ≤ 3 → All IsInRange xs
    → Small 1835008 (row_mixed leg xs)
row_small leg [] small typed few within = none_small 1835008
row_small leg (x ∷ xs) small typed few within =
    let own = scaled_small leg.diagonal x small (All-head IsInRange x xs within) in
    let others = combined_small leg.right xs typed (All-tail IsInRange x xs within) in
    let most : 458752 + 458752 * length leg.right ≤ 1835008 = omega (arith, few) in
    at_most (row_mixed leg (x ∷ xs)) (458752 + 458752 * length leg.right) 1835008
    (plus_small (scaled leg.diagonal x) (combined leg.right xs) 458752 (458752 * length leg.right) own others) most

mixed_small : (t : List Leg) (xs : List Point) → AreLegs t → length t ≤ 4 → All IsInRange xs → AllByRecursion (Small 1835008) (mixed t xs)
mixed_small [] xs typed few within = tt
mixed_small (leg ∷ legs) xs typed few within =
    let entries = typed.1 in (
      row_small leg xs typed.0 typed.2 (omega (arith, entries, few)) within,
      mixed_small legs (drop 1 xs) typed.3 (omega (arith, few)) (All-drop IsInRange 1 xs within),
    )

-- of symbols
symbol_small : (r : Rate) (octets : ℕ) (points : List Point) (symbol carrier : ℕ) (ts : List (List Leg)) → IsSymbols r octets points
    → symbol < symbols_of r octets → carrier + length ts ≤ carriers_of r → AreTriangles (streams_of r) ts
    → AllByRecursion (Small 1835008) (symbol_from (streams_of r) (symbol * carriers_of r + carrier) ts points)
symbol_small r octets points symbol carrier [] are ls lc typed = tt
symbol_small r octets points symbol carrier (t ∷ ts) are ls lc typed =
    let rows = typed.0 in
    let few : length t ≤ 4 = omega (arith, rows, (streams_of-range r).1) in
    let next : symbol * carriers_of r + (carrier + 1) ≡ symbol * carriers_of r + carrier + 1 = omega arith in
    let below : carrier < carriers_of r = omega (arith, lc) in
    all_append (Small 1835008) (mixed t (vector_at r points symbol carrier)) (symbol_from (streams_of r) (symbol * carriers_of r + carrier + 1) ts points)
    (mixed_small t (vector_at r points symbol carrier) typed.1 few (in_range r octets points symbol carrier are ls below))
    (subst (λ (k : ℕ). AllByRecursion (Small 1835008) (symbol_from (streams_of r) k ts points)) next
    (symbol_small r octets points symbol (carrier + 1) ts are ls (omega (arith, lc)) typed.2))

symbols_small : (n : ℕ) (r : Rate) (octets : ℕ) (points : List Point) (symbol : ℕ) (ts : List (List Leg)) → IsSymbols r octets points
    → symbol + n ≤ symbols_of r octets → length ts ≡ carriers_of r → AreTriangles (streams_of r) ts
    → AllByRecursion (Small 1835008) (symbols_from n (streams_of r) symbol ts points)
symbols_small zero r octets points symbol ts are ls count typed = tt
symbols_small (suc n) r octets points symbol ts are ls count typed =
    let place : symbol * carriers_of r + 0 ≡ symbol * length ts = omega arith ∙ ap (λ (k : ℕ). symbol * k) (sym count) in
    all_append (Small 1835008) (symbol_from (streams_of r) (symbol * length ts) ts points) (symbols_from n (streams_of r) (symbol + 1) ts points)
    (subst (λ (k : ℕ). AllByRecursion (Small 1835008) (symbol_from (streams_of r) k ts points)) place
    (symbol_small r octets points symbol 0 ts are (omega (arith, ls)) (omega (arith, count)) typed))
    (symbols_small n r octets points (symbol + 1) ts are (omega (arith, ls)) count typed)

-- so samples that are just this fit
small_fits : (z : ℤ) → unsigned_abs z ≤ 1835008 → FitsSigned w32 z
small_fits z le = fits_signed_from_abs w32 z (omega (arith, le))

samples_fit : (ys : List Sample) → AllByRecursion (Small 1835008) (map received ys) → AreSamples ys
samples_fit [] small = tt
samples_fit (y ∷ ys) small = (small_fits y.re small.0.0, small_fits y.im small.0.1, samples_fit ys small.1)

pub exact_fit : (r : Rate) (octets : ℕ) (points : List Point) (ts : List (List Leg)) (ys : List Sample) → IsSymbols r octets points
    → length ts ≡ carriers_of r → AreTriangles (streams_of r) ts
    → map received ys ≡ symbols_from (symbols_of r octets) (streams_of r) 0 ts points → AreSamples ys
exact_fit r octets points ts ys are count typed is =
    samples_fit ys (subst (AllByRecursion (Small 1835008)) (sym is) (symbols_small (symbols_of r octets) r octets points 0 ts are (omega arith) count typed))
