-- A fact of all 64 rates, by one test that computes.
use Rattle.std.proofs.Common.{◌≡◌, ℕ, ◌≤◌, nat_le, Bool, true, ◌&&◌}
use Rattle.std.proofs.lemmas.Bool.{and_parts, leb-true}
use Rattle.ht_rate.specs.declared.kinds.Bandwidth.{Bandwidth}
use Rattle.ht_rate.specs.declared.kinds.Bandwidth.TheVariants.{Mhz20, Mhz40}
use Rattle.ht_rate.specs.declared.parts.Streams.{Streams}
use Rattle.ht_rate.specs.declared.parts.Streams.TheVariants.{One, Two, Three, Four}
use Rattle.ht_rate.specs.declared.parts.Scheme.{Scheme}
use Rattle.ht_rate.specs.declared.parts.Scheme.TheVariants.{BpskHalf, QpskHalf, QpskThreeQuarters, Qam16Half, Qam16ThreeQuarters}
use Rattle.ht_rate.specs.declared.parts.Scheme.TheVariants.{Qam64TwoThirds, Qam64ThreeQuarters, Qam64FiveSixths}
use Rattle.ht_rate.specs.declared.rates.Rate.{Rate}

-- a test of both bandwidths
unfoldable pub each_bandwidth : (Bandwidth → Bool) → Bool
each_bandwidth p = p Mhz20 && p Mhz40

pub at_bandwidth : (p : Bandwidth → Bool) → each_bandwidth p ≡ true → (b : Bandwidth) → p b ≡ true
unfolding each_bandwidth
at_bandwidth p e Mhz20 = (and_parts _ _ e).0
at_bandwidth p e Mhz40 = (and_parts _ _ e).1

-- what holds of each of the four numbers of streams holds of any
pub of_streams : (P : Streams → Type 0) → P One → P Two → P Three → P Four → (n : Streams) → P n
of_streams P a b c d One = a
of_streams P a b c d Two = b
of_streams P a b c d Three = c
of_streams P a b c d Four = d

-- a test of all four numbers of streams
unfoldable pub each_streams : (Streams → Bool) → Bool
each_streams p = (p One && p Two) && (p Three && p Four)

pub at_streams : (p : Streams → Bool) → each_streams p ≡ true → (n : Streams) → p n ≡ true
unfolding each_streams
at_streams p e =
    let halves = and_parts (p One && p Two) (p Three && p Four) e in
    let low = and_parts (p One) (p Two) halves.0 in
    let high = and_parts (p Three) (p Four) halves.1 in
    of_streams (λ n. p n ≡ true) low.0 low.1 high.0 high.1

-- and what holds of each of the eight schemes
pub of_scheme : (P : Scheme → Type 0) → P BpskHalf → P QpskHalf → P QpskThreeQuarters → P Qam16Half
    → P Qam16ThreeQuarters → P Qam64TwoThirds → P Qam64ThreeQuarters → P Qam64FiveSixths → (s : Scheme) → P s
of_scheme P a b c d e f g h BpskHalf = a
of_scheme P a b c d e f g h QpskHalf = b
of_scheme P a b c d e f g h QpskThreeQuarters = c
of_scheme P a b c d e f g h Qam16Half = d
of_scheme P a b c d e f g h Qam16ThreeQuarters = e
of_scheme P a b c d e f g h Qam64TwoThirds = f
of_scheme P a b c d e f g h Qam64ThreeQuarters = g
of_scheme P a b c d e f g h Qam64FiveSixths = h

-- a test of all eight schemes
unfoldable pub each_scheme : (Scheme → Bool) → Bool
each_scheme p =
    ((p BpskHalf && p QpskHalf) && (p QpskThreeQuarters && p Qam16Half))
    && ((p Qam16ThreeQuarters && p Qam64TwoThirds) && (p Qam64ThreeQuarters && p Qam64FiveSixths))

pub at_scheme : (p : Scheme → Bool) → each_scheme p ≡ true → (s : Scheme) → p s ≡ true
unfolding each_scheme
at_scheme p e =
    let low = (p BpskHalf && p QpskHalf) && (p QpskThreeQuarters && p Qam16Half) in
    let high = (p Qam16ThreeQuarters && p Qam64TwoThirds) && (p Qam64ThreeQuarters && p Qam64FiveSixths) in
    let halves = and_parts low high e in
    let lower = and_parts (p BpskHalf && p QpskHalf) (p QpskThreeQuarters && p Qam16Half) halves.0 in
    let upper = and_parts (p Qam16ThreeQuarters && p Qam64TwoThirds) (p Qam64ThreeQuarters && p Qam64FiveSixths) halves.1 in
    let first = and_parts (p BpskHalf) (p QpskHalf) lower.0 in
    let second = and_parts (p QpskThreeQuarters) (p Qam16Half) lower.1 in
    let third = and_parts (p Qam16ThreeQuarters) (p Qam64TwoThirds) upper.0 in
    let fourth = and_parts (p Qam64ThreeQuarters) (p Qam64FiveSixths) upper.1 in
    of_scheme (λ s. p s ≡ true) first.0 first.1 second.0 second.1 third.0 third.1 fourth.0 fourth.1

-- a test of all 64 rates
unfoldable pub each_rate : (Rate → Bool) → Bool
each_rate p = each_bandwidth (λ b. each_streams (λ n. each_scheme (λ s. p (record { bandwidth = b; streams = n; scheme = s }))))

pub at_rate : (p : Rate → Bool) → each_rate p ≡ true → (r : Rate) → p r ≡ true
unfolding each_rate
at_rate p e r =
    at_scheme
    (λ s. p (record { bandwidth = r.bandwidth; streams = r.streams; scheme = s }))
    (at_streams
    (λ n. each_scheme (λ s. p (record { bandwidth = r.bandwidth; streams = n; scheme = s })))
    (at_bandwidth (λ b. each_streams (λ n. each_scheme (λ s. p (record { bandwidth = b; streams = n; scheme = s })))) e r.bandwidth)
    r.streams)
    r.scheme

-- a number is from the lower bound to the upper
unfoldable pub is_within : ℕ → ℕ → ℕ → Bool
is_within low high n = nat_le low n && nat_le n high

pub is_within-true : (low high n : ℕ) → is_within low high n ≡ true → (low ≤ n) × (n ≤ high)
unfolding is_within
is_within-true low high n e = let parts = and_parts _ _ e in (leb-true low n parts.0, leb-true n high parts.1)
