-- A fact of each rate that does not depend on its number of streams, by one test that computes.
use Rattle.std.proofs.Common.{◌≡◌, ℕ, zero, suc, ◌<◌, ◌≤◌, Bool, true, ◌&&◌, arith}
use Rattle.std.proofs.lemmas.Bool.{agree_below, agree_below_at, and_parts}
use Rattle.ht_rate.specs.declared.parts.Streams.{Streams}
use Rattle.ht_rate.specs.declared.rates.Rate.{Rate}
use Rattle.ht_rate.specs.Rates.{stream_bits_of}
use Rattle.ht_rate.proofs.AllRates.{each_bandwidth, at_bandwidth, each_scheme, at_scheme}

-- a test at each bandwidth and scheme, whatever the number of streams
unfoldable pub each_shape : Streams → (Rate → Bool) → Bool
each_shape n p = each_bandwidth (λ b. each_scheme (λ s. p (record { bandwidth = b; streams = n; scheme = s })))

pub at_shape : (p : Rate → Bool) → ((n : Streams) → each_shape n p ≡ true) → (rate : Rate) → p rate ≡ true
unfolding each_shape
at_shape p test rate =
    at_scheme
    (λ s. p (record { bandwidth = rate.bandwidth; streams = rate.streams; scheme = s }))
    (at_bandwidth
    (λ b. each_scheme (λ s. p (record { bandwidth = b; streams = rate.streams; scheme = s })))
    (test rate.streams)
    rate.bandwidth)
    rate.scheme

-- a test at each of these and at each place
unfoldable pub each_place : (Rate → ℕ → Bool) → Streams → Bool
each_place p n = each_shape n (λ rate. agree_below (p rate) (λ _. true) (stream_bits_of rate))

pub at_place : (p : Rate → ℕ → Bool) → ((n : Streams) → each_place p n ≡ true) → (rate : Rate) (x : ℕ) → x < stream_bits_of rate → p rate x ≡ true
unfolding each_place
at_place p test rate x lt =
    agree_below_at (p rate) (λ _. true) (stream_bits_of rate) x
    (at_shape (λ rate. agree_below (p rate) (λ _. true) (stream_bits_of rate)) test rate) lt

-- and for each stream
unfoldable pub each_stream : (Rate → ℕ → ℕ → Bool) → Rate → ℕ → Bool
each_stream p rate x = (p rate 1 x && p rate 2 x) && (p rate 3 x && p rate 4 x)

halves : (p : Rate → ℕ → ℕ → Bool) (rate : Rate) (x : ℕ) → each_stream p rate x ≡ true
    → ((p rate 1 x && p rate 2 x) ≡ true) × ((p rate 3 x && p rate 4 x) ≡ true)
unfolding each_stream
halves p rate x t = and_parts (p rate 1 x && p rate 2 x) (p rate 3 x && p rate 4 x) t

pub at_stream : (p : Rate → ℕ → ℕ → Bool) (rate : Rate) (stream x : ℕ) → 1 ≤ stream → stream ≤ 4 → each_stream p rate x ≡ true → p rate stream x ≡ true
at_stream p rate zero x low high t = absurd (omega arith)
at_stream p rate (suc zero) x low high t = (and_parts _ _ (halves p rate x t).0).0
at_stream p rate (suc (suc zero)) x low high t = (and_parts _ _ (halves p rate x t).0).1
at_stream p rate (suc (suc (suc zero))) x low high t = (and_parts _ _ (halves p rate x t).1).0
at_stream p rate (suc (suc (suc (suc zero)))) x low high t = (and_parts _ _ (halves p rate x t).1).1
at_stream p rate (suc (suc (suc (suc (suc n))))) x low high t = absurd (omega arith)
