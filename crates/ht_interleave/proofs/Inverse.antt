-- Places and origins are inverse to each other.
use Rattle.std.proofs.Common.{◌≡◌, ℕ, ◌<◌, ◌≤◌, ap, ◌∙◌, arith}
use Rattle.ht_rate.specs.declared.rates.Rate.{Rate}
use Rattle.ht_rate.specs.Rates.{stream_bits_of, streams_of}
use Rattle.ht_rate.proofs.RateFacts.{streams_of-range}
use Rattle.ht_interleave.specs.Steps.{first, second, third, first_back, second_back, third_back}
use Rattle.ht_interleave.specs.Interleaver.{place_of, origin_of}
use Rattle.ht_interleave.proofs.StepFacts.{first-bound, second-bound, first_back-bound, second_back-bound, back-there, there-back}
use Rattle.ht_interleave.proofs.Rotation.{third-bound, third_back-bound, third_back-third, third-third_back}

pub place_of-bound : (rate : Rate) (stream k : ℕ) → 1 ≤ stream → stream ≤ 4 → k < stream_bits_of rate → place_of rate stream k < stream_bits_of rate
unfolding place_of
place_of-bound rate stream k low high lt =
    third-bound rate stream (second rate (first rate k)) low high (second-bound rate (first rate k) (first-bound rate k lt))

pub origin_of-bound : (rate : Rate) (stream r : ℕ) → 1 ≤ stream → stream ≤ 4 → r < stream_bits_of rate → origin_of rate stream r < stream_bits_of rate
unfolding origin_of
origin_of-bound rate stream r low high lt =
    first_back-bound rate (second_back rate (third_back rate stream r))
    (second_back-bound rate (third_back rate stream r) (third_back-bound rate stream r low high lt))

pub origin_of-place_of : (rate : Rate) (stream k : ℕ) → 1 ≤ stream → stream ≤ 4 → k < stream_bits_of rate → origin_of rate stream (place_of rate stream k) ≡ k
unfolding place_of origin_of
origin_of-place_of rate stream k low high lt =
    ap (λ j. first_back rate (second_back rate j))
    (third_back-third rate stream (second rate (first rate k)) low high (second-bound rate (first rate k) (first-bound rate k lt)))
    ∙ back-there rate k lt

pub place_of-origin_of : (rate : Rate) (stream r : ℕ) → 1 ≤ stream → stream ≤ 4 → r < stream_bits_of rate → place_of rate stream (origin_of rate stream r) ≡ r
unfolding place_of origin_of
place_of-origin_of rate stream r low high lt =
    ap (λ j. third rate stream j) (there-back rate (third_back rate stream r) (third_back-bound rate stream r low high lt))
    ∙ third-third_back rate stream r low high lt

-- the same of a place or a bit that was worked out
pub brought_back : (rate : Rate) (stream k placed : ℕ) → placed ≡ place_of rate stream k → 1 ≤ stream → stream ≤ streams_of rate → k < stream_bits_of rate
    → origin_of rate stream placed ≡ k
brought_back rate stream k placed is low high lt =
    ap (origin_of rate stream) is ∙ origin_of-place_of rate stream k low (omega (arith, high, streams_of-range rate)) lt

pub brought_there : (rate : Rate) (stream r found : ℕ) → found ≡ origin_of rate stream r → 1 ≤ stream → stream ≤ streams_of rate → r < stream_bits_of rate
    → place_of rate stream found ≡ r
brought_there rate stream r found is low high lt =
    ap (place_of rate stream) is ∙ place_of-origin_of rate stream r low (omega (arith, high, streams_of-range rate)) lt
