-- The triangle of a subcarrier and the samples of a symbol as they stand in octets.
use Rattle.std.specs.Prelude.{ℕ, zero, suc, ◌+◌, ◌*◌, List, [], ◌∷◌}
use Rattle.ht_metric.specs.declared.tap.Tap.{Tap}
use Rattle.ht_metric.specs.declared.sample.Sample.{Sample}
use Rattle.ht_metric.specs.Rows.{Leg}
use Rattle.ht_capture.specs.Numbers.{unsigned_at, tap_at, sample_at}

-- a number of entries, one after another
abbrev pub taps_at : ℕ → List ℕ → ℕ → List Tap
taps_at zero octets at = []
taps_at (suc n) octets at = tap_at octets at ∷ taps_at n octets (at + 4)

-- the rows of a number of streams: each its diagonal and then the entries to its right
abbrev pub legs_at : ℕ → List ℕ → ℕ → List Leg
legs_at zero octets at = []
legs_at (suc n) octets at =
    record { diagonal = unsigned_at octets at; right = taps_at n octets (at + 2) } ∷ legs_at n octets (at + 2 + 4 * n)

-- the triangle of a number of streams
unfoldable pub triangle_of : ℕ → List ℕ → List Leg
triangle_of streams octets = legs_at streams octets 0

-- its octets: 2, 8, 18 or 32 for one to four streams
abbrev pub triangle_octets : ℕ → ℕ
triangle_octets streams = 2 * (streams * streams)

-- a number of samples, one after another
abbrev pub samples_at : ℕ → List ℕ → ℕ → List Sample
samples_at zero octets at = []
samples_at (suc n) octets at = sample_at octets at ∷ samples_at n octets (at + 8)
