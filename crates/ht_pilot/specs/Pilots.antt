-- The values of the pilots (IEEE Std 802.11-2012, clause 20.3.11.10, with the project's own pattern over the streams).
use Rattle.std.specs.Prelude.{ℕ, ◌+◌, ◌%◌, Bool, ◌==◌, ℤ, neg_ℤ, if◌then◌else◌}
use Rattle.ht_rate.specs.declared.rates.Rate.{Rate}
use Rattle.ht_rate.specs.Rates.{pilots_of}
use Rattle.ht_scramble.specs.Sequence.{polarity_at}

-- whether a pilot has the other sign: symbol and pilot numbers count from 0, and streams from 1
abbrev pub is_negated : Rate → ℕ → ℕ → ℕ → Bool
is_negated rate symbol index stream = (symbol + index + stream) % pilots_of rate == 0

-- the polarity p[n + 3] of symbol n, after the 3 symbols of L-SIG and HT-SIG, negated where the pilot has the other sign
unfoldable pub pilot_of : Rate → ℕ → ℕ → ℕ → ℤ
pilot_of rate symbol index stream =
    let polarity = polarity_at ((symbol + 3) % 127) in
    if is_negated rate symbol index stream then neg_ℤ polarity else polarity
