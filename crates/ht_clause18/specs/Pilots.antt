-- The values of the pilots (IEEE Std 802.11-2012, clauses 18.3.5.9 and 18.3.5.10).
use Rattle.std.specs.Prelude.{ℕ, ◌+◌, ◌%◌, ◌==◌, ℤ, neg_ℤ, if◌then◌else◌}
use Rattle.ht_scramble.specs.Sequence.{polarity_at}

-- the polarity p[n + 1] of DATA symbol n, after the SIGNAL symbol with p[0]; the highest pilot, that of subcarrier 21, has
-- the other sign
unfoldable pub pilot_of : ℕ → ℕ → ℤ
pilot_of symbol index =
    let polarity = polarity_at ((symbol + 1) % 127) in
    if index == 3 then neg_ℤ polarity else polarity
