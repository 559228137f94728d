-- Data subcarriers that stand one behind another.
use Rattle.std.specs.Prelude.{◌≡◌, ℕ, ◌+◌, ◌<◌}
use Rattle.ht_rate.specs.declared.kinds.Carrier.{Carrier}
use Rattle.ht_rate.specs.declared.kinds.Carrier.TheVariants.{Data}

-- where this subcarrier carries data, so many subcarriers from it on do, and are numbered one after another
abbrev pub IsDataRun : (ℕ → Carrier) → ℕ → ℕ → Type 0
IsDataRun kind c n = (m k : ℕ) → kind c ≡ Data m → k < n → kind (c + k) ≡ Data (m + k)
