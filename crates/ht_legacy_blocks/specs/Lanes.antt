-- What the lanes of a symbol have.
use Rattle.std.specs.Prelude.{◌≡◌, ℕ}
use Rattle.ht_rate.specs.declared.kinds.Carrier.{Carrier}
use Rattle.ht_rate.specs.declared.kinds.Carrier.TheVariants.{Data}

-- a subcarrier that carries data
abbrev pub IsData : Carrier → Type 0
IsData carrier = (m : ℕ) × (carrier ≡ Data m)
