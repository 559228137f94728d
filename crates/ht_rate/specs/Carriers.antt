-- What each subcarrier carries (IEEE Std 802.11-2012, clauses 20.3.11.10 and 20.3.11.11).
use Rattle.std.specs.Prelude.{◌≡◌, ℕ, zero, suc, ◌+◌, ◌-◌, ◌==◌, ◌<◌, nat_lt, nat_le, if◌then◌else◌, position, count_by, fold, slice_index, Option, None, Some}
use Rattle.ht_rate.specs.declared.kinds.Bandwidth.{Bandwidth}
use Rattle.ht_rate.specs.declared.kinds.Carrier.{Carrier}
use Rattle.ht_rate.specs.declared.kinds.Carrier.TheVariants.{Data, Pilot}
use Rattle.ht_rate.specs.declared.rates.Rate.{Rate}
use Rattle.ht_rate.specs.Schemes.{pilot_places}
use Rattle.ht_rate.specs.Rates.{bandwidth_of, data_carriers_of, pilots_of}

-- the pilot subcarriers below an index
abbrev pub pilots_below : Bandwidth → ℕ → ℕ
pilots_below b index = count_by (λ p. nat_lt p index) (pilot_places b)

-- a pilot's number is its place among the pilots, or else a data subcarrier's that of the data subcarriers below it
abbrev pub carrier_among : Option ℕ → ℕ → Carrier
carrier_among (Some k) m = Pilot k
carrier_among None m = Data m

-- what the subcarrier of this index carries, index 0 being the lowest
unfoldable pub carrier_at : Bandwidth → ℕ → Carrier
carrier_at b index = carrier_among (position (λ p. p == index) (pilot_places b)) (index - pilots_below b index)

-- and at the bandwidth of a rate
unfoldable pub carrier_of : Rate → ℕ → Carrier
carrier_of r index = carrier_at (bandwidth_of r) index

-- the index of a data subcarrier: its number, and one more for each pilot on the way
abbrev pub data_index : Bandwidth → ℕ → ℕ
data_index b m = fold (λ index pilot. if nat_le pilot index then index + 1 else index) m (pilot_places b)

-- the index of a subcarrier
unfoldable pub index_of : Rate → Carrier → ℕ
index_of r (Data m) = data_index (bandwidth_of r) m
index_of r (Pilot k) = slice_index (pilot_places (bandwidth_of r)) k

-- the number is one that the rate has
abbrev pub IsAmong : Rate → Carrier → Type 0
IsAmong r (Data m) = m < data_carriers_of r
IsAmong r (Pilot k) = k < pilots_of r

-- a data subcarrier counts as one, a pilot as none
abbrev pub one_for : Carrier → ℕ
one_for (Data m) = 1
one_for (Pilot k) = 0

-- the number of data subcarriers below an index
unfoldable pub data_before : Rate → ℕ → ℕ
data_before r zero = 0
data_before r (suc i) = data_before r i + one_for (carrier_of r i)

-- subcarriers are numbered in ascending order, data and pilots each by themselves
abbrev pub IsInOrder : Rate → ℕ → Carrier → Type 0
IsInOrder r index (Data m) = m ≡ data_before r index
IsInOrder r index (Pilot k) = k + data_before r index ≡ index
