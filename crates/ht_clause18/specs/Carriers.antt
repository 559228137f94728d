-- The subcarriers of a symbol (IEEE Std 802.11-2012, clauses 18.3.5.9 and 18.3.5.10): -26 to -1 and 1 to 26, of which -21,
-- -7, 7 and 21 are pilots.
use Rattle.std.specs.Prelude.{◌≡◌, ℕ, ◌-◌, ◌==◌, ◌<◌, nat_lt, nat_le, if◌then◌else◌, position, count_by, List, [], ◌∷◌, slice_index_or, ℤ, pos, ◌-ℤ◌}
use Rattle.ht_rate.specs.declared.kinds.Carrier.{Carrier}
use Rattle.ht_rate.specs.declared.kinds.Carrier.TheVariants.{Data, Pilot}
use Rattle.ht_rate.specs.Carriers.{carrier_among}

-- the number of subcarriers
abbrev pub carriers : ℕ
carriers = 52

-- the indexes of the pilots, counted from 0 at the lowest subcarrier
abbrev pub pilot_places : List ℕ
pilot_places = 5 ∷ 19 ∷ 32 ∷ 46 ∷ []

-- what the subcarrier of an index carries: a pilot's number is its place among the pilots, a data subcarrier's that among
-- the data subcarriers
unfoldable pub carrier_of : ℕ → Carrier
carrier_of index = carrier_among (position (λ p. p == index) pilot_places) (index - count_by (λ p. nat_lt p index) pilot_places)

-- one of the 48 data subcarriers or of the 4 pilots
abbrev pub IsAmong : Carrier → Type 0
IsAmong (Data m) = m < 48
IsAmong (Pilot k) = k < 4

-- the subcarrier of an index: none is at 0
abbrev pub frequency_of : ℕ → ℤ
frequency_of index = if nat_lt index 26 then pos index -ℤ pos 26 else pos (index - 25)

-- M(k), the subcarrier of data subcarrier k (clause 18.3.5.10)
abbrev pub data_frequency : ℕ → ℤ
data_frequency k =
    pos k -ℤ pos (
    if nat_le k 4 then 26
    else if nat_le k 17 then 25
    else if nat_le k 23 then 24
    else if nat_le k 29 then 23
    else if nat_le k 42 then 22
    else 21
    )

-- the subcarrier of a pilot, in order
abbrev pub pilot_frequency : ℕ → ℤ
pilot_frequency k = slice_index_or ((pos 0 -ℤ pos 21) ∷ (pos 0 -ℤ pos 7) ∷ pos 7 ∷ pos 21 ∷ []) k (pos 0)

-- data and pilots stand where the standard has them
abbrev pub IsAtFrequency : ℤ → Carrier → Type 0
IsAtFrequency f (Data k) = f ≡ data_frequency k
IsAtFrequency f (Pilot k) = f ≡ pilot_frequency k
