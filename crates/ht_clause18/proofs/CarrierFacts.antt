-- What the subcarriers carry, by a test of each.
use Rattle.std.proofs.Common.{◌≡◌, ℕ, ◌<◌, Bool, true, nat_lt, refl}
use Rattle.std.specs.Ordering.{int_eq}
use Rattle.std.specs.Prelude.{ℤ}
use Rattle.std.proofs.lemmas.Bool.{agree_below, agree_below_at, ltb-true}
use Rattle.std.proofs.lemmas.Bool.Decides.{Decides-int_eq}
use Rattle.ht_rate.specs.declared.kinds.Carrier.{Carrier}
use Rattle.ht_rate.specs.declared.kinds.Carrier.TheVariants.{Data, Pilot}
use Rattle.ht_clause18.specs.Carriers.{carriers, carrier_of, frequency_of, data_frequency, pilot_frequency, IsAmong, IsAtFrequency}

is_among : Carrier → Bool
is_among (Data m) = nat_lt m 48
is_among (Pilot k) = nat_lt k 4

among-tests : agree_below (λ i. is_among (carrier_of i)) (λ _. true) 52 ≡ true
unfolding is_among carrier_of
among-tests = refl

among-tested : (c : Carrier) → is_among c ≡ true → IsAmong c
unfolding is_among
among-tested (Data m) e = ltb-true m 48 e
among-tested (Pilot k) e = ltb-true k 4 e

pub carrier_of-among : (index : ℕ) → index < carriers → IsAmong (carrier_of index)
carrier_of-among index lt =
    among-tested (carrier_of index) (agree_below_at (λ i. is_among (carrier_of i)) (λ _. true) 52 index among-tests lt)

-- where they stand
is_at : ℤ → Carrier → Bool
is_at f (Data k) = int_eq f (data_frequency k)
is_at f (Pilot k) = int_eq f (pilot_frequency k)

at-tests : agree_below (λ i. is_at (frequency_of i) (carrier_of i)) (λ _. true) 52 ≡ true
unfolding is_at carrier_of
at-tests = refl

at-tested : (f : ℤ) (c : Carrier) → is_at f c ≡ true → IsAtFrequency f c
unfolding is_at
at-tested f (Data k) e = (Decides-int_eq f (data_frequency k)).0 e
at-tested f (Pilot k) e = (Decides-int_eq f (pilot_frequency k)).0 e

pub carrier_of-frequency : (index : ℕ) → index < carriers → IsAtFrequency (frequency_of index) (carrier_of index)
carrier_of-frequency index lt =
    at-tested (frequency_of index) (carrier_of index)
    (agree_below_at (λ i. is_at (frequency_of i) (carrier_of i)) (λ _. true) 52 index at-tests lt)
