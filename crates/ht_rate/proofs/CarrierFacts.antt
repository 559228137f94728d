-- What the subcarriers of each bandwidth carry, by a test of every index.
use Rattle.std.proofs.Common.{◌≡◌, ℕ, ◌+◌, ◌<◌, Bool, true, false, ◌&&◌, nat_eq, nat_lt, refl, sym, ap, subst}
use Rattle.std.proofs.lemmas.Bool.{agree_below, agree_below_at, and_parts, eqb-true, ltb-true}
use Rattle.ht_rate.specs.declared.kinds.Bandwidth.{Bandwidth}
use Rattle.ht_rate.specs.declared.kinds.Bandwidth.TheVariants.{Mhz20, Mhz40}
use Rattle.ht_rate.specs.declared.kinds.Carrier.{Carrier}
use Rattle.ht_rate.specs.declared.kinds.Carrier.TheVariants.{Data, Pilot}
use Rattle.ht_rate.specs.declared.parts.Streams.{Streams}
use Rattle.ht_rate.specs.declared.parts.Scheme.{Scheme}
use Rattle.ht_rate.specs.declared.rates.Rate.{Rate}
use Rattle.ht_rate.specs.Schemes.{data_count, pilot_count}
use Rattle.ht_rate.specs.Rates.{bandwidth_of, data_carriers_of, pilots_of, carriers_of}
use Rattle.ht_rate.specs.Carriers.{carrier_at, carrier_of, data_before, index_of, IsAmong, IsInOrder}

-- the number of each subcarrier is below the count of its kind
is_among : Bandwidth → Carrier → Bool
is_among b (Data m) = nat_lt m (data_count b)
is_among b (Pilot k) = nat_lt k (pilot_count b)

tests : (b : Bandwidth) → agree_below (λ i. is_among b (carrier_at b i)) (λ _. true) (data_count b + pilot_count b) ≡ true
unfolding is_among carrier_at
tests Mhz20 = refl
tests Mhz40 = refl

tested : (r : Rate) (c : Carrier) → is_among (bandwidth_of r) c ≡ true → IsAmong r c
unfolding is_among data_carriers_of pilots_of bandwidth_of
tested r (Data m) e = ltb-true m (data_count r.bandwidth) e
tested r (Pilot k) e = ltb-true k (pilot_count r.bandwidth) e

pub carrier_of-among : (r : Rate) (index : ℕ) → index < carriers_of r → IsAmong r (carrier_of r index)
unfolding carrier_of carriers_of data_carriers_of pilots_of bandwidth_of
carrier_of-among r index lt =
    tested r (carrier_at r.bandwidth index)
    (agree_below_at (λ i. is_among r.bandwidth (carrier_at r.bandwidth i)) (λ _. true)
    (data_count r.bandwidth + pilot_count r.bandwidth) index (tests r.bandwidth) lt)

-- what holds at both bandwidths, whatever the streams and the scheme, holds of any rate
at_both : (P : Rate → Type 0)
    → ((n : Streams) (s : Scheme) → P (record { bandwidth = Mhz20; streams = n; scheme = s }))
    → ((n : Streams) (s : Scheme) → P (record { bandwidth = Mhz40; streams = n; scheme = s })) → (r : Rate) → P r
at_both P narrow wide r = by_width r.bandwidth r.streams r.scheme
  where
    by_width : (b : Bandwidth) (n : Streams) (s : Scheme) → P (record { bandwidth = b; streams = n; scheme = s })
    by_width Mhz20 = narrow
    by_width Mhz40 = wide

-- subcarriers are numbered in order, and those for data are counted
is_in_order : Rate → ℕ → Carrier → Bool
is_in_order r index (Data m) = nat_eq m (data_before r index)
is_in_order r index (Pilot k) = nat_eq (k + data_before r index) index

order_tests : (r : Rate) → agree_below (λ i. is_in_order r i (carrier_of r i)) (λ _. true) (carriers_of r) ≡ true
unfolding is_in_order data_before carrier_of carrier_at carriers_of data_carriers_of pilots_of bandwidth_of
order_tests = at_both (λ r. agree_below (λ i. is_in_order r i (carrier_of r i)) (λ _. true) (carriers_of r) ≡ true) (λ n s. refl) (λ n s. refl)

ordered : (r : Rate) (index : ℕ) (c : Carrier) → is_in_order r index c ≡ true → IsInOrder r index c
unfolding is_in_order
ordered r index (Data m) e = eqb-true m (data_before r index) e
ordered r index (Pilot k) e = eqb-true (k + data_before r index) index e

pub carrier_of-in_order : (r : Rate) (index : ℕ) → index < carriers_of r → IsInOrder r index (carrier_of r index)
carrier_of-in_order r index lt =
    ordered r index (carrier_of r index) (agree_below_at (λ i. is_in_order r i (carrier_of r i)) (λ _. true) (carriers_of r) index (order_tests r) lt)

pub data_before-all : (r : Rate) → data_before r (carriers_of r) ≡ data_carriers_of r
unfolding data_before carrier_of carrier_at carriers_of data_carriers_of pilots_of bandwidth_of
data_before-all = at_both (λ r. data_before r (carriers_of r) ≡ data_carriers_of r) (λ n s. refl) (λ n s. refl)

-- an index has a subcarrier, and that subcarrier this index
returns_to : Rate → ℕ → Bool
returns_to r index = nat_eq (index_of r (carrier_of r index)) index

index_tests : (r : Rate) → agree_below (returns_to r) (λ _. true) (carriers_of r) ≡ true
unfolding returns_to index_of carrier_of carrier_at carriers_of data_carriers_of pilots_of bandwidth_of
index_tests = at_both (λ r. agree_below (returns_to r) (λ _. true) (carriers_of r) ≡ true) (λ n s. refl) (λ n s. refl)

pub index_of-carrier_of : (r : Rate) (index : ℕ) → index < carriers_of r → index_of r (carrier_of r index) ≡ index
unfolding returns_to
index_of-carrier_of r index lt = eqb-true _ _ (agree_below_at (returns_to r) (λ _. true) (carriers_of r) index (index_tests r) lt)

-- a subcarrier has an index, and that index this subcarrier
same_carrier : Carrier → Carrier → Bool
same_carrier (Data m) (Data n) = nat_eq m n
same_carrier (Pilot k) (Pilot l) = nat_eq k l
same_carrier _ _ = false

same_carrier-true : (c d : Carrier) → same_carrier c d ≡ true → c ≡ d
unfolding same_carrier
same_carrier-true (Data m) (Data n) e = ap (λ (k : ℕ). Data k) (eqb-true m n e)
same_carrier-true (Pilot k) (Pilot l) e = ap (λ (m : ℕ). Pilot m) (eqb-true k l e)
same_carrier-true (Data m) (Pilot k) e = cc
same_carrier-true (Pilot k) (Data m) e = cc

stands : Rate → Carrier → Bool
stands r c = nat_lt (index_of r c) (carriers_of r) && same_carrier (carrier_of r (index_of r c)) c

-- each subcarrier for data, and each pilot
AreTested : Rate → Type 0
AreTested r =
    (agree_below (λ m. stands r (Data m)) (λ _. true) (data_carriers_of r) ≡ true) × (agree_below (λ k. stands r (Pilot k)) (λ _. true) (pilots_of r) ≡ true)

stand_tests : (r : Rate) → AreTested r
unfolding AreTested stands same_carrier index_of carrier_of carrier_at carriers_of data_carriers_of pilots_of bandwidth_of
stand_tests = at_both AreTested (λ n s. (refl, refl)) (λ n s. (refl, refl))

found : (r : Rate) (c : Carrier) → stands r c ≡ true → (index_of r c < carriers_of r) × (carrier_of r (index_of r c) ≡ c)
unfolding stands
found r c e = let parts = and_parts _ _ e in (ltb-true _ _ parts.0, same_carrier-true _ _ parts.1)

pub carrier_of-index_of : (r : Rate) (c : Carrier) → IsAmong r c → (index_of r c < carriers_of r) × (carrier_of r (index_of r c) ≡ c)
unfolding AreTested
carrier_of-index_of r (Data m) lt = found r (Data m) (agree_below_at (λ m. stands r (Data m)) (λ _. true) (data_carriers_of r) m (stand_tests r).0 lt)
carrier_of-index_of r (Pilot k) lt = found r (Pilot k) (agree_below_at (λ k. stands r (Pilot k)) (λ _. true) (pilots_of r) k (stand_tests r).1 lt)

-- at the bandwidth of a rate there are its subcarriers
pub index-below : (r : Rate) (b : Bandwidth) (index : ℕ) → b ≡ bandwidth_of r → index < carriers_of r → index < data_count b + pilot_count b
unfolding carriers_of data_carriers_of pilots_of bandwidth_of
index-below r b index e lt = subst (λ (w : Bandwidth). index < data_count w + pilot_count w) (sym e) lt
