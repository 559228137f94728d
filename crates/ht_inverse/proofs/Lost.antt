-- Which data subcarriers are erased, as a loop over all subcarriers finds it.
use Rattle.std.proofs.Common.{◌≡◌, ℕ, ◌+◌, ◌<◌, ◌≤◌, List, Bool, false, slice_index_or, sym, ap, ◌∙◌, arith, inl, inr}
use Rattle.std.specs.Prelude.{◌≢◌}
use Rattle.std.proofs.lemmas.Bool.{cases_lt}
use Rattle.ht_bits.specs.Bits.{bit}
use Rattle.ht_rate.specs.declared.rates.Rate.{Rate}
use Rattle.ht_rate.specs.declared.kinds.Carrier.{Carrier}
use Rattle.ht_rate.specs.declared.kinds.Carrier.TheVariants.{Data}
use Rattle.ht_rate.specs.Carriers.{carrier_of, index_of}
use Rattle.ht_rate.specs.Rates.{carriers_of}
use Rattle.ht_rate.proofs.CarrierFacts.{carrier_of-index_of, index_of-carrier_of}
use Rattle.ht_rate.proofs.RateFacts.{data_carriers_of-range}
use Rattle.ht_inverse.specs.Received.{is_lost}
use Rattle.ht_inverse.specs.Shares.{AreLost, AreLostBelow}

-- one subcarrier more
pub lost-more : (r : Rate) (erased index : ℕ) (carrier : Carrier) (marked : Bool) (old new : List Bool)
    → index < carriers_of r → carrier ≡ carrier_of r index → marked ≡ bit erased index
    → ((m : ℕ) → m < 108 → carrier ≡ Data m → slice_index_or new m false ≡ marked)
    → ((m : ℕ) → carrier ≢ Data m → slice_index_or new m false ≡ slice_index_or old m false)
    → AreLostBelow r erased old index → AreLostBelow r erased new (index + 1)
unfolding is_lost
lost-more r erased index carrier marked old new within is mark here others before m below low = elim (cases_lt (index_of r (Data m)) index) [
  | inl earlier ↦
      let apart : carrier ≢ Data m = λ e.
      let same : index ≡ index_of r (Data m) = sym (index_of-carrier_of r index within) ∙ ap (index_of r) (sym is ∙ e) in
      omega (arith, same, earlier) in
      others m apart ∙ before m below earlier
  | inr late ↦
      let at : index_of r (Data m) ≡ index = omega (arith, late, low) in
      let there : carrier ≡ Data m = is ∙ ap (carrier_of r) (sym at) ∙ (carrier_of-index_of r (Data m) below).1 in
      let few = (data_carriers_of-range r).1 in
      here m (omega (arith, below, few)) there ∙ mark ∙ ap (bit erased) (sym at)
]

-- and all of them
pub lost-all : (r : Rate) (erased index : ℕ) (lost : List Bool) → carriers_of r ≤ index → AreLostBelow r erased lost index → AreLost r erased lost
lost-all r erased index lost all before m below =
    let inside = (carrier_of-index_of r (Data m) below).0 in
    before m below (omega (arith, inside, all))
