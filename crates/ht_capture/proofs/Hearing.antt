-- Jobs out of templates.
use Rattle.std.proofs.Common.{◌≡◌, ℕ, List, sym, ap, ◌∙◌}
use Rattle.ht_rate.specs.declared.kinds.Carrier.TheVariants.{Data, Pilot}
use Rattle.ht_rate.specs.declared.rates.Rate.{Rate}
use Rattle.ht_rate.specs.Carriers.{carrier_of}
use Rattle.ht_metric.specs.declared.sample.Sample.{Sample}
use Rattle.ht_metric.specs.Arrays.{legs, legs-rows_of}
use Rattle.ht_metric.specs.Rows.{Leg, Row, rows_of}
use Rattle.ht_capture.specs.declared.places.Present.{Present}
use Rattle.ht_capture.specs.Frames.{grid_at, grid_for, pilot_grid}

-- on a data subcarrier the grid is that of each symbol
pub same_grid : (rate : Rate) (symbol carrier m : ℕ) → carrier_of rate carrier ≡ Data m → grid_at rate 0 carrier ≡ grid_at rate symbol carrier
unfolding grid_at
same_grid rate symbol carrier m is = ap (grid_for rate 0) is ∙ sym (ap (grid_for rate symbol) is)

pub own_grid : (rate : Rate) (symbol carrier k : ℕ) → carrier_of rate carrier ≡ Pilot k → pilot_grid rate symbol k ≡ grid_at rate symbol carrier
unfolding grid_at
own_grid rate symbol carrier k is = sym (ap (grid_for rate symbol) is)

pub silent_present : (carrier : ℕ) (rows : List Row) (triangle : List Leg) (ys : List Sample) → rows ≡ rows_of triangle ys
    → (let p : Present = record { carrier = carrier; triangle = legs rows } in p) ≡ record { carrier = carrier; triangle = triangle }
silent_present carrier rows triangle ys is =
    ap (λ (t : List Leg). let p : Present = record { carrier = carrier; triangle = t } in p) (ap (λ (r : List Row). legs r) is ∙ legs-rows_of triangle ys)
