-- What a capture holds: for each frame its head, and for each symbol the jobs of the subcarriers that are present.
use Rattle.std.specs.Prelude.{ℕ, ℤ, pos, ◌+◌, ◌*◌, ◌^◌, List, [], ◌∷◌, map, bit_or, if◌then◌else◌}
use Rattle.std.specs.List.{range_with_len}
use Rattle.std.specs.Ordering.{int_eq}
use Rattle.ht_rate.specs.declared.rates.Rate.{Rate}
use Rattle.ht_rate.specs.declared.kinds.Carrier.{Carrier}
use Rattle.ht_rate.specs.declared.kinds.Carrier.TheVariants.{Data, Pilot}
use Rattle.ht_rate.specs.Carriers.{carrier_of}
use Rattle.ht_rate.specs.Rates.{streams_of}
use Rattle.ht_map.specs.Constellation.{grid_of}
use Rattle.ht_pilot.specs.Pilots.{pilot_of}
use Rattle.ht_pam.specs.declared.axes.Axes.{Axes}
use Rattle.ht_metric.specs.Jobs.{JobView}
use Rattle.ht_metric.specs.Rows.{rows_of}
use Rattle.ht_capture.specs.declared.items.FrameHead.{FrameHead}
use Rattle.ht_capture.specs.declared.items.Item.{Item}
use Rattle.ht_capture.specs.declared.items.Item.TheVariants.{Job}
use Rattle.ht_capture.specs.declared.places.Present.{Present}
use Rattle.ht_capture.specs.Systems.{samples_at}

-- the one point (v, 0) of a stream on a pilot subcarrier, where v is 1 or -1: of the levels -1 and 1 of I the one, and of Q the level 0
abbrev pub one_point : ℤ → Axes
one_point v = record { i = record { size = 2; mask = if int_eq v (pos 1) then 2 else 1 }; q = record { size = 1; mask = 1 } }

-- one point on each spatial stream (clause 20.3.11.10)
unfoldable pub pilot_grid : Rate → ℕ → ℕ → List Axes
pilot_grid rate symbol pilot = map (λ stream. one_point (pilot_of rate symbol pilot stream)) (range_with_len 1 (streams_of rate))

abbrev pub grid_for : Rate → ℕ → Carrier → List Axes
grid_for rate symbol (Data m) = grid_of rate
grid_for rate symbol (Pilot k) = pilot_grid rate symbol k

-- the grid of a subcarrier: the full constellation where it carries data, and the one point of each stream where it is a pilot
unfoldable pub grid_at : Rate → ℕ → ℕ → List Axes
grid_at rate symbol carrier = grid_for rate symbol (carrier_of rate carrier)

-- the job of a present subcarrier, whose samples stand in the octets of its symbol from a place on
unfoldable pub job_at : FrameHead → ℕ → ℕ → Present → List ℕ → ℕ → JobView
job_at head symbol number p octets at = record {
  number = number;
  place = record { frame = head.frame; symbol = symbol; carrier = p.carrier };
  grid = grid_at head.rate symbol p.carrier;
  system = rows_of p.triangle (samples_at (streams_of head.rate) octets at);
}

-- the octets of the samples of a subcarrier: a real part and an imaginary part of four octets for each row
abbrev pub carrier_octets : Rate → ℕ
carrier_octets rate = 8 * streams_of rate

-- the jobs of a symbol, numbered from a number on: one for each present subcarrier, in ascending order
unfoldable pub jobs_at : FrameHead → ℕ → ℕ → List Present → List ℕ → ℕ → List Item
jobs_at head symbol number [] octets at = []
jobs_at head symbol number (p ∷ ps) octets at =
    Job (job_at head symbol number p octets at) ∷ jobs_at head symbol (number + 1) ps octets (at + carrier_octets head.rate)

-- the head with one subcarrier more marked as erased
unfoldable pub erase : FrameHead → ℕ → FrameHead
erase head carrier = record { frame = head.frame; rate = head.rate; length = head.length; erased = bit_or head.erased (2 ^ carrier) }
