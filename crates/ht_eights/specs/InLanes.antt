-- Jobs of a block that are found together.
use Rattle.std.specs.Prelude.{◌≡◌, ℕ, List, drop, length, take}
use Rattle.std.specs.List.{flat_map, range_with_len}
use Rattle.ht_metric.specs.Jobs.{JobView}
use Rattle.ht_frames.specs.Tallies.{IsTally}
use Rattle.ht_results.specs.Plans.{Plan}
use Rattle.ht_rounding.specs.declared.eight.Labelled.{Labelled}
use Rattle.ht_rounding.specs.Labels.{labels_in}

-- the labels of so many lanes from one on, lane by lane
abbrev pub lane_labels : Labelled → ℕ → ℕ → List ℕ
lane_labels lanes first n = flat_map (labels_in lanes) (range_with_len first n)

-- so many jobs of a block, behind the first ones
abbrev pub jobs_behind : List JobView → ℕ → ℕ → List JobView
jobs_behind jobs first n = take n (drop first jobs)

-- these are the numbers, places and labels of a tally of the first jobs of a block, of a frame with this head
pub record HasFirst {H : Type 0} (plan : Plan H ℕ) (jobs : List JobView) (first : ℕ) (head own : H) (number data_sum pilot_sum : ℕ)
    (places labels : List ℕ) : Type 0 where
  pub counted : number ≡ first
  pub same : own ≡ head
  pub long : length places ≡ length labels
  pub is : IsTally plan head (take first jobs) number data_sum pilot_sum places labels
