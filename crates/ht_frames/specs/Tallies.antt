-- What the jobs of a block come to without their frame, by the plan of its kind: sums of distances, and values with their places.
use Rattle.std.specs.Prelude.{◌≡◌, ℕ, ◌+◌, ◌*◌, ◌^◌, ◌≤◌, List, [], length, not}
use Rattle.std.specs.List.{filter, flat_map, range_with_len}
use Rattle.ht_rate.specs.declared.kinds.Carrier.{Carrier}
use Rattle.ht_rate.specs.declared.kinds.Carrier.TheVariants.{Data, Pilot}
use Rattle.ht_metric.specs.Jobs.{JobView}
use Rattle.ht_results.specs.Plans.{Plan, distances, on_data_by, place_by}

module _ {H V : Type 0} (plan : Plan H V) (head : H) where
  -- what is kept of a job whose subcarrier carries this; nothing of a pilot
  abbrev pub kept_as : JobView → Carrier → List V
  kept_as job (Data m) = plan.values head job
  kept_as job (Pilot k) = []

  abbrev pub job_kept : JobView → List V
  job_kept job = kept_as job (plan.kind head job.place.carrier)

  -- where it stands in the frame
  abbrev pub places_as : JobView → Carrier → List ℕ
  places_as job (Data m) = range_with_len (place_by plan head job.place.symbol m) (length (plan.values head job))
  places_as job (Pilot k) = []

  abbrev pub job_places : JobView → List ℕ
  job_places job = places_as job (plan.kind head job.place.carrier)

  -- what these jobs come to, where they are of a frame with this head: how many they are, the sums of the distances on data and on
  -- pilot subcarriers, and what is kept, in the order of the jobs, with its places
  pub record IsTally (jobs : List JobView) (n data_sum pilot_sum : ℕ) (ps : List ℕ) (vs : List V) : Type 0 where
    pub count : n ≡ length jobs
    pub of_data : data_sum ≡ distances (filter (on_data_by plan head) jobs)
    pub of_pilots : pilot_sum ≡ distances (filter (λ job. not (on_data_by plan head job)) jobs)
    pub places : ps ≡ flat_map job_places jobs
    pub values : vs ≡ flat_map job_kept jobs
    pub bounded : data_sum + pilot_sum ≤ n * 2 ^ 66

-- Both heads say the same of their jobs, so that what was made by one fits the other.
pub record IsAlike {H V : Type 0} (plan : Plan H V) (head other : H) : Type 0 where
  pub kind : plan.kind head ≡ plan.kind other
  pub values : plan.values head ≡ plan.values other
  pub data_carriers : plan.data_carriers head ≡ plan.data_carriers other
  pub width : plan.width head ≡ plan.width other
