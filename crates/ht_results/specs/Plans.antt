-- What the jobs of frames come to, for frames of any kind and for whatever is kept of a job.
--
-- `Folding` and `Results` have it for the labels of a capture's frames, and `Distances` for the distances of their jobs.
use Rattle.std.specs.Prelude.{◌≡◌, ℕ, ◌+◌, ◌-◌, ◌*◌, ◌<◌, ◌≤◌, ◌==◌, max, List, [], ◌∷◌, ◌++◌, length, set, replicate}
use Rattle.std.specs.Prelude.{Bool, true, false, not, ◌&&◌, Option, None, Some, if◌then◌else◌}
use Rattle.std.specs.List.{filter, find, flat_map, range_with_len, sum_by}
use Rattle.ht_rate.specs.declared.kinds.Carrier.{Carrier}
use Rattle.ht_rate.specs.declared.kinds.Carrier.TheVariants.{Data, Pilot}
use Rattle.ht_metric.specs.Jobs.{JobView, near}
use Rattle.ht_capture.specs.Files.{present_among}

-- a kind of frames with heads H, and the values V that are kept of a job
pub record Plan (H V : Type 0) : Type 0 where
  -- the numbers of symbols, of subcarriers, and of data subcarriers
  pub symbols : H → ℕ
  pub subcarriers : H → ℕ
  pub data_carriers : H → ℕ
  -- what a subcarrier carries, and which one is the data subcarrier of this number
  pub kind : H → ℕ → Carrier
  pub index : H → ℕ → ℕ
  -- the subcarriers that have no jobs: bit c is that of subcarrier c
  pub erased : H → ℕ
  -- how many values are kept of a job on a data subcarrier, and which ones; and the value where there is no job
  pub width : H → ℕ
  pub values : H → JobView → List V
  pub none : V

-- a frame under way: its head, the sums of the distances of its jobs so far, what is kept of them by their places (the
-- labels that were detected, or whatever stands for them), and how many of its jobs are still to come
pub record SoFar (H V : Type 0) : Type 0 where
  pub head : H
  pub data_sum : ℕ
  pub pilot_sum : ℕ
  pub labels : List V
  pub left : ℕ

-- the number of a frame's jobs: its symbols times the subcarriers that are present
abbrev pub jobs_by : {H V : Type 0} → Plan H V → H → ℕ
jobs_by plan head = plan.symbols head * present_among (plan.subcarriers head) 0 (plan.erased head)

-- a frame of which no hit was taken; it has a job at least
abbrev pub begun_by : {H V : Type 0} → Plan H V → H → SoFar H V
begun_by plan head = record {
  head = head;
  data_sum = 0;
  pilot_sum = 0;
  labels = replicate (plan.symbols head * (plan.data_carriers head * plan.width head)) plan.none;
  left = max 1 (jobs_by plan head);
}

-- values that are put from a place on
abbrev pub put_values : {V : Type 0} → List V → ℕ → List V → List V
put_values kept at [] = kept
put_values kept at (v ∷ vs) = put_values (set kept at v) (at + 1) vs

-- the place of the first value of a symbol's data subcarrier
abbrev pub place_by : {H V : Type 0} → Plan H V → H → ℕ → ℕ → ℕ
place_by plan head symbol m = (symbol * plan.data_carriers head + m) * plan.width head

-- the frame with the hit of one more job
abbrev pub with_hit_by : {H V : Type 0} → Plan H V → JobView → Carrier → SoFar H V → SoFar H V
with_hit_by plan job (Data m) f = record f {
  data_sum = f.data_sum + (near job).distance;
  labels = put_values f.labels (place_by plan f.head job.place.symbol m) (plan.values f.head job);
  left = f.left - 1;
}
with_hit_by plan job (Pilot k) f = record f { pilot_sum = f.pilot_sum + (near job).distance; left = f.left - 1 }

-- the same, where the plan says what the job's subcarrier carries
abbrev pub with_kind_by : {H V : Type 0} → Plan H V → JobView → SoFar H V → SoFar H V
with_kind_by plan job f = with_hit_by plan job (plan.kind f.head job.place.carrier) f

-- Jobs X are taken one after another, and with its last job a frame gives its result R.
pub record Fold (X H V R : Type 0) : Type 0 where
  pub step : X → SoFar H V → SoFar H V
  pub result : SoFar H V → R

-- the result of a frame, where its last job came
abbrev pub given_if : {X H V R : Type 0} → Fold X H V R → SoFar H V → List R
given_if fold f = if f.left == 0 then fold.result f ∷ [] else []

-- the results that jobs give, one after another
abbrev pub given_from : {X H V R : Type 0} → Fold X H V R → SoFar H V → List X → List R
given_from fold f [] = []
given_from fold f (x ∷ xs) = given_if fold (fold.step x f) ++ given_from fold (fold.step x f) xs

-- the frame that is under way behind them
abbrev pub under_way : {X H V R : Type 0} → Fold X H V R → SoFar H V → List X → SoFar H V
under_way fold f [] = f
under_way fold f (x ∷ xs) = under_way fold (fold.step x f) xs

-- the result of a frame, where its last job came
abbrev pub finished : {R : Type 0} → Bool → R → List R
finished true result = result ∷ []
finished false result = []

-- a job is that of a symbol and of the subcarrier of this index
abbrev pub stands_at : ℕ → ℕ → JobView → Bool
stands_at symbol carrier job = (job.place.symbol == symbol) && (job.place.carrier == carrier)

-- the job at a symbol and a data subcarrier, which an erased one doesn't have
abbrev pub job_at : {H V : Type 0} → Plan H V → H → List JobView → ℕ → ℕ → Option JobView
job_at plan head jobs symbol m = find (stands_at symbol (plan.index head m)) jobs

-- what is kept of it
abbrev pub kept_of : {H V : Type 0} → Plan H V → H → Option JobView → List V
kept_of plan head None = replicate (plan.width head) plan.none
kept_of plan head (Some job) = plan.values head job

-- what is kept at a symbol and a data subcarrier
abbrev pub kept_at : {H V : Type 0} → Plan H V → H → List JobView → ℕ → ℕ → List V
kept_at plan head jobs symbol m = kept_of plan head (job_at plan head jobs symbol m)

-- what is kept of a symbol, in the order of its data subcarriers
abbrev pub kept_in : {H V : Type 0} → Plan H V → H → List JobView → ℕ → List V
kept_in plan head jobs symbol = flat_map (kept_at plan head jobs symbol) (range_with_len 0 (plan.data_carriers head))

-- what is kept of the jobs of a frame, in the order symbol, data subcarrier
unfoldable pub kept_by_place : {H V : Type 0} → Plan H V → H → List JobView → List V
kept_by_place plan head jobs = flat_map (kept_in plan head jobs) (range_with_len 0 (plan.symbols head))

-- the subcarrier carries data
abbrev pub is_data : Carrier → Bool
is_data (Data m) = true
is_data (Pilot k) = false

-- the job stands on a data subcarrier
abbrev pub on_data_by : {H V : Type 0} → Plan H V → H → JobView → Bool
on_data_by plan head job = is_data (plan.kind head job.place.carrier)

-- the distances of the first nearest vectors of jobs, together
abbrev pub distances : List JobView → ℕ
distances jobs = sum_by (λ job. (near job).distance) jobs

-- what all jobs of a frame come to, by their places
abbrev pub whole_by : {H V : Type 0} → Plan H V → H → List JobView → SoFar H V
whole_by plan head jobs = record {
  head = head;
  data_sum = distances (filter (on_data_by plan head) jobs);
  pilot_sum = distances (filter (λ job. not (on_data_by plan head job)) jobs);
  labels = kept_by_place plan head jobs;
  left = 0;
}

-- each data subcarrier of a frame is known by its number
pub record HasIndices {H V : Type 0} (plan : Plan H V) (head : H) : Type 0 where
  pub number : (carrier m : ℕ) → carrier < plan.subcarriers head → plan.kind head carrier ≡ Data m
      → (m < plan.data_carriers head) × (carrier ≡ plan.index head m)
  pub index : (m : ℕ) → m < plan.data_carriers head → plan.kind head (plan.index head m) ≡ Data m

-- a job on one of a frame's places, of which as many values are kept as the plan says
pub record IsPlaced {H V : Type 0} (plan : Plan H V) (head : H) (job : JobView) : Type 0 where
  pub symbol : job.place.symbol < plan.symbols head
  pub carrier : job.place.carrier < plan.subcarriers head
  pub wide : (m : ℕ) → plan.kind head job.place.carrier ≡ Data m → length (plan.values head job) ≡ plan.width head

-- the fold takes the jobs of a frame by the plan: the first one begins the frame
pub record Follows {X H V R : Type 0} (plan : Plan H V) (fold : Fold X H V R) (headed : H → JobView → X) (head : H) : Type 0 where
  pub begins : (job : JobView) (f : SoFar H V) → f.left ≡ 0 → fold.step (headed head job) f ≡ with_kind_by plan job (begun_by plan head)
  pub goes_on : (job : JobView) (f : SoFar H V) → 1 ≤ f.left → fold.step (headed head job) f ≡ with_kind_by plan job f
