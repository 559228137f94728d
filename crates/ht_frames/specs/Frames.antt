-- A frame under way, of any kind.
use Rattle.std.specs.Prelude.{◌≡◌, ℕ, ◌+◌, ◌-◌, ◌*◌, ◌^◌, ◌≤◌, ◌==◌, List, length, if◌then◌else◌}
use Rattle.ht_feed.specs.Items.{Headed}
use Rattle.ht_results.specs.Places.{put_on}
use Rattle.ht_results.specs.Plans.{Fold, Plan, SoFar, begun_by, given_from, with_kind_by}

-- the number of values that are kept of a frame
abbrev pub values_in : {H V : Type 0} → Plan H V → H → ℕ
values_in plan head = plan.symbols head * (plan.data_carriers head * plan.width head)

-- where no frame is under way, the next job begins one, with the head that this makes of its own
abbrev pub frame_for : {H V : Type 0} → Plan H V → (H → H) → H → SoFar H V → SoFar H V
frame_for plan begins head f = if f.left == 0 then begun_by plan (begins head) else f

-- the frame with what more jobs come to: how many they are, the sums of their distances, and values with their places
abbrev pub with_tally : {H V : Type 0} → ℕ → ℕ → ℕ → List ℕ → List V → SoFar H V → SoFar H V
with_tally jobs data_sum pilot_sum places values f = record f {
  data_sum = f.data_sum + data_sum;
  pilot_sum = f.pilot_sum + pilot_sum;
  labels = put_on places values f.labels;
  left = f.left - jobs;
}

module _ {H V : Type 0} (plan : Plan H V) (Fits : H → Type 0) where
  -- all that is kept of the frame stands there, so that it can be decoded
  pub record HasKept (f : SoFar H V) : Type 0 where
    pub fits : Fits f.head
    pub kept : length f.labels ≡ values_in plan f.head

  -- its last job came, and none is under way
  pub record IsWhole (f : SoFar H V) : Type 0 where
    pub none : f.left ≡ 0
    pub kept : HasKept f

  -- a frame of which a job is still to come; its sums will fit their type
  pub record IsOpen (f : SoFar H V) : Type 0 where
    pub left : 1 ≤ f.left
    pub kept : HasKept f
    pub data_bound : f.data_sum + f.left * 2 ^ 66 ≤ 2 ^ 96
    pub pilot_bound : f.pilot_sum + f.left * 2 ^ 66 ≤ 2 ^ 96

-- jobs are taken one after another by the plan, and the first begins a frame
abbrev pub fold_of : {H V R : Type 0} → Plan H V → (H → H) → (SoFar H V → R) → Fold (Headed H) H V R
fold_of plan begins result_of = record { step = λ h f. with_kind_by plan h.job (frame_for plan begins h.head f); result = result_of }

-- the results that they give
abbrev pub results_by : {H V R : Type 0} → Plan H V → (H → H) → (SoFar H V → R) → SoFar H V → List (Headed H) → List R
results_by plan begins result_of f jobs = given_from (fold_of plan begins result_of) f jobs
