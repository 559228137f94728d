-- The jobs of a frame under way, one after another: what they make of its sums and of what is kept.
use Rattle.std.proofs.Common.{◌≡◌, ℕ, suc, ◌+◌, ◌-◌, List, [], ◌∷◌, length, not, if◌then◌else◌}
use Rattle.std.proofs.Common.{refl, ap, ◌∙◌, arith}
use Rattle.std.specs.List.{filter, fold}
use Rattle.ht_rate.specs.declared.kinds.Carrier.{Carrier}
use Rattle.ht_rate.specs.declared.kinds.Carrier.TheVariants.{Data, Pilot}
use Rattle.ht_metric.specs.Jobs.{JobView, near}
use Rattle.ht_results.specs.Plans.{Plan, SoFar, is_data, on_data_by, place_by, put_values, with_hit_by, with_kind_by}

-- what one job makes of each sum
abbrev pub data_with : JobView → Carrier → ℕ → ℕ
data_with job (Data m) n = n + (near job).distance
data_with job (Pilot k) n = n

abbrev pub pilot_with : JobView → Carrier → ℕ → ℕ
pilot_with job (Data m) n = n
pilot_with job (Pilot k) n = n + (near job).distance

-- the sums
abbrev pub plus_distance : ℕ → JobView → ℕ
plus_distance n job = n + (near job).distance

data_step : (job : JobView) (c : Carrier) (jobs : List JobView) (n : ℕ)
    → fold plus_distance (data_with job c n) jobs ≡ fold plus_distance n (if is_data c then job ∷ jobs else jobs)
data_step job (Data m) jobs n = refl
data_step job (Pilot k) jobs n = refl

pilot_step : (job : JobView) (c : Carrier) (jobs : List JobView) (n : ℕ)
    → fold plus_distance (pilot_with job c n) jobs ≡ fold plus_distance n (if not (is_data c) then job ∷ jobs else jobs)
pilot_step job (Data m) jobs n = refl
pilot_step job (Pilot k) jobs n = refl

module _ {H V : Type 0} (plan : Plan H V) where
  -- jobs are taken with no look at their heads
  abbrev pub with_all : SoFar H V → List JobView → SoFar H V
  with_all f [] = f
  with_all f (job ∷ jobs) = with_all (with_kind_by plan job f) jobs

  -- what one job makes of what is kept
  abbrev pub labels_with : H → JobView → Carrier → List V → List V
  labels_with head job (Data m) labels = put_values labels (place_by plan head job.place.symbol m) (plan.values head job)
  labels_with head job (Pilot k) labels = labels

  -- and all jobs
  abbrev pub data_after : H → List JobView → ℕ → ℕ
  data_after head [] n = n
  data_after head (job ∷ jobs) n = data_after head jobs (data_with job (plan.kind head job.place.carrier) n)

  abbrev pub pilot_after : H → List JobView → ℕ → ℕ
  pilot_after head [] n = n
  pilot_after head (job ∷ jobs) n = pilot_after head jobs (pilot_with job (plan.kind head job.place.carrier) n)

  abbrev pub labels_after : H → List JobView → List V → List V
  labels_after head [] labels = labels
  labels_after head (job ∷ jobs) labels = labels_after head jobs (labels_with head job (plan.kind head job.place.carrier) labels)

  abbrev pub parts : H → ℕ → ℕ → List V → ℕ → SoFar H V
  parts head sum pilot_sum labels left = record { head = head; data_sum = sum; pilot_sum = pilot_sum; labels = labels; left = left }

  one_job : (job : JobView) (c : Carrier) (f : SoFar H V)
      → with_hit_by plan job c f ≡ parts f.head (data_with job c f.data_sum) (pilot_with job c f.pilot_sum) (labels_with f.head job c f.labels) (f.left - 1)
  one_job job (Data m) f = refl
  one_job job (Pilot k) f = refl

  pub all_jobs : (jobs : List JobView) (f : SoFar H V)
      → with_all f jobs
      ≡ parts f.head (data_after f.head jobs f.data_sum) (pilot_after f.head jobs f.pilot_sum) (labels_after f.head jobs f.labels) (f.left - length jobs)
  all_jobs [] f = ap (parts f.head f.data_sum f.pilot_sum f.labels) (omega arith)
  all_jobs (job ∷ jobs) f =
      let c : Carrier = plan.kind f.head job.place.carrier in
      let g : SoFar H V = parts f.head (data_with job c f.data_sum) (pilot_with job c f.pilot_sum) (labels_with f.head job c f.labels) (f.left - 1) in
      let left : f.left - 1 - length jobs ≡ f.left - suc (length jobs) = omega arith in
      ap (λ (z : SoFar H V). with_all z jobs) (one_job job c f)
      ∙ (all_jobs jobs g
      ∙ ap (parts f.head (data_after f.head jobs g.data_sum) (pilot_after f.head jobs g.pilot_sum) (labels_after f.head jobs g.labels)) left)

  pub left_after : (job : JobView) (f : SoFar H V) → (with_kind_by plan job f).left ≡ f.left - 1
  left_after job f = ap (λ (z : SoFar H V). z.left) (one_job job (plan.kind f.head job.place.carrier) f)

  pub data_is : (head : H) (jobs : List JobView) (n : ℕ) → data_after head jobs n ≡ fold plus_distance n (filter (on_data_by plan head) jobs)
  data_is head [] n = refl
  data_is head (job ∷ jobs) n =
      let c : Carrier = plan.kind head job.place.carrier in
      data_is head jobs (data_with job c n) ∙ data_step job c (filter (on_data_by plan head) jobs) n

  pub pilot_is : (head : H) (jobs : List JobView) (n : ℕ) → pilot_after head jobs n ≡ fold plus_distance n (filter (λ job. not (on_data_by plan head job)) jobs)
  pilot_is head [] n = refl
  pilot_is head (job ∷ jobs) n =
      let c : Carrier = plan.kind head job.place.carrier in
      pilot_is head jobs (pilot_with job c n) ∙ pilot_step job c (filter (λ j. not (on_data_by plan head j)) jobs) n
