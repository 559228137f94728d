-- What is kept of the jobs of a frame, put down job by job, is that of its places.
use Rattle.std.proofs.Common.{◌≡◌, ℕ, ◌+◌, ◌*◌, ◌<◌, List, [], ◌∷◌, length, map, replicate, Bool, true, false, Option, None, Some}
use Rattle.std.proofs.Common.{if◌then◌else◌, refl, sym, ap, ◌∙◌, arith}
use Rattle.std.specs.List.{AllByRecursion}
use Rattle.std.specs.Cmp.Derive.{both_true}
use Rattle.std.proofs.lemmas.Bool.{eq-eqb}
use Rattle.std.proofs.lemmas.List.{length-replicate}
use Rattle.ht_rate.specs.declared.kinds.Carrier.{Carrier}
use Rattle.ht_rate.specs.declared.kinds.Carrier.TheVariants.{Data, Pilot}
use Rattle.ht_metric.specs.Jobs.{JobView}
use Rattle.ht_results.specs.Plans.{HasIndices, IsPlaced, Plan, job_at, kept_at, kept_by_place, kept_of, stands_at}
use Rattle.ht_results.proofs.Putting.{put_table, same_table, table, table_same}
use Rattle.ht_results.proofs.Places.{Rising, none_behind, place_number, stands}
use Rattle.ht_results.proofs.Steps.{labels_after, labels_with}

-- a data subcarrier is no other one
abbrev number_in : Carrier → ℕ
number_in (Data m) = m
number_in (Pilot k) = 0

abbrev is_pilot : Carrier → Bool
is_pilot (Data m) = false
is_pilot (Pilot k) = true

module _ {H V : Type 0} (plan : Plan H V) (head : H) (indices : HasIndices plan head) where
  -- what is kept of a job in place of others
  abbrev block : List V → Option JobView → List V
  block old None = old
  block old (Some job) = plan.values head job

  abbrev blocks : (ℕ → ℕ → List V) → List JobView → ℕ → ℕ → List V
  blocks old jobs symbol m = block (old symbol m) (job_at plan head jobs symbol m)

  abbrev AreWide : (ℕ → ℕ → List V) → Type 0
  AreWide old = (i j : ℕ) → i < plan.symbols head → j < plan.data_carriers head → length (old i j) ≡ plan.width head

  carried : (symbol m : ℕ) (job : JobView) → m < plan.data_carriers head → stands_at symbol (plan.index head m) job ≡ true
      → plan.kind head job.place.carrier ≡ Data m
  carried symbol m job below is = ap (plan.kind head) (stands symbol (plan.index head m) job is).1 ∙ indices.index m below

  one_wide : (old : List V) (job : JobView) (b : Bool) → length old ≡ plan.width head → (b ≡ true → length (plan.values head job) ≡ plan.width head)
      → length (block old (if b then Some job else None)) ≡ plan.width head
  one_wide old job true wide there = there refl
  one_wide old job false wide there = wide

  blocks_wide : (old : ℕ → ℕ → List V) (job : JobView) → AreWide old → IsPlaced plan head job → AreWide (blocks old (job ∷ []))
  blocks_wide old job wide at i j low few =
      one_wide (old i j) job (stands_at i (plan.index head j) job) (wide i j low few) (λ yes. at.wide j (carried i j job few yes))

  stays : (old : List V) (job : JobView) (b : Bool) → (b ≡ true → ⊥) → old ≡ block old (if b then Some job else None)
  stays old job true never = absurd (never refl)
  stays old job false never = refl

  -- what is kept of one job
  one_job : (old : ℕ → ℕ → List V) (job : JobView) (c : Carrier) → AreWide old → IsPlaced plan head job → plan.kind head job.place.carrier ≡ c
      → labels_with plan head job c (table old (plan.symbols head) (plan.data_carriers head))
      ≡ table (blocks old (job ∷ [])) (plan.symbols head) (plan.data_carriers head)
  one_job old job (Data m) wide at is =
      let number = indices.number job.place.carrier m at.carrier is in
      let here : stands_at job.place.symbol (plan.index head m) job ≡ true =
      both_true (eq-eqb job.place.symbol job.place.symbol refl) (eq-eqb job.place.carrier (plan.index head m) number.1) in
      put_table (plan.values head job) old (blocks old (job ∷ [])) (plan.symbols head) (plan.data_carriers head) (plan.width head) job.place.symbol m
      wide at.symbol number.0 (at.wide m is)
      (ap (λ (b : Bool). block (old job.place.symbol m) (if b then Some job else None)) here)
      (λ i j low few apart. stays (old i j) job (stands_at i (plan.index head j) job)
      (λ yes. apart (sym (stands i (plan.index head j) job yes).0)
      (ap number_in (sym (carried i j job few yes) ∙ is))))
  one_job old job (Pilot k) wide at is =
      table_same old (blocks old (job ∷ [])) (plan.symbols head) (plan.data_carriers head)
      (λ i j low few. stays (old i j) job (stands_at i (plan.index head j) job)
      (λ yes. let never : false ≡ true = ap is_pilot (sym (carried i j job few yes) ∙ is) in cc))

  -- one job, and then others that stand on other places
  one_and_others : (old : List V) (job : JobView) (b : Bool) (o : Option JobView) → (b ≡ true → o ≡ None)
      → block (block old (if b then Some job else None)) o ≡ block old (if b then Some job else o)
  one_and_others old job true o none = ap (block (plan.values head job)) (none refl)
  one_and_others old job false o none = refl

  -- what is kept of jobs on different places
  all_jobs : (jobs : List JobView) (old : ℕ → ℕ → List V) (from end : ℕ) → AreWide old → AllByRecursion (IsPlaced plan head) jobs
      → Rising (plan.subcarriers head) from end (map (λ (j : JobView). j.place) jobs)
      → labels_after plan head jobs (table old (plan.symbols head) (plan.data_carriers head))
      ≡ table (blocks old jobs) (plan.symbols head) (plan.data_carriers head)
  all_jobs [] old from end wide at rising = refl
  all_jobs (job ∷ jobs) old from end wide at rising =
      let carriers : ℕ = plan.subcarriers head in
      let next : ℕ = place_number carriers job.place + 1 in
      ap (labels_after plan head jobs) (one_job old job (plan.kind head job.place.carrier) wide at.0 refl)
      ∙ (all_jobs jobs (blocks old (job ∷ [])) next end (blocks_wide old job wide at.0) at.1 rising.1
      ∙ table_same (blocks (blocks old (job ∷ [])) jobs) (blocks old (job ∷ jobs)) (plan.symbols head) (plan.data_carriers head)
      (λ i j low few. one_and_others (old i j) job (stands_at i (plan.index head j) job) (job_at plan head jobs i j)
      (λ yes.
      let place = stands i (plan.index head j) job yes in
      let number : i * carriers + plan.index head j ≡ place_number carriers job.place =
      ap (λ (z : ℕ). z * carriers + plan.index head j) (sym place.0) ∙ ap (λ (z : ℕ). job.place.symbol * carriers + z) (sym place.1) in
      none_behind carriers i (plan.index head j) next end jobs (omega (arith, number)) rising.1)))

  -- what the definition lists
  listed : (o : Option JobView) → block (replicate (plan.width head) plan.none) o ≡ kept_of plan head o
  listed None = refl
  listed (Some job) = refl

  pub kept_is : (jobs : List JobView) (from end : ℕ) → AllByRecursion (IsPlaced plan head) jobs
      → Rising (plan.subcarriers head) from end (map (λ (j : JobView). j.place) jobs)
      → labels_after plan head jobs (replicate (plan.symbols head * (plan.data_carriers head * plan.width head)) plan.none) ≡ kept_by_place plan head jobs
  unfolding kept_by_place
  kept_is jobs from end at rising =
      let empty : ℕ → ℕ → List V = λ i j. replicate (plan.width head) plan.none in
      ap (labels_after plan head jobs) (same_table (plan.symbols head) (plan.data_carriers head) (plan.width head) plan.none)
      ∙ (all_jobs jobs empty from end (λ i j low few. length-replicate (plan.width head) plan.none) at rising
      ∙ table_same (blocks empty jobs) (kept_at plan head jobs) (plan.symbols head) (plan.data_carriers head)
      (λ i j low few. listed (job_at plan head jobs i j)))
