-- What the jobs of a block come to without their frame is what they add to it.
use Rattle.std.proofs.Common.{◌≡◌, ℕ, ◌+◌, ◌-◌, ◌*◌, ◌≤◌, ◌==◌, List, [], ◌∷◌, ◌++◌, length, map, take, slice_get, Some, not, Bool, true, false, if◌then◌else◌}
use Rattle.std.proofs.Common.{refl, sym, ap, ◌∙◌, arith, length-append}
use Rattle.std.specs.List.{filter, flat_map, range_with_len}
use Rattle.std.proofs.lemmas.List.{take_more}
use Rattle.std.proofs.lemmas.List.FromFn.{length-range_with_len}
use Rattle.std.proofs.lemmas.List.Sums.{sum_by-cons, sum_by_from}
use Rattle.std.proofs.lemmas.Option.{get_or_from_slice_get, slice_get_within}
use Rattle.ht_rate.specs.declared.kinds.Carrier.{Carrier}
use Rattle.ht_rate.specs.declared.kinds.Carrier.TheVariants.{Data, Pilot}
use Rattle.ht_metric.specs.Jobs.{JobView, near}
use Rattle.ht_feed.specs.Dues.{due_of, headed_due}
use Rattle.ht_feed.specs.Items.{Headed, headed_of}
use Rattle.ht_feed.specs.Numbers.{numbered, with_number}
use Rattle.ht_feed.proofs.Numbering.{length_numbered}
use Rattle.ht_results.specs.Places.{put_on}
use Rattle.ht_results.specs.Plans.{Fold, Plan, SoFar, begun_by, distances, finished, given_if, is_data, on_data_by, place_by, with_kind_by}
use Rattle.ht_results.proofs.Stretches.{put_all_on}
use Rattle.ht_results.proofs.Steps.{all_jobs, data_after, data_is, labels_after, labels_with, parts, pilot_after, pilot_is, with_all}
use Rattle.ht_results.proofs.Taking.{begins_alike, some_left, takes_all}
use Rattle.ht_frames.specs.Frames.{fold_of, frame_for, results_by, with_tally}
use Rattle.ht_frames.specs.Tallies.{IsAlike, IsTally, job_kept, job_places, kept_as, places_as}

-- one job more of a block
pub take_one : (jobs : List JobView) (at : ℕ) (job : JobView) → Some job ≡ slice_get jobs at → take (at + 1) jobs ≡ take at jobs ++ job ∷ []
take_one jobs at job is =
    take_more jobs at job (slice_get_within jobs at job (sym is))
    ∙ ap (λ (j : JobView). take at jobs ++ j ∷ []) (get_or_from_slice_get jobs at job job (sym is))

-- with the same head, sums and values frames come to the same
pub same_result : {H V R : Type 0} (result_of : SoFar H V → R) (f g : SoFar H V) → f.left ≡ g.left → f.data_sum ≡ g.data_sum → f.pilot_sum ≡ g.pilot_sum
    → f.head ≡ g.head → f.labels ≡ g.labels → result_of f ≡ result_of g
same_result {H = H} {V = V} result_of f g left sums pilots heads labels =
    let at : H → ℕ → ℕ → List V → ℕ → SoFar H V = λ h d p ls n. record { head = h; data_sum = d; pilot_sum = p; labels = ls; left = n } in
    ap (λ (h : H). result_of (at h f.data_sum f.pilot_sum f.labels f.left)) heads
    ∙ (ap (λ (d : ℕ). result_of (at g.head d f.pilot_sum f.labels f.left)) sums
    ∙ (ap (λ (p : ℕ). result_of (at g.head g.data_sum p f.labels f.left)) pilots
    ∙ (ap (λ (ls : List V). result_of (at g.head g.data_sum g.pilot_sum ls f.left)) labels
    ∙ ap (λ (n : ℕ). result_of (at g.head g.data_sum g.pilot_sum g.labels n)) left)))

module _ {H V : Type 0} (plan : Plan H V) where
  -- each value has a place
  long_as : (head : H) (job : JobView) (c : Carrier) → length (places_as plan head job c) ≡ length (kept_as plan head job c)
  long_as head job (Data m) = length-range_with_len (place_by plan head job.place.symbol m) (length (plan.values head job))
  long_as head job (Pilot k) = refl

  as_long : (head : H) (jobs : List JobView) → length (flat_map (job_places plan head) jobs) ≡ length (flat_map (job_kept plan head) jobs)
  as_long head [] = refl
  as_long head (job ∷ jobs) =
      let here = long_as head job (plan.kind head job.place.carrier) in
      let places = length-append (job_places plan head job) (flat_map (job_places plan head) jobs) in
      let values = length-append (job_kept plan head job) (flat_map (job_kept plan head) jobs) in
      let rest = as_long head jobs in
      omega (arith, here, places, values, rest)

  pub long_tally : {head : H} {jobs : List JobView} {n d p : ℕ} {places : List ℕ} {values : List V} → IsTally plan head jobs n d p places values
      → length places ≡ length values
  long_tally {head = head} {jobs = jobs} is =
      ap (λ (ps : List ℕ). length ps) is.places ∙ (as_long head jobs ∙ sym (ap (λ (vs : List V). length vs) is.values))

  -- what was made by a head that is alike
  places_alike_as : {head other : H} → IsAlike plan head other → (job : JobView) (c : Carrier) → places_as plan head job c ≡ places_as plan other job c
  places_alike_as {head = head} {other = other} alike job (Data m) =
      let s = job.place.symbol in
      ap (λ (n : ℕ). range_with_len ((s * n + m) * plan.width head) (length (plan.values head job))) alike.data_carriers
      ∙ (ap (λ (n : ℕ). range_with_len ((s * plan.data_carriers other + m) * n) (length (plan.values head job))) alike.width
      ∙ ap (λ (v : JobView → List V). range_with_len (place_by plan other s m) (length (v job))) alike.values)
  places_alike_as alike job (Pilot k) = refl

  kept_alike_as : {head other : H} → IsAlike plan head other → (job : JobView) (c : Carrier) → kept_as plan head job c ≡ kept_as plan other job c
  kept_alike_as alike job (Data m) = ap (λ (v : JobView → List V). v job) alike.values
  kept_alike_as alike job (Pilot k) = refl

  places_alike : {head other : H} → IsAlike plan head other → (jobs : List JobView)
      → flat_map (job_places plan head) jobs ≡ flat_map (job_places plan other) jobs
  places_alike alike [] = refl
  places_alike {head = head} {other = other} alike (job ∷ jobs) =
      let here : job_places plan head job ≡ job_places plan other job =
      ap (λ (k : ℕ → Carrier). places_as plan head job (k job.place.carrier)) alike.kind ∙ places_alike_as alike job (plan.kind other job.place.carrier) in
      ap (λ (ps : List ℕ). ps ++ flat_map (job_places plan head) jobs) here
      ∙ ap (λ (ps : List ℕ). job_places plan other job ++ ps) (places_alike alike jobs)

  kept_alike : {head other : H} → IsAlike plan head other → (jobs : List JobView)
      → flat_map (job_kept plan head) jobs ≡ flat_map (job_kept plan other) jobs
  kept_alike alike [] = refl
  kept_alike {head = head} {other = other} alike (job ∷ jobs) =
      let here : job_kept plan head job ≡ job_kept plan other job =
      ap (λ (k : ℕ → Carrier). kept_as plan head job (k job.place.carrier)) alike.kind ∙ kept_alike_as alike job (plan.kind other job.place.carrier) in
      ap (λ (vs : List V). vs ++ flat_map (job_kept plan head) jobs) here
      ∙ ap (λ (vs : List V). job_kept plan other job ++ vs) (kept_alike alike jobs)

  pub alike_tally : {head other : H} {jobs : List JobView} {n d p : ℕ} {places : List ℕ} {values : List V} → IsAlike plan head other
      → IsTally plan head jobs n d p places values → IsTally plan other jobs n d p places values
  alike_tally {jobs = jobs} alike is = record {
    count = is.count;
    of_data = is.of_data ∙ ap (λ (k : ℕ → Carrier). distances (filter (λ job. is_data (k job.place.carrier)) jobs)) alike.kind;
    of_pilots = is.of_pilots ∙ ap (λ (k : ℕ → Carrier). distances (filter (λ job. not (is_data (k job.place.carrier))) jobs)) alike.kind;
    places = is.places ∙ places_alike alike jobs;
    values = is.values ∙ kept_alike alike jobs;
    bounded = is.bounded;
  }

  -- with all of these jobs the frame has what they come to
  labels_job : (head : H) (job : JobView) (c : Carrier) (ps : List ℕ) (vs kept : List V)
      → put_on (places_as plan head job c ++ ps) (kept_as plan head job c ++ vs) kept ≡ put_on ps vs (labels_with plan head job c kept)
  labels_job head job (Data m) ps vs kept = put_all_on (place_by plan head job.place.symbol m) (plan.values head job) ps vs kept
  labels_job head job (Pilot k) ps vs kept = refl

  labels_put : (head : H) (jobs : List JobView) (kept : List V)
      → labels_after plan head jobs kept ≡ put_on (flat_map (job_places plan head) jobs) (flat_map (job_kept plan head) jobs) kept
  labels_put head [] kept = refl
  labels_put head (job ∷ jobs) kept =
      let c : Carrier = plan.kind head job.place.carrier in
      labels_put head jobs (labels_with plan head job c kept)
      ∙ sym (labels_job head job c (flat_map (job_places plan head) jobs) (flat_map (job_kept plan head) jobs) kept)

  tallied : (f : SoFar H V) (jobs : List JobView) (n s p : ℕ) (places : List ℕ) (values : List V) → IsTally plan f.head jobs n s p places values
      → with_all plan f jobs ≡ with_tally n s p places values f
  tallied f jobs n s p places values is =
      let h : H = f.head in
      let d = λ (j : JobView). (near j).distance in
      let sum : data_after plan h jobs f.data_sum ≡ f.data_sum + s =
      data_is plan h jobs f.data_sum
      ∙ (sum_by_from d f.data_sum (filter (on_data_by plan h) jobs) ∙ ap (λ (k : ℕ). f.data_sum + k) (sym is.of_data)) in
      let pilots : pilot_after plan h jobs f.pilot_sum ≡ f.pilot_sum + p =
      pilot_is plan h jobs f.pilot_sum
      ∙ (sum_by_from d f.pilot_sum (filter (λ j. not (on_data_by plan h j)) jobs) ∙ ap (λ (k : ℕ). f.pilot_sum + k) (sym is.of_pilots)) in
      let labels : labels_after plan h jobs f.labels ≡ put_on places values f.labels =
      labels_put h jobs f.labels
      ∙ (ap (λ (ps : List ℕ). put_on ps (flat_map (job_kept plan h) jobs) f.labels) (sym is.places)
      ∙ ap (λ (vs : List V). put_on places vs f.labels) (sym is.values)) in
      all_jobs plan jobs f
      ∙ (ap (λ (k : ℕ). parts plan h k (pilot_after plan h jobs f.pilot_sum) (labels_after plan h jobs f.labels) (f.left - length jobs)) sum
      ∙ (ap (λ (k : ℕ). parts plan h (f.data_sum + s) k (labels_after plan h jobs f.labels) (f.left - length jobs)) pilots
      ∙ (ap (λ (ls : List V). parts plan h (f.data_sum + s) (f.pilot_sum + p) ls (f.left - length jobs)) labels
      ∙ ap (λ (k : ℕ). parts plan h (f.data_sum + s) (f.pilot_sum + p) (put_on places values f.labels) (f.left - k)) (sym is.count))))

  module _ {R : Type 0} (begins : H → H) (result_of : SoFar H V → R) where
    abbrev fold : Fold (Headed H) H V R
    fold = fold_of plan begins result_of

    -- a frame that is under way goes on
    stays : (head : H) (f : SoFar H V) → 1 ≤ f.left → frame_for plan begins head f ≡ f
    stays head f some = ap (λ (b : Bool). if b then begun_by plan (begins head) else f) (some_left f.left some)

    goes_on : (head : H) (job : JobView) (f : SoFar H V) → 1 ≤ f.left → fold.step (headed_of head job) f ≡ with_kind_by plan job f
    goes_on head job f some = ap (with_kind_by plan job) (stays head f some)

    enters : (head : H) (job : JobView) (f g : SoFar H V) → g ≡ frame_for plan begins head f → 1 ≤ g.left
        → fold.step (headed_of head job) f ≡ fold.step (headed_of head job) g
    enters head job f g is some = ap (with_kind_by plan job) (sym is ∙ sym (stays head g some))

    -- it doesn't matter whether the frame that a block's first job begins was begun before
    pub entered : (head : H) (jobs : List JobView) (f g : SoFar H V) (more : List (Headed H)) → 1 ≤ length jobs → g ≡ frame_for plan begins head f → 1 ≤ g.left
        → results_by plan begins result_of f (headed_due (due_of head jobs) ++ more)
        ≡ results_by plan begins result_of g (headed_due (due_of head jobs) ++ more)
    entered head [] f g more some is left = absurd (omega (arith, some))
    entered head (job ∷ jobs) f g more some is left =
        ap (λ (z : SoFar H V). given_if fold z ++ results_by plan begins result_of z (headed_due (due_of head jobs) ++ more)) (enters head job f g is left)

    -- and with all jobs of a block comes the frame's result where its last one is among them
    pub taken : (head : H) (jobs : List JobView) (f g u : SoFar H V) (n s p : ℕ) (places : List ℕ) (values : List V) (last : Bool) (more : List (Headed H))
        → 1 ≤ length jobs → g ≡ frame_for plan begins head f → 1 ≤ g.left → n ≤ g.left → IsTally plan g.head jobs n s p places values
        → u ≡ with_tally n s p places values g → last ≡ (u.left == 0)
        → results_by plan begins result_of f (headed_due (due_of head jobs) ++ more)
        ≡ finished last (result_of u) ++ results_by plan begins result_of u more
    taken head jobs f g u n s p places values last more some is left few tally added over =
        let all : with_all plan g jobs ≡ u = tallied g jobs n s p places values tally ∙ sym added in
        let enough : length jobs ≤ g.left = omega (arith, few, tally.count) in
        entered head jobs f g more some is left
        ∙ (takes_all fold plan (headed_of head) (goes_on head) jobs g more some enough
        ∙ (ap (λ (z : SoFar H V). finished (z.left == 0) (result_of z) ++ results_by plan begins result_of z more) all
        ∙ ap (λ (b : Bool). finished b (result_of u) ++ results_by plan begins result_of u more) (sym over)))

    -- where no frame is under way, it doesn't matter which one was before
    begins_anew : (h : Headed H) (f g : SoFar H V) → f.left ≡ 0 → g.left ≡ 0 → fold.step h f ≡ fold.step h g
    begins_anew h f g none over =
        let start = begun_by plan (begins h.head) in
        ap (λ (n : ℕ). with_kind_by plan h.job (if n == 0 then start else f)) none
        ∙ sym (ap (λ (n : ℕ). with_kind_by plan h.job (if n == 0 then start else g)) over)

    pub anew : (f g : SoFar H V) (jobs : List (Headed H)) → f.left ≡ 0 → g.left ≡ 0
        → results_by plan begins result_of f jobs ≡ results_by plan begins result_of g jobs
    anew f g jobs none over = begins_alike fold f g (λ h. begins_anew h f g none over) jobs

-- the numbers of jobs don't matter
sum_alike : (b : Bool) (x y : JobView) (xs ys : List JobView) → (near x).distance ≡ (near y).distance → distances xs ≡ distances ys
    → distances (if b then x ∷ xs else xs) ≡ distances (if b then y ∷ ys else ys)
sum_alike true x y xs ys first rest =
    let d = λ (j : JobView). (near j).distance in
    sum_by-cons d x xs ∙ (ap (λ (n : ℕ). n + distances xs) first ∙ (ap (λ (n : ℕ). d y + n) rest ∙ sym (sum_by-cons d y ys)))
sum_alike false x y xs ys first rest = rest

sums_numbered : (p : JobView → Bool) → ((n : ℕ) (job : JobView) → p (with_number n job) ≡ p job) → (n : ℕ) (jobs : List JobView)
    → distances (filter p (numbered n jobs)) ≡ distances (filter p jobs)
sums_numbered p same n [] = refl
sums_numbered p same n (job ∷ jobs) =
    let x : JobView = with_number n job in
    let xs : List JobView = filter p (numbered (n + 1) jobs) in
    ap (λ (b : Bool). distances (if b then x ∷ xs else xs)) (same n job)
    ∙ sum_alike (p job) x job xs (filter p jobs) refl (sums_numbered p same (n + 1) jobs)

map_numbered : {V : Type 0} (f : JobView → List V) → ((n : ℕ) (job : JobView) → f (with_number n job) ≡ f job) → (n : ℕ) (jobs : List JobView)
    → flat_map f (numbered n jobs) ≡ flat_map f jobs
map_numbered f same n [] = refl
map_numbered f same n (job ∷ jobs) =
    ap (λ vs. vs ++ flat_map f (numbered (n + 1) jobs)) (same n job) ∙ ap (λ vs. f job ++ vs) (map_numbered f same (n + 1) jobs)

module _ {H V : Type 0} (plan : Plan H V) (head : H) (same : (n : ℕ) (job : JobView) → plan.values head (with_number n job) ≡ plan.values head job) where
  kept_same : (n : ℕ) (job : JobView) (c : Carrier) → kept_as plan head (with_number n job) c ≡ kept_as plan head job c
  kept_same n job (Data m) = same n job
  kept_same n job (Pilot k) = refl

  places_same : (n : ℕ) (job : JobView) (c : Carrier) → places_as plan head (with_number n job) c ≡ places_as plan head job c
  places_same n job (Data m) = ap (λ (vs : List V). range_with_len (place_by plan head job.place.symbol m) (length vs)) (same n job)
  places_same n job (Pilot k) = refl

  -- a tally of jobs under other numbers is theirs
  pub numberless : (k s p : ℕ) (places : List ℕ) (values : List V) (n : ℕ) (jobs : List JobView) → IsTally plan head (numbered n jobs) k s p places values
      → IsTally plan head jobs k s p places values
  numberless k s p places values n jobs is = record {
    count = is.count ∙ length_numbered n jobs;
    of_data = is.of_data ∙ sums_numbered (on_data_by plan head) (λ n job. refl) n jobs;
    of_pilots = is.of_pilots ∙ sums_numbered (λ j. not (on_data_by plan head j)) (λ n job. refl) n jobs;
    places = is.places ∙ map_numbered (job_places plan head) (λ n job. places_same n job (plan.kind head job.place.carrier)) n jobs;
    values = is.values ∙ map_numbered (job_kept plan head) (λ n job. kept_same n job (plan.kind head job.place.carrier)) n jobs;
    bounded = is.bounded;
  }
