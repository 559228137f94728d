-- What the jobs of one frame give: one result where they are all there, and none where some are missing.
use Rattle.std.proofs.Common.{◌≡◌, ℕ, suc, ◌-◌, ◌<◌, ◌≤◌, ◌==◌, List, [], ◌∷◌, ◌++◌, length, map, not, Bool, true, false}
use Rattle.std.proofs.Common.{if◌then◌else◌, refl, sym, ap, ◌∙◌, append_assoc, arith}
use Rattle.std.specs.List.{AllByRecursion, filter}
use Rattle.std.proofs.lemmas.Bool.Decides.{nat_tests}
use Rattle.std.proofs.Math.Nat.{le-max_left}
use Rattle.ht_metric.specs.Jobs.{JobView}
use Rattle.ht_results.specs.Plans.{Fold, Follows, HasIndices, IsPlaced, Plan, SoFar, begun_by, distances, given_from, given_if, jobs_by, kept_by_place}
use Rattle.ht_results.specs.Plans.{on_data_by, under_way, whole_by, with_kind_by}
use Rattle.ht_results.proofs.Places.{Rising}
use Rattle.ht_results.proofs.Placed.{kept_is}
use Rattle.ht_results.proofs.Steps.{all_jobs, data_is, labels_after, left_after, parts, pilot_after, pilot_is, with_all}

module _ {X H V R : Type 0} (fold : Fold X H V R) where
  -- the fold in two parts
  pub given_from-append : (f : SoFar H V) (xs ys : List X) → given_from fold f (xs ++ ys) ≡ given_from fold f xs ++ given_from fold (under_way fold f xs) ys
  given_from-append f [] ys = refl
  given_from-append f (x ∷ xs) ys =
      let next : SoFar H V = fold.step x f in
      ap (λ (rest : List R). given_if fold next ++ rest) (given_from-append next xs ys)
      ∙ sym (append_assoc (given_if fold next) (given_from fold next xs) (given_from fold (under_way fold next xs) ys))

  pub under_way-append : (f : SoFar H V) (xs ys : List X) → under_way fold f (xs ++ ys) ≡ under_way fold (under_way fold f xs) ys
  under_way-append f [] ys = refl
  under_way-append f (x ∷ xs) ys = under_way-append (fold.step x f) xs ys

  not_yet : (f : SoFar H V) → 1 ≤ f.left → given_if fold f ≡ []
  not_yet f some =
      let other : f.left == 0 ≡ false = grind (arith, nat_tests) in
      ap (λ (b : Bool). if b then fold.result f ∷ [] else []) other

  closes : (f : SoFar H V) → f.left ≡ 0 → given_if fold f ≡ fold.result f ∷ []
  closes f none =
      let last : f.left == 0 ≡ true = grind (arith, nat_tests) in
      ap (λ (b : Bool). if b then fold.result f ∷ [] else []) last

  module _ (plan : Plan H V) (headed : H → JobView → X) (head : H) (follows : Follows plan fold headed head) where
    -- fewer jobs than are still to come
    nothing_yet : (jobs : List JobView) (f : SoFar H V) → length jobs < f.left → given_from fold f (map (headed head) jobs) ≡ []
    nothing_yet [] f few = refl
    nothing_yet (job ∷ jobs) f few =
        let g : SoFar H V = with_kind_by plan job f in
        let left = left_after plan job f in
        let more : length jobs < g.left = omega (arith, few, left) in
        ap (λ (z : SoFar H V). given_if fold z ++ given_from fold z (map (headed head) jobs)) (follows.goes_on job f (omega (arith, few)))
        ∙ (ap (λ (z : List R). z ++ given_from fold g (map (headed head) jobs)) (not_yet g (omega (arith, more)))
        ∙ nothing_yet jobs g more)

    -- as many jobs as are still to come
    all_come : (job : JobView) (jobs : List JobView) (f : SoFar H V) → suc (length jobs) ≡ f.left
        → given_from fold f (map (headed head) (job ∷ jobs)) ≡ fold.result (with_all plan f (job ∷ jobs)) ∷ []
    all_come job [] f count =
        let g : SoFar H V = with_kind_by plan job f in
        let left = left_after plan job f in
        ap (λ (z : SoFar H V). given_if fold z ++ []) (follows.goes_on job f (omega (arith, count)))
        ∙ ap (λ (z : List R). z ++ []) (closes g (omega (arith, count, left)))
    all_come job (next ∷ jobs) f count =
        let g : SoFar H V = with_kind_by plan job f in
        let left = left_after plan job f in
        ap (λ (z : SoFar H V). given_if fold z ++ given_from fold z (map (headed head) (next ∷ jobs))) (follows.goes_on job f (omega (arith, count)))
        ∙ (ap (λ (z : List R). z ++ given_from fold g (map (headed head) (next ∷ jobs))) (not_yet g (omega (arith, count, left)))
        ∙ all_come next jobs g (omega (arith, count, left)))

    no_more : (jobs : List JobView) (f : SoFar H V) → length jobs ≡ f.left → (under_way fold f (map (headed head) jobs)).left ≡ 0
    no_more [] f count = omega (arith, count)
    no_more (job ∷ jobs) f count =
        let left = left_after plan job f in
        ap (λ (z : SoFar H V). (under_way fold z (map (headed head) jobs)).left) (follows.goes_on job f (omega (arith, count)))
        ∙ no_more jobs (with_kind_by plan job f) (omega (arith, count, left))

    -- the first job begins a frame
    begun : 1 ≤ (begun_by plan head).left
    begun = le-max_left 1 (jobs_by plan head)

    begins : (job : JobView) (g : SoFar H V) → g.left ≡ 0 → fold.step (headed head job) g ≡ fold.step (headed head job) (begun_by plan head)
    begins job g none = follows.begins job g none ∙ sym (follows.goes_on job (begun_by plan head) begun)

    begun_results : (jobs : List JobView) (g : SoFar H V) → g.left ≡ 0
        → given_from fold g (map (headed head) jobs) ≡ given_from fold (begun_by plan head) (map (headed head) jobs)
    begun_results [] g none = refl
    begun_results (job ∷ jobs) g none = ap (λ (z : SoFar H V). given_if fold z ++ given_from fold z (map (headed head) jobs)) (begins job g none)

    result_of_all : (jobs : List JobView) (f : SoFar H V) → 1 ≤ length jobs → length jobs ≡ f.left
        → given_from fold f (map (headed head) jobs) ≡ fold.result (with_all plan f jobs) ∷ []
    result_of_all [] f some count = absurd (omega (arith, some))
    result_of_all (job ∷ jobs) f some count = all_come job jobs f count

    -- what all jobs come to
    all_are : (jobs : List JobView) (from end : ℕ) → HasIndices plan head → length jobs ≡ (begun_by plan head).left
        → AllByRecursion (IsPlaced plan head) jobs → Rising (plan.subcarriers head) from end (map (λ (j : JobView). j.place) jobs)
        → with_all plan (begun_by plan head) jobs ≡ whole_by plan head jobs
    all_are jobs from end indices count at rising =
        let start : SoFar H V = begun_by plan head in
        let none : start.left - length jobs ≡ 0 = omega (arith, count) in
        let sum : ℕ = distances (filter (on_data_by plan head) jobs) in
        let pilots : ℕ = distances (filter (λ job. not (on_data_by plan head job)) jobs) in
        all_jobs plan jobs start
        ∙ (ap (λ (z : ℕ). parts plan head z (pilot_after plan head jobs 0) (labels_after plan head jobs start.labels) (start.left - length jobs))
        (data_is plan head jobs 0)
        ∙ (ap (λ (z : ℕ). parts plan head sum z (labels_after plan head jobs start.labels) (start.left - length jobs)) (pilot_is plan head jobs 0)
        ∙ (ap (λ (z : List V). parts plan head sum pilots z (start.left - length jobs)) (kept_is plan head indices jobs from end at rising)
        ∙ ap (parts plan head sum pilots (kept_by_place plan head jobs)) none)))

    pub all_give : (jobs : List JobView) (from end : ℕ) (g : SoFar H V) → HasIndices plan head → length jobs ≡ (begun_by plan head).left
        → AllByRecursion (IsPlaced plan head) jobs → Rising (plan.subcarriers head) from end (map (λ (j : JobView). j.place) jobs) → g.left ≡ 0
        → given_from fold g (map (headed head) jobs) ≡ fold.result (whole_by plan head jobs) ∷ []
    all_give jobs from end g indices count at rising none =
        let first = begun in
        begun_results jobs g none
        ∙ (result_of_all jobs (begun_by plan head) (omega (arith, count, first)) count
        ∙ ap (λ (z : SoFar H V). fold.result z ∷ []) (all_are jobs from end indices count at rising))

    pub all_end : (jobs : List JobView) (g : SoFar H V) → g.left ≡ 0 → length jobs ≡ (begun_by plan head).left
        → (under_way fold g (map (headed head) jobs)).left ≡ 0
    all_end [] g none count = none
    all_end (job ∷ jobs) g none count =
        ap (λ (z : SoFar H V). (under_way fold z (map (headed head) jobs)).left) (begins job g none) ∙ no_more (job ∷ jobs) (begun_by plan head) count

    -- some of its jobs
    pub part_gives : (jobs : List JobView) (g : SoFar H V) → g.left ≡ 0 → length jobs < (begun_by plan head).left
        → given_from fold g (map (headed head) jobs) ≡ []
    part_gives jobs g none few = begun_results jobs g none ∙ nothing_yet jobs (begun_by plan head) few
