-- One job more of a frame that is under way, for whatever is kept of jobs.
use Rattle.std.proofs.Common.{◌≡◌, ℕ, ◌==◌, ◌≤◌, List, [], ◌∷◌, ◌++◌, length, map, Bool, true, false, if◌then◌else◌}
use Rattle.std.proofs.Common.{refl, sym, ap, ◌∙◌, arith}
use Rattle.std.proofs.lemmas.Bool.Decides.{nat_tests}
use Rattle.ht_inverse.specs.declared.decoded.Decoded.{Decoded}
use Rattle.ht_metric.specs.Jobs.{JobView}
use Rattle.ht_results.specs.declared.frame_result.FrameResult.{FrameResult}
use Rattle.ht_results.specs.Plans.{Fold, Plan, SoFar, finished, given_from, given_if, with_kind_by}
use Rattle.ht_results.proofs.Steps.{left_after, with_all}

pub finished_if : {R : Type 0} (last : Bool) (result : R) → (if last then result ∷ [] else []) ≡ finished last result
finished_if true result = refl
finished_if false result = refl

module _ {X H V R : Type 0} (fold : Fold X H V R) where
  -- behind the hit of a job the frame is whole with its last one, and else goes on
  pub takes : (before after : SoFar H V) (last : Bool) (x : X) (more : List X) → after ≡ fold.step x before → last ≡ (after.left == 0)
      → given_from fold before (x ∷ more) ≡ finished last (fold.result after) ++ given_from fold after more
  takes before after last x more is left =
      ap (λ (f : SoFar H V). given_if fold f ++ given_from fold f more) (sym is)
      ∙ ap (λ (rs : List R). rs ++ given_from fold after more)
      (finished_if (after.left == 0) (fold.result after) ∙ ap (λ (b : Bool). finished b (fold.result after)) (sym left))

  -- frames behind which the next job does the same give the same results
  pub begins_alike : (f g : SoFar H V) → ((x : X) → fold.step x f ≡ fold.step x g) → (jobs : List X) → given_from fold f jobs ≡ given_from fold g jobs
  begins_alike f g same [] = refl
  begins_alike f g same (x ∷ xs) = ap (λ (z : SoFar H V). given_if fold z ++ given_from fold z xs) (same x)

-- some are left
pub some_left : (n : ℕ) → 1 ≤ n → n == 0 ≡ false
some_left n some = grind (arith, nat_tests)

-- jobs of the frame that is under way, no more than are still to come: its result comes with its last job
module _ {X H V R : Type 0} (fold : Fold X H V R) (plan : Plan H V) (headed : JobView → X)
    (goes_on : (job : JobView) (f : SoFar H V) → 1 ≤ f.left → fold.step (headed job) f ≡ with_kind_by plan job f) where
  pub takes_all : (jobs : List JobView) (f : SoFar H V) (more : List X) → 1 ≤ length jobs → length jobs ≤ f.left
      → given_from fold f (map headed jobs ++ more)
      ≡ finished ((with_all plan f jobs).left == 0) (fold.result (with_all plan f jobs)) ++ given_from fold (with_all plan f jobs) more
  takes_all [] f more some few = absurd (omega (arith, some))
  takes_all (job ∷ []) f more some few =
      let g : SoFar H V = with_kind_by plan job f in
      takes fold f g (g.left == 0) (headed job) more (sym (goes_on job f (omega (arith, few)))) refl
  takes_all (job ∷ next ∷ jobs) f more some few =
      let g : SoFar H V = with_kind_by plan job f in
      let rest : List X = map headed (next ∷ jobs) ++ more in
      let left = left_after plan job f in
      let other : g.left == 0 ≡ false = some_left g.left (omega (arith, few, left)) in
      takes fold f g (g.left == 0) (headed job) rest (sym (goes_on job f (omega (arith, few)))) refl
      ∙ (ap (λ (b : Bool). finished b (fold.result g) ++ given_from fold g rest) other
      ∙ takes_all (next ∷ jobs) g more (omega arith) (omega (arith, few, left)))

-- a frame of this number, whose labels are decoded so
module _ {H : Type 0} (number : H → ℕ) (decoded : H → List ℕ → Decoded) where
  abbrev by : SoFar H ℕ → Decoded → FrameResult
  by f d = record { frame = number f.head; data_sum = f.data_sum; pilot_sum = f.pilot_sum; code = d.code; outcome = d.outcome }

  abbrev come : H → ℕ → ℕ → List ℕ → FrameResult
  come h sums pilots labels = by (record { head = h; data_sum = sums; pilot_sum = pilots; labels = labels; left = 0 }) (decoded h labels)

  pub result_is : (f g : SoFar H ℕ) (d : Decoded) → g ≡ f → d ≡ decoded g.head g.labels → by g d ≡ by f (decoded f.head f.labels)
  result_is f g d same is = ap (λ (x : Decoded). by g x) is ∙ ap (λ (x : SoFar H ℕ). by x (decoded x.head x.labels)) same

  -- with the same head, sums and labels frames come to the same
  pub same_result : (f g : SoFar H ℕ) → f.head ≡ g.head → f.data_sum ≡ g.data_sum → f.pilot_sum ≡ g.pilot_sum → f.labels ≡ g.labels
      → by f (decoded f.head f.labels) ≡ by g (decoded g.head g.labels)
  same_result f g heads sums pilots labels =
      ap (λ (h : H). come h f.data_sum f.pilot_sum f.labels) heads
      ∙ (ap (λ (d : ℕ). come g.head d f.pilot_sum f.labels) sums
      ∙ (ap (λ (p : ℕ). come g.head g.data_sum p f.labels) pilots
      ∙ ap (λ (ls : List ℕ). come g.head g.data_sum g.pilot_sum ls) labels))
