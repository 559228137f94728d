-- How much the jobs of a list weigh, as lists change.
use Rattle.std.proofs.Common.{◌≡◌, ℕ, zero, suc, ◌+◌, ◌<◌, List, [], ◌∷◌, ◌++◌, length, drop, get_or, Bool, true, false, cond, refl, ap, ◌∙◌, arith}
use Rattle.std.specs.Prelude.{slice_get, slice_set, Some}
use Rattle.std.specs.List.{sum_by, flat_map}
use Rattle.std.specs.Option.{option_to_list}
use Rattle.std.proofs.lemmas.List.Sums.{sum_by-append, sum_by-cons}
use Rattle.ht_metric.specs.Jobs.{JobView}
use Rattle.ht_metric.specs.declared.hit.Hit.{Hit}
use Rattle.ht_machine.specs.Machine.{MachineView, has_number, hit_of, without}
use Rattle.ht_machine.specs.Facts.{jobs_of, places}
use Rattle.ht_machine.proofs.Lists.{jobs_append}

-- in a list of groups one group is another
pub weigh_put : {X : Type 0} (h : JobView → ℕ) (f : X → List JobView) (xs : List X) (a : ℕ) (x d : X) → a < length xs
    → sum_by h (flat_map f (slice_set xs a x)) + sum_by h (f (get_or xs a d)) ≡ sum_by h (flat_map f xs) + sum_by h (f x)
weigh_put h f [] a x d lt = absurd (omega (arith, lt))
weigh_put h f (y ∷ ys) zero x d lt = omega (arith, sum_by-append h (f x) (flat_map f ys), sum_by-append h (f y) (flat_map f ys))
weigh_put h f (y ∷ ys) (suc a) x d lt =
    let rest = weigh_put h f ys a x d (omega (arith, lt)) in
    omega (arith, rest, sum_by-append h (f y) (flat_map f (slice_set ys a x)), sum_by-append h (f y) (flat_map f ys))

-- a list is its front and the rest
pub weigh_front : (h : JobView → ℕ) (jobs : List JobView) → sum_by h (option_to_list (slice_get jobs 0)) + sum_by h (drop 1 jobs) ≡ sum_by h jobs
weigh_front h [] = refl
weigh_front h (x ∷ xs) = omega (arith, sum_by-cons h x xs)

-- hits are one of them and the others
without_from : (b : Bool) (h : JobView → ℕ) (n : ℕ) (hit : Hit) (hits : List Hit)
    → sum_by h (jobs_of (without n hits)) + sum_by h (jobs_of (option_to_list (hit_of n hits))) ≡ sum_by h (jobs_of hits)
    → sum_by h (jobs_of (cond b hits (hit ∷ without n hits))) + sum_by h (jobs_of (option_to_list (cond b (Some hit) (hit_of n hits))))
    ≡ sum_by h (jobs_of (hit ∷ hits))
without_from true h n hit hits rest = omega (arith, sum_by-cons h hit.job (jobs_of hits))
without_from false h n hit hits rest = omega (arith, rest, sum_by-cons h hit.job (jobs_of hits), sum_by-cons h hit.job (jobs_of (without n hits)))

pub weigh_without : (h : JobView → ℕ) (n : ℕ) (hits : List Hit)
    → sum_by h (jobs_of (without n hits)) + sum_by h (jobs_of (option_to_list (hit_of n hits))) ≡ sum_by h (jobs_of hits)
weigh_without h n [] = refl
weigh_without h n (hit ∷ hits) = without_from (has_number n hit) h n hit hits (weigh_without h n hits)

pub weigh_jobs : (h : JobView → ℕ) (xs ys : List Hit) → sum_by h (jobs_of (xs ++ ys)) ≡ sum_by h (jobs_of xs) + sum_by h (jobs_of ys)
weigh_jobs h xs ys = ap (λ (js : List JobView). sum_by h js) (jobs_append xs ys) ∙ sum_by-append h (jobs_of xs) (jobs_of ys)

-- what all places weigh is what each weighs
pub weigh_places : (h : JobView → ℕ) (c : MachineView) → sum_by h (places c)
    ≡ sum_by h (flat_map option_to_list c.hands)
    + (sum_by h (flat_map (λ jobs. jobs) c.deques) + (sum_by h (jobs_of c.results) + (sum_by h (jobs_of c.booked) + sum_by h (jobs_of c.emitted))))
weigh_places h c =
    let hands = flat_map option_to_list c.hands in
    let deques = flat_map (λ (jobs : List JobView). jobs) c.deques in
    let results = jobs_of c.results in
    let booked = jobs_of c.booked in
    let emitted = jobs_of c.emitted in
    let all : sum_by h (places c) ≡ sum_by h (hands ++ deques ++ results ++ booked) + sum_by h emitted =
    sum_by-append h (hands ++ deques ++ results ++ booked) emitted in
    omega (arith, all, sum_by-append h (hands ++ deques ++ results) booked, sum_by-append h (hands ++ deques) results, sum_by-append h hands deques)
