-- Jobs under other numbers: how many they are, which one stands where, and that they are numbered so.
use Rattle.std.proofs.Common.{◌≡◌, ℕ, zero, suc, ◌+◌, List, [], ◌∷◌, length, refl, ap, ◌∙◌, arith}
use Rattle.std.specs.Prelude.{slice_get, option_map}
use Rattle.ht_pam.specs.declared.axes.Axes.{Axes}
use Rattle.ht_metric.specs.declared.place.Place.{Place}
use Rattle.ht_metric.specs.Rows.{Row}
use Rattle.ht_metric.specs.Jobs.{JobView}
use Rattle.ht_feed.specs.Items.{Numbered}
use Rattle.ht_feed.specs.Numbers.{numbered, with_number}

pub length_numbered : (n : ℕ) (jobs : List JobView) → length (numbered n jobs) ≡ length jobs
length_numbered n [] = refl
length_numbered n (job ∷ jobs) = let e = length_numbered (n + 1) jobs in omega (arith, e)

pub get_numbered : (n : ℕ) (jobs : List JobView) (k : ℕ) → slice_get (numbered n jobs) k ≡ option_map (with_number (n + k)) (slice_get jobs k)
get_numbered n [] k = refl
get_numbered n (job ∷ jobs) zero = let e : n ≡ n + 0 = omega arith in ap (λ m. option_map (with_number m) (slice_get (job ∷ jobs) 0)) e
get_numbered n (job ∷ jobs) (suc k) =
    let e : n + 1 + k ≡ n + suc k = omega arith in
    get_numbered (n + 1) jobs k ∙ ap (λ m. option_map (with_number m) (slice_get jobs k)) e

pub are_numbered : (n : ℕ) (jobs : List JobView) → Numbered n (numbered n jobs)
are_numbered n [] = tt
are_numbered n (job ∷ jobs) = (refl, are_numbered (n + 1) jobs)

-- the same job under another number, made of its parts
pub remade : (job : JobView) (n : ℕ) (place : Place) (grid : List Axes) (system : List Row) → place ≡ job.place → grid ≡ job.grid → system ≡ job.system
    → record { number = n; place = place; grid = grid; system = system } ≡ with_number n job
remade job n place grid system place_is grid_is system_is =
    let made : Place → List Axes → List Row → JobView = λ p g s. record { number = n; place = p; grid = g; system = s } in
    ap (λ p. made p grid system) place_is ∙ (ap (λ g. made job.place g system) grid_is ∙ ap (λ s. made job.place job.grid s) system_is)
