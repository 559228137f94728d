-- The least costs over a stretch of steps: from no state do they fall by more than twelve below that of state 0, and
-- from state 0 they grow by two a step at most.
use Rattle.std.proofs.Common.{◌≡◌, ℕ, zero, suc, ◌+◌, ◌-◌, ◌*◌, ◌<◌, ◌≤◌, List, ◌∷◌, length, refl, sym, ap, subst, arith}
use Rattle.std.proofs.Common.{slice_index}
use Rattle.ht_viterbi.specs.Lanes.{pair_of_number, row_costs, steps_at}
use Rattle.ht_viterbi.specs.Trellis.{StepCosts, moved, way, is_free, least_from, chosen_at}
use Rattle.ht_viterbi.proofs.Nearest.{lesser_is}
use Rattle.ht_viterbi.proofs.RowFacts.{hard-light, light-steps, steps-cons}
use Rattle.ht_viterbi.proofs.Spread.{first-grows, spread}
use Rattle.ht_viterbi.proofs.Steps.{moved-lt}

-- no step brings all least costs down
rises : (pairs : List StepCosts) (pair : StepCosts) (distance : ℕ) → ((s : ℕ) → s < 64 → distance ≤ least_from pairs s + 12)
    → (k : ℕ) → k < 64 → distance ≤ least_from (pair ∷ pairs) k + 12
rises pairs pair distance floor k lt =
    let bit = chosen_at pairs pair k in
    let is : least_from (pair ∷ pairs) k ≡ way (least_from pairs) pair k bit = lesser_is (is_free (length pairs)) (way (least_from pairs) pair k) bit refl in
    omega (arith, is, floor (moved k bit) (moved-lt k bit lt))

floor : (rows : List ℕ) (distance n from : ℕ) → from + n ≤ length rows
    → ((s : ℕ) → s < 64 → distance ≤ least_from (steps_at rows (from + n)) s + 12)
    → (k : ℕ) → k < 64 → distance ≤ least_from (steps_at rows from) k + 12
floor rows distance zero from within was k lt =
    let none : from + 0 ≡ from = omega arith in
    subst (λ (at : ℕ). distance ≤ least_from (steps_at rows at) k + 12) none (was k lt)
floor rows distance (suc n) from within was k lt =
    let next : from + suc n ≡ from + 1 + n = omega arith in
    let above = floor rows distance n (from + 1) (omega arith)
    (λ s low. subst (λ (at : ℕ). distance ≤ least_from (steps_at rows at) s + 12) next (was s low)) in
    subst (λ (ps : List StepCosts). distance ≤ least_from ps k + 12) (sym (steps-cons rows from (omega arith)))
    (rises (steps_at rows (from + 1)) (row_costs (slice_index rows from)) distance above k lt)

ceiling : (rows : List ℕ) (n from : ℕ) → from + n ≤ length rows
    → least_from (steps_at rows from) 0 ≤ least_from (steps_at rows (from + n)) 0 + 2 * n
ceiling rows zero from within =
    let none : from + 0 ≡ from = omega arith in
    let same = ap (λ (at : ℕ). least_from (steps_at rows at) 0) none in
    omega (arith, same)
ceiling rows (suc n) from within =
    let next : from + suc n ≡ from + 1 + n = omega arith in
    let same = ap (λ (at : ℕ). least_from (steps_at rows at) 0) next in
    let above = ceiling rows n (from + 1) (omega arith) in
    let grows = (first-grows 2 (steps_at rows (from + 1)) (row_costs (slice_index rows from))
    (hard-light (pair_of_number (slice_index rows from)), light-steps rows (from + 1))).0 in
    let here = ap (λ (ps : List StepCosts). least_from ps 0) (steps-cons rows from (omega arith)) in
    omega (arith, same, above, grows, here)

-- the least cost from state 0 before a stretch, against that behind it
pub stretched : (rows : List ℕ) (from to : ℕ) → from ≤ to → to ≤ length rows
    → (least_from (steps_at rows from) 0 ≤ least_from (steps_at rows to) 0 + 2 * (to - from))
    × (least_from (steps_at rows to) 0 ≤ least_from (steps_at rows from) 0 + 12)
stretched rows from to order within =
    let n = to - from in
    let there : from + n ≡ to = omega arith in
    let up = ceiling rows n from (omega arith) in
    let same = ap (λ (at : ℕ). least_from (steps_at rows at) 0) there in
    let low : (s : ℕ) → s < 64 → least_from (steps_at rows to) 0 ≤ least_from (steps_at rows (from + n)) s + 12 =
    λ s lt. let at = ap (λ (k : ℕ). least_from (steps_at rows k) s) there in omega
    (arith, at, spread 2 (steps_at rows to) 0 s (light-steps rows to) (omega arith) lt) in
    (omega (arith, up, same), floor rows (least_from (steps_at rows to) 0) n from (omega arith) low 0 (omega arith))
