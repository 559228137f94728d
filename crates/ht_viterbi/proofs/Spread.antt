-- The least costs from two states lie at most six times as far apart as a step costs: in six steps of the same bits
-- both come to the same state.
use Rattle.std.proofs.Common.{◌≡◌, ℕ, zero, suc, ◌+◌, ◌*◌, ◌/◌, ◌<◌, ◌≤◌, List, [], ◌∷◌, length, Bool, true, false, refl, ap, arith}
use Rattle.ht_viterbi.specs.Trellis.{StepCosts, moved, way, is_free, least_from, chosen_at}
use Rattle.ht_viterbi.specs.Lanes.{IsClose, IsLight}
use Rattle.ht_viterbi.proofs.Nearest.{lesser_least, lesser_is, not_chosen}
use Rattle.ht_viterbi.proofs.Steps.{moved-lt}

-- steps that cost at most `most` each
abbrev pub AreLight : ℕ → List StepCosts → Type 0
AreLight most [] = Unit {0}
AreLight most (step ∷ steps) = IsLight most step × AreLight most steps

-- two states that come to one state in this many steps of the same bits
Alike : ℕ → ℕ → ℕ → Type 0
Alike zero s t = s ≡ t
Alike (suc n) s t = (bit : Bool) → Alike n (moved s bit) (moved t bit)

-- a number halved `count` times
abbrev halved : ℕ → ℕ → ℕ
halved zero n = n
halved (suc times) n = halved times (n / 2)

raised : (times m n : ℕ) → times ≤ 5 → halved times m ≡ halved times n → halved times (m + 32) ≡ halved times (n + 32)
raised zero m n few same = omega arith
raised (suc zero) m n few same = omega arith
raised (suc (suc zero)) m n few same = omega arith
raised (suc (suc (suc zero))) m n few same = omega arith
raised (suc (suc (suc (suc zero)))) m n few same = omega arith
raised (suc (suc (suc (suc (suc zero))))) m n few same = omega arith
raised (suc (suc (suc (suc (suc (suc times)))))) m n few same = absurd (omega arith)

-- one step more, if the states come together after either bit
alike-more : (times s t : ℕ) → Alike times (s / 2) (t / 2) → Alike times (s / 2 + 32) (t / 2 + 32) → (bit : Bool) → Alike times (moved s bit) (moved t bit)
alike-more times s t after_zero after_one false = after_zero
alike-more times s t after_zero after_one true = after_one

alike : (times s t : ℕ) → times ≤ 6 → halved times s ≡ halved times t → Alike times s t
unfolding Alike
alike zero s t few same = same
alike (suc times) s t few same =
    alike-more times s t (alike times (s / 2) (t / 2) (omega arith) same)
    (alike times (s / 2 + 32) (t / 2 + 32) (omega arith) (raised times (s / 2) (t / 2) (omega arith) same))

-- what this many steps cost at most
abbrev steps_cost : ℕ → ℕ → ℕ
steps_cost most zero = 0
steps_cost most (suc n) = most + steps_cost most n

spread-alike : (most n : ℕ) (pairs : List StepCosts) (s t : ℕ) → AreLight most pairs → Alike n s t
    → least_from pairs s ≤ steps_cost most n + least_from pairs t
unfolding Alike
spread-alike most zero pairs s t light same = let e : least_from pairs s ≡ least_from pairs t = ap (least_from pairs) same in omega arith
spread-alike most (suc n) [] s t light same = omega arith
spread-alike most (suc n) (pair ∷ pairs) s t light same =
    let free = is_free (length pairs) in
    let bit = chosen_at pairs pair t in
    let there : least_from (pair ∷ pairs) t ≡ way (least_from pairs) pair t bit = lesser_is free (way (least_from pairs) pair t) bit refl in
    let here : least_from (pair ∷ pairs) s ≤ way (least_from pairs) pair s bit =
    lesser_least free bit (way (least_from pairs) pair s) (λ none. not_chosen free _ _ none) in
    let rest : least_from pairs (moved s bit) ≤ steps_cost most n + least_from pairs (moved t bit) = spread-alike most n pairs (moved s bit)
    (moved t bit) light.1 (same bit) in
    omega (arith, there, here, rest, light.0 s bit)

pub spread : (most : ℕ) (pairs : List StepCosts) (s t : ℕ) → AreLight most pairs → s < 64 → t < 64 → least_from pairs s ≤ 6 * most + least_from pairs t
spread most pairs s t light ls lt = let far = spread-alike most 6 pairs s t light (alike 6 s t (omega arith) (omega arith)) in omega (arith, far)

pub ways-close : (pairs : List StepCosts) (pair : StepCosts) → AreLight 2 (pair ∷ pairs) → IsClose (least_from pairs) pair
ways-close pairs pair light k lt =
    let one = light.0 k true in
    let none = light.0 k false in
    let up = spread 2 pairs (moved k false) (moved k true) light.1 (moved-lt k false lt) (moved-lt k true lt) in
    let down = spread 2 pairs (moved k true) (moved k false) light.1 (moved-lt k true lt) (moved-lt k false lt) in
    (omega (arith, one, none, up, down), omega (arith, one, none, up, down))

-- the least cost from state 0 grows by what a step costs at most, and falls by six times as much at most
pub first-grows : (most : ℕ) (pairs : List StepCosts) (pair : StepCosts) → AreLight most (pair ∷ pairs)
    → (least_from (pair ∷ pairs) 0 ≤ least_from pairs 0 + most) × (least_from pairs 0 ≤ least_from (pair ∷ pairs) 0 + 6 * most)
first-grows most pairs pair light =
    let free = is_free (length pairs) in
    let bit = chosen_at pairs pair 0 in
    let is : least_from (pair ∷ pairs) 0 ≡ way (least_from pairs) pair 0 bit = lesser_is free (way (least_from pairs) pair 0) bit refl in
    let stays : least_from (pair ∷ pairs) 0 ≤ way (least_from pairs) pair 0 false = lesser_least free false (way (least_from pairs) pair 0) (λ none. refl) in
    let back = spread most pairs 0 (moved 0 bit) light.1 (omega arith) (moved-lt 0 bit (omega arith)) in
    (omega (arith, stays, light.0 0 false), omega (arith, is, back))
