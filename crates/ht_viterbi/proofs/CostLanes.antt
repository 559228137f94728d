-- Vectors of 64 whole costs, lane by lane.
use Rattle.std.proofs.Common.{◌≡◌, ℕ, ◌+◌, ◌*◌, ◌/◌, ◌%◌, ◌<◌, ◌≤◌, ◌^◌, ◌-◌, List, ◌++◌, map, length, get_or, slice_index}
use Rattle.std.proofs.Common.{Bool, true, false, cond, eqb, nat_lt, inl, inr, refl, ap, sym, ◌∙◌, arith, T, w32}
use mathlib.Core.Bool.{xor}
use lib.Lanes.{zip2, sel_l, top, pick_l, all_below}
use Rattle.std.proofs.lemmas.Bool.{agree_below_at, cases_lt, eqb-true, le-ltb, lt-ltb}
use Rattle.ht_viterbi.specs.Lanes.{HasLanes, HaveRoom, IsLight, heaviest, pair_costs_of}
use Rattle.ht_viterbi.specs.Trellis.{StepCosts, bit_cost, branch_cost, lesser, moved, output_a, output_b, way}
use Rattle.ht_viterbi.specs.declared.cost_lanes.TheConstants.{AFTER_ONE, CODED_AT_ONE, CODED_AT_ZERO}
use Rattle.ht_viterbi.proofs.LaneFacts.{pick-lanes, select-lanes, zip2-lanes}
use Rattle.ht_viterbi.proofs.Raised.{way-lanes}

pub after_one-at : (k : ℕ) → k < 64 → get_or AFTER_ONE k 0 ≡ k / 2 + 32
after_one-at k lt = eqb-true (get_or AFTER_ONE k 0) (k / 2 + 32) (agree_below_at (λ n. eqb (get_or AFTER_ONE n 0) (n / 2 + 32)) (λ _. true) 64 k refl lt)

-- two coded bits as a number
abbrev number : Bool → Bool → ℕ
number false false = 0
number false true = 1
number true false = 2
number true true = 3

-- the numbers of the coded bits by an input bit, for each state
abbrev pub HasCoded : List ℕ → Bool → Type 0
HasCoded ks bit = (k : ℕ) → k < 64 → get_or ks k 0 ≡ number (output_a k bit) (output_b k bit)

pub coded_at_zero : HasCoded CODED_AT_ZERO false
unfolding output_a output_b xor
coded_at_zero k lt =
    eqb-true (get_or CODED_AT_ZERO k 0) (number (output_a k false) (output_b k false))
    (agree_below_at (λ n. eqb (get_or CODED_AT_ZERO n 0) (number (output_a n false) (output_b n false))) (λ _. true) 64 k refl lt)

pub coded_at_one : HasCoded CODED_AT_ONE true
unfolding output_a output_b xor
coded_at_one k lt =
    eqb-true (get_or CODED_AT_ONE k 0) (number (output_a k true) (output_b k true))
    (agree_below_at (λ n. eqb (get_or CODED_AT_ONE n 0) (number (output_a n true) (output_b n true))) (λ _. true) 64 k refl lt)

picked : (step : StepCosts) (a b : Bool) → slice_index (pair_costs_of step) (number a b) ≡ bit_cost step.0 a + bit_cost step.1 b
picked step false false = refl
picked step false true = refl
picked step true false = refl
picked step true true = refl

-- a gather of the costs of pairs
pub pick-costs : (bit : Bool) (ks pairs : List ℕ) → length ks ≡ 64 → T (all_below 4 ks) → HasCoded ks bit
    → (step : StepCosts) → pairs ≡ pair_costs_of step → HasLanes (pick_l 0 (pairs ++ pairs) ks) (λ k. branch_cost step k bit)
unfolding branch_cost
pick-costs bit ks pairs many within coded step is =
    let lanes = pick-lanes 4 pairs ks (λ k. number (output_a k bit) (output_b k bit)) (ap (λ (v : List ℕ). length v) is) many within coded in
    record {
      count = lanes.count;
      lane = λ k lt.
          lanes.lane k lt
          ∙ (ap (λ (v : List ℕ). slice_index v (number (output_a k bit) (output_b k bit))) is ∙ picked step (output_a k bit) (output_b k bit));
    }

-- the ways by an input bit: the costs of the states after it, and those of the coded bits
pub ways-are : (bit : Bool) (after coded costs pairs : List ℕ) → length after ≡ 64 → T (all_below 64 after) → length coded ≡ 64 → T (all_below 4 coded)
    → HasCoded coded bit → ((k : ℕ) → k < 64 → get_or after k 0 ≡ moved k bit) → length costs ≡ 64 → HaveRoom costs
    → (step : StepCosts) → IsLight (2 * heaviest) step → pairs ≡ pair_costs_of step
    → HasLanes (zip2 (λ a b. (a + b) % 2 ^ 32) (pick_l 0 (costs ++ costs) after) (pick_l 0 (pairs ++ pairs) coded)) (λ k. way (slice_index costs) step k bit)
ways-are bit after coded costs pairs many inside all within gives moves long room step light is =
    let afters = pick-lanes 64 costs after (λ k. moved k bit) long many inside moves in
    let added = pick-costs bit coded pairs all within gives step is in
    let a = pick_l 0 (costs ++ costs) after in
    let b = pick_l 0 (pairs ++ pairs) coded in
    let sums = zip2-lanes (λ x y. (x + y) % 2 ^ 32) a b afters.count added.count in
    way-lanes bit costs a b (zip2 (λ x y. (x + y) % 2 ^ 32) a b) step room light afters added sums

-- what the coded bits cost, by a state that gives them at a 0
pub pair-light : (most : ℕ) (step : StepCosts) → IsLight most step → (a b : Bool) → bit_cost step.0 a + bit_cost step.1 b ≤ most
unfolding branch_cost output_a output_b xor
pair-light most step light false false = light 0 false
pair-light most step light false true = light 3 false
pair-light most step light true false = light 2 false
pair-light most step light true true = light 1 false

-- the lesser of two numbers, whichever way they are compared
lesser-of : (a b : ℕ) → cond (nat_lt a b) a b ≡ lesser true a b
lesser-of a b = elim (cases_lt a b) [
  | inl less ↦ ap (λ (t : Bool). cond t a b) (lt-ltb a b less) ∙ sym (ap (λ (t : Bool). cond t b a) (le-ltb b a (omega arith)))
  | inr more ↦ elim (cases_lt b a) [
    | inl less ↦ ap (λ (t : Bool). cond t a b) (le-ltb a b more) ∙ sym (ap (λ (t : Bool). cond t b a) (lt-ltb b a less))
    | inr same ↦
        let e : b ≡ a = omega arith in
        ap (λ (t : Bool). cond t a b) (le-ltb a b more) ∙ (e ∙ sym (ap (λ (t : Bool). cond t b a) (le-ltb b a same)))
  ]
]

pub lesser-lanes : (zero one : List ℕ) → length zero ≡ 64 → length one ≡ 64
    → HasLanes (sel_l (map (top 31) (zip2 (λ x y. cond (nat_lt x y) (2 ^ 32 - 1) 0) zero one)) zero one)
    (λ k. lesser true (slice_index zero k) (slice_index one k))
lesser-lanes zero one lz lo =
    let selected = select-lanes w32 nat_lt zero one zero one lz lo lz lo in
    record {
      count = selected.count;
      lane = λ k lt. selected.lane k lt ∙ lesser-of (slice_index zero k) (slice_index one k);
    }
