-- The trellis gives the first cheapest of the terminated inputs.
use Rattle.std.proofs.Common.{◌≡◌, ◌⊎◌, ℕ, ◌+◌, ◌-◌, ◌<◌, ◌≤◌, suc, List, [], ◌∷◌, length, drop, Bool, true}
use Rattle.std.proofs.Common.{false, refl, ap, sym, ◌∙◌, subst, arith, inl, inr, not, true≢false, ◌==◌}
use Rattle.std.specs.Prelude.{IsTrue}
use Rattle.std.specs.List.{list_all}
use Rattle.std.proofs.lemmas.Bool.{and_parts, and_from, not-true, not_from_false, eqb-true, eq-eqb, cases_lt}
use Rattle.std.proofs.lemmas.Bool.Decides.{nat_tests}
use Rattle.ht_viterbi.specs.Inputs.{is_terminated, is_before}
use Rattle.ht_viterbi.specs.Trellis.{StepCosts, moved, branch_cost, chosen, lesser, is_free, way, least_from, chosen_at, first_from}

-- what an input costs along the trellis, from a state on
abbrev pub cost_from : List StepCosts → ℕ → List Bool → ℕ
cost_from [] state bits = 0
cost_from (pair ∷ pairs) state [] = 0
cost_from (pair ∷ pairs) state (bit ∷ bits) = branch_cost pair state bit + cost_from pairs (moved state bit) bits

-- the last six bits are 0
abbrev pub Ends : List Bool → Type 0
Ends [] = Unit {0}
Ends (bit ∷ bits) = (length bits < 6 → bit ≡ false) × Ends bits

drop-few : (bits : List Bool) → length bits ≤ 6 → drop (length bits - 6) bits ≡ bits
drop-few bits few = let none : length bits - 6 ≡ 0 = omega arith in ap (λ (n : ℕ). drop n bits) none

drop-more : (bit : Bool) (bits : List Bool) → 6 ≤ length bits → drop (suc (length bits) - 6) (bit ∷ bits) ≡ drop (length bits - 6) bits
drop-more bit bits many = let one : suc (length bits) - 6 ≡ suc (length bits - 6) = omega arith in ap (λ (n : ℕ). drop n (bit ∷ bits)) one

drop-all : (bit : Bool) (bits : List Bool) → length bits < 6 → drop (suc (length bits) - 6) (bit ∷ bits) ≡ bit ∷ bits
drop-all bit bits few = drop-few (bit ∷ bits) (omega arith)

pub ends-test : (bits : List Bool) → list_all not (drop (length bits - 6) bits) ≡ true → Ends bits
ends-test [] e = tt
ends-test (bit ∷ bits) e = elim (cases_lt (length bits) 6) [
  | inl few ↦
      let parts = and_parts (not bit) (list_all not bits) (sym (ap (λ (z : List Bool). list_all not z) (drop-all bit bits few)) ∙ e) in
      ((λ _. not-true bit parts.0), ends-test bits (ap (λ (z : List Bool). list_all not z) (drop-few bits (omega arith)) ∙ parts.1))
  | inr many ↦ ((λ few. absurd (omega arith)), ends-test bits (sym (ap (λ (z : List Bool). list_all not z) (drop-more bit bits many)) ∙ e))
]

pub test-ends : (bits : List Bool) → Ends bits → list_all not (drop (length bits - 6) bits) ≡ true
test-ends [] ends = refl
test-ends (bit ∷ bits) ends = elim (cases_lt (length bits) 6) [
  | inl few ↦
      ap (λ (z : List Bool). list_all not z) (drop-all bit bits few)
      ∙ and_from (not bit) (list_all not bits) (not_from_false bit (ends.0 few))
      (sym (ap (λ (z : List Bool). list_all not z) (drop-few bits (omega arith))) ∙ test-ends bits ends.1)
  | inr many ↦ ap (λ (z : List Bool). list_all not z) (drop-more bit bits many) ∙ test-ends bits ends.1
]

pub terminated-parts : (steps : ℕ) (input : List Bool) → IsTrue (is_terminated steps input) → (length input ≡ steps) × Ends input
unfolding is_terminated
terminated-parts steps input within =
    let parts = and_parts (length input == steps) (list_all not (drop (steps - 6) input)) within in
    let same : length input ≡ steps = eqb-true (length input) steps parts.0 in
    (same, ends-test input (ap (λ (n : ℕ). list_all not (drop (n - 6) input)) same ∙ parts.1))

pub terminated-from : (steps : ℕ) (input : List Bool) → length input ≡ steps → Ends input → IsTrue (is_terminated steps input)
unfolding is_terminated
terminated-from steps input same ends =
    and_from (length input == steps) (list_all not (drop (steps - 6) input)) (eq-eqb (length input) steps same)
    (sym (ap (λ (n : ℕ). list_all not (drop (n - 6) input)) same) ∙ test-ends input ends)

before-cases : (a b : Bool) (u v : List Bool) → IsTrue (is_before (a ∷ u) (b ∷ v)) → ((a ≡ false) × (b ≡ true)) ⊎ ((a ≡ b) × IsTrue (is_before u v))
unfolding is_before
before-cases false false u v before = inr (refl, before)
before-cases false true u v before = inl (refl, refl)
before-cases true false u v before = absurd (true≢false (sym before))
before-cases true true u v before = inr (refl, before)

-- what is taken is the lesser of what may be taken
pub lesser_least : (free bit : Bool) (ways : Bool → ℕ) → (free ≡ false → bit ≡ false) → lesser free (ways false) (ways true) ≤ ways bit
lesser_least false false ways may = omega arith
lesser_least false true ways may = absurd (true≢false (may refl))
lesser_least true false ways may = grind (arith, nat_tests)
lesser_least true true ways may = grind (arith, nat_tests)

-- it is the way of the chosen bit
pub lesser_is : (free : Bool) (ways : Bool → ℕ) (bit : Bool) → chosen free (ways false) (ways true) ≡ bit → lesser free (ways false) (ways true) ≡ ways bit
lesser_is free ways false e = rw e refl
lesser_is free ways true e = rw e refl

-- a 1 is strictly cheaper
chosen_one : (free : Bool) (a b : ℕ) → chosen free a b ≡ true → (free ≡ true) × (b < a)
chosen_one false a b e = absurd (true≢false (sym e))
chosen_one true a b e = (refl, grind (arith, nat_tests))

few_not_free : (n : ℕ) → n < 6 → is_free n ≡ false
few_not_free n few = grind (arith, nat_tests)

not_free_few : (n : ℕ) → is_free n ≡ false → n < 6
not_free_few n e = grind (arith, nat_tests)

pub first-length : (pairs : List StepCosts) (state : ℕ) → length (first_from pairs state) ≡ length pairs
first-length [] state = refl
first-length (pair ∷ pairs) state = ap suc (first-length pairs _)

pub first-least : (pairs : List StepCosts) (state : ℕ) → cost_from pairs state (first_from pairs state) ≡ least_from pairs state
first-least [] state = refl
first-least (pair ∷ pairs) state =
    ap (λ n. branch_cost pair state (chosen_at pairs pair state) + n) (first-least pairs (moved state (chosen_at pairs pair state)))
    ∙ sym (lesser_is (is_free (length pairs)) (way (least_from pairs) pair state) (chosen_at pairs pair state) refl)

pub not_chosen : (free : Bool) (a b : ℕ) → free ≡ false → chosen free a b ≡ false
not_chosen free a b e = rw e refl

pub first-ends : (pairs : List StepCosts) (state : ℕ) → Ends (first_from pairs state)
first-ends [] state = tt
first-ends (pair ∷ pairs) state =
    let bit = chosen_at pairs pair state in (
      (λ few. not_chosen (is_free (length pairs)) _ _ (few_not_free (length pairs) (omega (arith, first-length pairs (moved state bit))))),
      first-ends pairs (moved state bit),
    )

pub least-cheapest : (pairs : List StepCosts) (state : ℕ) (other : List Bool) → length other ≡ length pairs
    → Ends other → least_from pairs state ≤ cost_from pairs state other
least-cheapest [] state other len ends = omega arith
least-cheapest (pair ∷ pairs) state [] len ends = absurd (omega arith)
least-cheapest (pair ∷ pairs) state (bit ∷ bits) len ends =
    let rest = least-cheapest pairs (moved state bit) bits (omega arith) ends.1 in
    let here = lesser_least (is_free (length pairs)) bit (way (least_from pairs) pair state)
    (λ none. ends.0 (omega (arith, not_free_few (length pairs) none))) in
    omega (arith, rest, here)

pub first-first : (pairs : List StepCosts) (state : ℕ) (other : List Bool)
    → length other ≡ length pairs → Ends other → IsTrue (is_before other (first_from pairs state))
    → least_from pairs state < cost_from pairs state other
unfolding is_before
first-first [] state [] len ends before = absurd (true≢false (sym before))
first-first [] state (bit ∷ bits) len ends before = absurd (omega arith)
first-first (pair ∷ pairs) state [] len ends before = absurd (omega arith)
first-first (pair ∷ pairs) state (bit ∷ bits) len ends before =
    let ways : Bool → ℕ = way (least_from pairs) pair state in
    let free = is_free (length pairs) in
    let taken = lesser_is free ways (chosen_at pairs pair state) refl in
    elim (before-cases bit (chosen_at pairs pair state) bits (first_from pairs (moved state (chosen_at pairs pair state))) before) [
      | inl at ↦
          let one = chosen_one free (ways false) (ways true) at.1 in
          let same : lesser free (ways false) (ways true) ≡ ways true = lesser_is free ways true at.1 in
          let rest : least_from pairs (moved state false) ≤ cost_from pairs (moved state false) bits =
          least-cheapest pairs (moved state false) bits (omega arith) ends.1 in
          rw at.0 (omega (arith, one.1, same, rest))
      | inr at ↦
          let rest : least_from pairs (moved state bit) < cost_from pairs (moved state bit) bits =
          first-first pairs (moved state bit) bits (omega arith) ends.1
          (subst (λ (b : Bool). IsTrue (is_before bits (first_from pairs (moved state b)))) (sym at.0) at.1) in
          let here : lesser free (ways false) (ways true) ≡ ways bit = lesser_is free ways bit (sym at.0) in
          omega (arith, rest, here)
    ]
