-- The rows of the pairs, in their order, and the pairs that rows stand for.
use Rattle.std.proofs.Common.{◌≡◌, ◌∙◌, inl, inr, ℕ, zero, suc, ◌+◌, ◌-◌, ◌<◌, ◌≤◌, List, [], ◌∷◌, true, false, Some, None, Option, Bool}
use Rattle.std.proofs.Common.{ap, sym, refl, arith, add-one, drop, length, map, slice_index, slice_index_or, eqb}
use Rattle.std.proofs.Math.Seq.{drop-cons}
use Rattle.std.proofs.lemmas.Bool.{agree_below_at, cases_lt, eqb-true}
use Rattle.std.proofs.lemmas.Bool.Decides.{nat_tests}
use Rattle.std.proofs.lemmas.List.{drop_all, get_or_past, length-map, length-drop}
use Rattle.ht_rate.specs.declared.kinds.Pattern.{Pattern}
use Rattle.ht_conv.specs.declared.puncture.Kept.{Kept}
use Rattle.ht_conv.specs.declared.puncture.Kept.TheVariants.{Both, A, B}
use Rattle.ht_conv.specs.Puncturing.{kept_of, sent_count}
use Rattle.ht_viterbi.specs.declared.bit_costs.BitCosts.{BitCosts}
use Rattle.ht_viterbi.specs.Inputs.{place_cost}
use Rattle.ht_viterbi.specs.Trellis.{StepCosts, bit_cost, branch_cost, costs_of, free_bit, is_free, output_a, output_b, pair_at, pair_of}
use Rattle.ht_viterbi.specs.Trellis.{steps_from, word_steps}
use Rattle.ht_viterbi.specs.Lanes.{HasLanes, HasRows, HoldsRows, IsLight, StepPlaces, hard_costs, number_of_pair, pair_of_number, row_costs, steps_at}
use Rattle.ht_viterbi.proofs.Spread.{AreLight}

-- the rows in the order of the pairs' numbers
pub in-order : (value : StepCosts → ℕ → ℕ) (a b c d e f g h i : List ℕ)
    → HasLanes a (value (hard_costs (None, None)))
    → HasLanes b (value (hard_costs (None, Some false)))
    → HasLanes c (value (hard_costs (None, Some true)))
    → HasLanes d (value (hard_costs (Some false, None)))
    → HasLanes e (value (hard_costs (Some false, Some false)))
    → HasLanes f (value (hard_costs (Some false, Some true)))
    → HasLanes g (value (hard_costs (Some true, None)))
    → HasLanes h (value (hard_costs (Some true, Some false)))
    → HasLanes i (value (hard_costs (Some true, Some true)))
    → HoldsRows (a ∷ b ∷ c ∷ d ∷ e ∷ f ∷ g ∷ h ∷ i ∷ []) value
in-order value a b c d e f g h i ha hb hc hd he hf hg hh hi (None, None) = ha
in-order value a b c d e f g h i ha hb hc hd he hf hg hh hi (None, Some false) = hb
in-order value a b c d e f g h i ha hb hc hd he hf hg hh hi (None, Some true) = hc
in-order value a b c d e f g h i ha hb hc hd he hf hg hh hi (Some false, None) = hd
in-order value a b c d e f g h i ha hb hc hd he hf hg hh hi (Some false, Some false) = he
in-order value a b c d e f g h i ha hb hc hd he hf hg hh hi (Some false, Some true) = hf
in-order value a b c d e f g h i ha hb hc hd he hf hg hh hi (Some true, None) = hg
in-order value a b c d e f g h i ha hb hc hd he hf hg hh hi (Some true, Some false) = hh
in-order value a b c d e f g h i ha hb hc hd he hf hg hh hi (Some true, Some true) = hi

-- a pair is that of its number
pub number-back : (pair : StepPlaces) → pair_of_number (number_of_pair pair) ≡ pair
number-back (None, None) = refl
number-back (None, Some false) = refl
number-back (None, Some true) = refl
number-back (Some false, None) = refl
number-back (Some false, Some false) = refl
number-back (Some false, Some true) = refl
number-back (Some true, None) = refl
number-back (Some true, Some false) = refl
number-back (Some true, Some true) = refl

pub number-few : (pair : StepPlaces) → number_of_pair pair < 9
number-few (None, None) = omega arith
number-few (None, Some false) = omega arith
number-few (None, Some true) = omega arith
number-few (Some false, None) = omega arith
number-few (Some false, Some false) = omega arith
number-few (Some false, Some true) = omega arith
number-few (Some true, None) = omega arith
number-few (Some true, Some false) = omega arith
number-few (Some true, Some true) = omega arith

-- and a row is that of its pair
pub row-back : (row : ℕ) → row < 9 → number_of_pair (pair_of_number row) ≡ row
row-back row lt =
    eqb-true (number_of_pair (pair_of_number row)) row (agree_below_at (λ n. eqb (number_of_pair (pair_of_number n)) n) (λ _. true) 9 row refl lt)

-- what hard places cost
place-light : (place : Option Bool) (bit : Bool) → bit_cost (costs_of place_cost place) bit ≤ 1
place-light None false = omega arith
place-light None true = omega arith
place-light (Some false) false = omega arith
place-light (Some false) true = omega arith
place-light (Some true) false = omega arith
place-light (Some true) true = omega arith

pub hard-light : (pair : StepPlaces) → IsLight 2 (hard_costs pair)
unfolding branch_cost
hard-light pair state bit = omega (arith, place-light pair.0 (output_a state bit), place-light pair.1 (output_b state bit))

pub light-rows : (rows : List ℕ) → AreLight 2 (map row_costs rows)
light-rows [] = tt
light-rows (row ∷ rows) = (hard-light (pair_of_number row), light-rows rows)

pub light-steps : (rows : List ℕ) (at : ℕ) → AreLight 2 (steps_at rows at)
unfolding steps_at
light-steps rows at = light-rows (drop at rows)

-- what a step's places cost, by what is known of them
pub cost-there : {P : Type 0} (cost : P → Bool → ℕ) (none : P) → costs_of cost none ≡ free_bit → (received : List P) (n : ℕ)
    → slice_index_or (map (costs_of cost) received) n free_bit ≡ costs_of cost (slice_index_or received n none)
cost-there cost none free [] n = sym free
cost-there cost none free (place ∷ received) zero = refl
cost-there cost none free (place ∷ received) (suc n) = cost-there cost none free received n

pair-costs : (kept : Kept) (received : List (Option Bool)) (start : ℕ)
    → hard_costs (pair_of None kept received start) ≡ pair_of free_bit kept (map (costs_of place_cost) received) start
pair-costs Both received start =
    let costs = map (costs_of place_cost) received in
    sym (ap (λ (a : BitCosts). (a, slice_index_or costs (start + 1) free_bit)) (cost-there place_cost None refl received start)
    ∙ ap (λ (b : BitCosts). (costs_of place_cost (slice_index_or received start None), b)) (cost-there place_cost None refl received (start + 1)))
pair-costs A received start = sym (ap (λ (a : BitCosts). (a, free_bit)) (cost-there place_cost None refl received start))
pair-costs B received start = sym (ap (λ (b : BitCosts). (free_bit, b)) (cost-there place_cost None refl received start))

-- the rows of a word's steps stand for what they cost
pub rows-steps : (pattern : Pattern) (received : List (Option Bool)) (step count : ℕ) (rows : List ℕ) → length rows ≡ count
    → ((k : ℕ) → k < count → slice_index rows k ≡ number_of_pair (pair_at None pattern received (step + k)))
    → map row_costs rows ≡ steps_from pattern (map (costs_of place_cost) received) step count
unfolding steps_from
rows-steps pattern received step zero [] len are = refl
rows-steps pattern received step zero (row ∷ rows) len are = absurd (omega arith)
rows-steps pattern received step (suc count) [] len are = absurd (omega arith)
rows-steps pattern received step (suc count) (row ∷ rows) len are =
    let costs = map (costs_of place_cost) received in
    let none : step + 0 ≡ step = omega arith in
    let first : row_costs row ≡ pair_at free_bit pattern costs step =
    ap row_costs (are 0 (omega arith)) ∙ (ap hard_costs (number-back _ ∙ ap (pair_at None pattern received) none)
    ∙ pair-costs (kept_of pattern step) received (sent_count pattern step)) in
    let rest : map row_costs rows ≡ steps_from pattern costs (suc step) count =
    rows-steps pattern received (suc step) count rows (omega arith)
    (λ k lt. let next : step + suc k ≡ suc step + k = omega arith in
    are (suc k) (omega arith) ∙ ap (λ (n : ℕ). number_of_pair (pair_at None pattern received n)) next) in
    ap (λ (branches : StepCosts). branches ∷ map row_costs rows) first ∙ ap (λ (steps : List StepCosts). pair_at free_bit pattern costs step ∷ steps) rest

pub steps-cons : (rows : List ℕ) (at : ℕ) → at < length rows → steps_at rows at ≡ row_costs (slice_index rows at) ∷ steps_at rows (at + 1)
unfolding steps_at
steps-cons rows at lt =
    let cons : drop at rows ≡ slice_index rows at ∷ drop (at + 1) rows = rw add-one (drop-cons rows at 0 lt) in
    ap (λ (xs : List ℕ). map row_costs xs) cons

pub steps-before : (rows : List ℕ) (at : ℕ) → 0 < at → at ≤ length rows
    → steps_at rows (at - 1) ≡ row_costs (slice_index rows (at - 1)) ∷ steps_at rows at
steps-before rows at some within =
    let next : at - 1 + 1 ≡ at = omega arith in
    steps-cons rows (at - 1) (omega arith) ∙ ap (λ (n : ℕ). row_costs (slice_index rows (at - 1)) ∷ steps_at rows n) next

pub steps-end : (rows : List ℕ) (at : ℕ) → length rows ≤ at → steps_at rows at ≡ []
unfolding steps_at
steps-end rows at past = let none : drop at rows ≡ [] = drop_all at rows past in ap (λ (xs : List ℕ). map row_costs xs) none

pub steps-length : (rows : List ℕ) (at : ℕ) → length (steps_at rows at) ≡ length rows - at
unfolding steps_at
steps-length rows at = length-map (drop at rows) row_costs ∙ length-drop at rows

-- all of them
pub rows-word : (pattern : Pattern) (received : List (Option Bool)) (steps : ℕ) (rows : List ℕ) → length rows ≡ steps → HasRows pattern received rows steps
    → steps_at rows 0 ≡ word_steps place_cost pattern received steps
unfolding steps_at
rows-word pattern received steps rows len are =
    rows-steps pattern received 0 steps rows len
    (λ k lt. let same : k ≡ 0 + k = omega arith in are k lt ∙ ap (λ (n : ℕ). number_of_pair (pair_at None pattern received n)) same)

pub few-rows : (pattern : Pattern) (received : List (Option Bool)) (rows : List ℕ) → HasRows pattern received rows (length rows)
    → (k : ℕ) → slice_index rows k < 9
few-rows pattern received rows are k = elim (cases_lt k (length rows)) [
  | inl inside ↦ let few = number-few (pair_at None pattern received k) in omega (arith, are k inside, few)
  | inr past ↦ let none : slice_index rows k ≡ 0 = get_or_past rows k 0 past in omega (arith, none)
]

-- in a stretch that lies before the tail, or in the tail, it is known whether a bit may be 1
pub free-known : (free : Bool) (rest : ℕ) → (free ≡ false → rest < 6) → (free ≡ true → 6 ≤ rest) → free ≡ is_free rest
free-known false rest tail before = let few = tail refl in grind (arith, nat_tests)
free-known true rest tail before = let many = before refl in grind (arith, nat_tests)
