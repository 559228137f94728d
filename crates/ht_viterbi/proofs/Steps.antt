-- One step of the plain decoder, state by state.
use Rattle.std.proofs.Common.{◌≡◌, ◌↔◌, ℕ, zero, suc, ◌+◌, ◌-◌, ◌*◌, ◌<◌, ◌≤◌, List, [], ◌∷◌, ◌++◌, Bool, true, false, length}
use Rattle.std.proofs.Common.{take, drop, set, get_or, slice_index, replicate, nat_lt, refl, ap, sym, ◌∙◌, subst, arith, add-one, append_assoc, ◌==◌}
use Rattle.std.specs.Int.{bit_at}
use Rattle.std.proofs.Math.Seq.{drop-cons, take-append_seam}
use Rattle.std.proofs.lemmas.Bool.{eqb-true, eq-eqb}
use Rattle.std.proofs.lemmas.Bool.Decides.{nat_tests}
use Rattle.std.proofs.lemmas.List.{drop-set, get_or_past}
use Rattle.ht_rate.specs.declared.kinds.Pattern.{Pattern}
use Rattle.ht_conv.specs.declared.puncture.Kept.{Kept}
use Rattle.ht_conv.specs.Puncturing.{kept_of, kept_count, sent_count}
use Rattle.ht_viterbi.specs.declared.bit_costs.BitCosts.{BitCosts}
use Rattle.ht_viterbi.specs.Trellis.{StepCosts, bit_cost, free_bit, pair_of, pair_at, steps_from, moved, output_a, output_b, branch_cost}
use Rattle.ht_viterbi.specs.Trellis.{way, chosen, lesser, is_free, least_from, chosen_at, first_from, AreChoices}
use Rattle.ht_viterbi.proofs.Sending.{length-pairs, sent-grows}

abbrev pub free_step : StepCosts
free_step = (free_bit, free_bit)

pub moved-lt : (k : ℕ) (bit : Bool) → k < 64 → moved k bit < 64
moved-lt k false p = omega arith
moved-lt k true p = omega arith

-- two tables that agree give the same ways
pub way-same : (f g : ℕ → ℕ) → ((k : ℕ) → k < 64 → f k ≡ g k) → (pair : StepCosts) (k : ℕ) (bit : Bool) → k < 64 → way f pair k bit ≡ way g pair k bit
way-same f g same pair k bit p = ap (λ n. branch_cost pair k bit + n) (same (moved k bit) (moved-lt k bit p))

-- what a step costs where each of its bits costs at most `most`
pub branch-few : (most : ℕ) (a b : BitCosts) → ((bit : Bool) → bit_cost a bit ≤ most) → ((bit : Bool) → bit_cost b bit ≤ most)
    → (state : ℕ) (bit : Bool) → branch_cost (a, b) state bit ≤ 2 * most
unfolding branch_cost
branch-few most a b few_a few_b state bit = omega (arith, few_a (output_a state bit), few_b (output_b state bit))

pub free-few : (most : ℕ) (bit : Bool) → bit_cost free_bit bit ≤ most
free-few most false = omega arith
free-few most true = omega arith

lesser-le : (free : Bool) (a b m : ℕ) → a ≤ m → b ≤ m → lesser free a b ≤ m
lesser-le false a b m p q = p
lesser-le true a b m p q = grind (arith, nat_tests)

free-same : (n : ℕ) → nat_lt 6 (suc n) ≡ is_free n
free-same n = grind (arith, nat_tests)

-- the pairs of one more step before those at hand
pub pairs-back : (pattern : Pattern) (places : List BitCosts) (steps at : ℕ) → 0 < at → at ≤ steps
    → steps_from pattern places (at - 1) (steps - (at - 1)) ≡ pair_at free_bit pattern places (at - 1) ∷ steps_from pattern places at (steps - at)
unfolding steps_from
pairs-back pattern places steps at p q =
    let more : steps - (at - 1) ≡ suc (steps - at) = omega arith in
    let next : suc (at - 1) ≡ at = omega arith in
    ap (λ (n : ℕ). steps_from pattern places (at - 1) n) more
    ∙ ap (λ (n : ℕ). pair_at free_bit pattern places (at - 1) ∷ steps_from pattern places n (steps - at)) next

-- where the places of a step begin, and that they are there
pub start-at : (pattern : Pattern) (at start width : ℕ) (kept : Kept) → start ≡ sent_count pattern (at + 1) → kept ≡ kept_of pattern at
    → width ≡ kept_count kept → (start - width ≡ sent_count pattern at) × (start - width + kept_count kept ≡ start)
start-at pattern at start width kept is kept-is width-is =
    let up : suc at ≡ at + 1 = omega arith in
    let next : sent_count pattern at + kept_count (kept_of pattern at) ≡ sent_count pattern (at + 1) = ap (sent_count pattern) up in
    let same : kept_count kept ≡ kept_count (kept_of pattern at) = ap kept_count kept-is in
    (omega arith, omega arith)

-- the pair that is read is that of the step
pub pair-is : (pattern : Pattern) (places : List BitCosts) (at start : ℕ) (kept : Kept) (pair : StepCosts) → kept ≡ kept_of pattern at
    → start ≡ sent_count pattern at → pair ≡ pair_of free_bit kept places start → pair ≡ pair_at free_bit pattern places at
pair-is pattern places at start kept pair kept-is start-is is =
    is ∙ (ap (λ (k : Kept). pair_of free_bit k places start) kept-is ∙ ap (λ (n : ℕ). pair_of free_bit (kept_of pattern at) places n) start-is)

-- the places of the steps before one are received
pub start-within : (pattern : Pattern) (steps at start count : ℕ) → at ≤ steps → start ≡ sent_count pattern at → count ≡ sent_count pattern steps
    → start ≤ count
start-within pattern steps at start count few is all =
    let whole : at + (steps - at) ≡ steps = omega arith in
    let rest : sent_count pattern at ≤ sent_count pattern steps =
    subst (λ (n : ℕ). sent_count pattern at ≤ sent_count pattern n) whole (sent-grows pattern (steps - at) at) in
    omega arith

-- with the pair of one more step
pub pair-back : (pattern : Pattern) (places : List BitCosts) (steps at : ℕ) (pair : StepCosts) → 0 < at → at ≤ steps
    → pair ≡ pair_at free_bit pattern places (at - 1)
    → steps_from pattern places (at - 1) (steps - (at - 1)) ≡ pair ∷ steps_from pattern places at (steps - at)
pair-back pattern places steps at pair p q is =
    pairs-back pattern places steps at p q ∙ ap (λ (z : StepCosts). z ∷ steps_from pattern places at (steps - at)) (sym is)

pairs-none : (pattern : Pattern) (places : List BitCosts) (steps : ℕ) → steps_from pattern places steps (steps - steps) ≡ []
unfolding steps_from
pairs-none pattern places steps = let none : steps - steps ≡ 0 = omega arith in ap (λ (n : ℕ). steps_from pattern places steps n) none

pub free-back : (pattern : Pattern) (places : List BitCosts) (steps at : ℕ) → 0 < at → at ≤ steps
    → nat_lt 6 (steps - (at - 1)) ≡ is_free (length (steps_from pattern places at (steps - at)))
free-back pattern places steps at p q =
    let more : steps - (at - 1) ≡ suc (steps - at) = omega arith in
    ap (λ (n : ℕ). nat_lt 6 n) more ∙ (free-same (steps - at) ∙ ap is_free (sym (length-pairs pattern places at (steps - at))))

zeros : (n k : ℕ) → slice_index (replicate n 0) k ≡ 0
zeros zero k = refl
zeros (suc n) zero = refl
zeros (suc n) (suc k) = zeros n k

pub zero-at : {xs : List ℕ} → xs ≡ replicate 64 0 → (k : ℕ) → slice_index xs k ≡ 0
zero-at e k = ap (λ (xs : List ℕ). slice_index xs k) e ∙ zeros 64 k

-- no step yet
pub choices-none : (all : List StepCosts) (words : List ℕ) → all ≡ [] → AreChoices all words
choices-none all words none = subst (λ (ps : List StepCosts). AreChoices ps words) (sym none) tt

module _ (pattern : Pattern) (places : List BitCosts) (steps : ℕ) where
  pub costs-start : (costs : List ℕ) → costs ≡ replicate 64 0 → (k : ℕ) → k < 64
      → slice_index costs k ≡ least_from (steps_from pattern places steps (steps - steps)) k
  costs-start costs zeroed k p = zero-at zeroed k ∙ sym (ap (λ (ps : List StepCosts). least_from ps k) (pairs-none pattern places steps))

  pub choices-start : (words : List ℕ) → AreChoices (steps_from pattern places steps (steps - steps)) words
  choices-start words = choices-none _ words (pairs-none pattern places steps)

-- the table after one more step
pub costs-step : (all pairs : List StepCosts) (costs into : ℕ → ℕ) (free : Bool) (pair : StepCosts) → all ≡ pair ∷ pairs → free ≡ is_free (length pairs)
    → ((k : ℕ) → k < 64 → costs k ≡ least_from pairs k)
    → ((k : ℕ) → k < 64 → into k ≡ lesser free (way costs pair k false) (way costs pair k true))
    → (k : ℕ) → k < 64 → into k ≡ least_from all k
costs-step all pairs costs into free pair cons is was step k p =
    step k p
    ∙ ap (λ (f : Bool). lesser f (way costs pair k false) (way costs pair k true)) is
    ∙ ap (λ (a : ℕ). lesser (is_free (length pairs)) a (way costs pair k true)) (way-same costs (least_from pairs) was pair k false p)
    ∙ ap (λ (b : ℕ). lesser (is_free (length pairs)) (way (least_from pairs) pair k false) b) (way-same costs (least_from pairs) was pair k true p)
    ∙ sym (ap (λ (xs : List StepCosts). least_from xs k) cons)

-- the choices after one more step
pub choices-step : (all pairs : List StepCosts) (words : List ℕ) (m at word : ℕ) (pair : StepCosts) → all ≡ pair ∷ pairs → at ≡ m + 1 → m < length words
    → ((k : ℕ) → k < 64 → (bit_at word k ≡ 1) ↔ (chosen_at pairs pair k ≡ true))
    → AreChoices pairs (drop at words) → AreChoices all (drop m (set words m word))
choices-step all pairs words m at word pair cons next p step rest =
    let list : drop m (set words m word) ≡ word ∷ drop at words = drop-set words m word p ∙ ap (λ n. word ∷ drop n words) (sym next) in
    let here : AreChoices (pair ∷ pairs) (word ∷ drop at words) = (step, rest) in
    subst (λ (r : List ℕ). AreChoices all r) (sym list) (subst (λ (q : List StepCosts). AreChoices q (word ∷ drop at words)) (sym cons) here)

pub chosen-step : (pairs : List StepCosts) (word : ℕ) (costs : ℕ → ℕ) (free : Bool) (pair : StepCosts) → free ≡ is_free (length pairs)
    → ((k : ℕ) → k < 64 → costs k ≡ least_from pairs k)
    → ((k : ℕ) → k < 64 → (bit_at word k ≡ 1) ↔ (chosen free (way costs pair k false) (way costs pair k true) ≡ true))
    → (k : ℕ) → k < 64 → (bit_at word k ≡ 1) ↔ (chosen_at pairs pair k ≡ true)
chosen-step pairs word costs free pair is was step k q =
    let same : chosen free (way costs pair k false) (way costs pair k true) ≡ chosen_at pairs pair k =
    ap (λ (f : Bool). chosen f (way costs pair k false) (way costs pair k true)) is
    ∙ ap (λ (a : ℕ). chosen (is_free (length pairs)) a (way costs pair k true)) (way-same costs (least_from pairs) was pair k false q)
    ∙ ap (λ (b : ℕ). chosen (is_free (length pairs)) (way (least_from pairs) pair k false) b) (way-same costs (least_from pairs) was pair k true q) in
    ((λ e. sym same ∙ (step k q).0 e), λ e. (step k q).1 (same ∙ e))

-- no cost grows by more than a step costs
pub bound-step : (into costs : List ℕ) (free : Bool) (pair : StepCosts) (b most : ℕ) → length into ≡ 64 → ((k : ℕ) → slice_index costs k ≤ b)
    → ((k : ℕ) (bit : Bool) → branch_cost pair k bit ≤ most)
    → ((k : ℕ) → k < 64 → slice_index into k ≡ lesser free (way (slice_index costs) pair k false) (way (slice_index costs) pair k true))
    → (k : ℕ) → slice_index into k ≤ b + most
bound-step into costs free pair b most long was few step k = go (nat_lt k 64) refl
  where
    go : (t : Bool) → nat_lt k 64 ≡ t → slice_index into k ≤ b + most
    go true e =
        let small : k < 64 = grind (arith, nat_tests) in
        let zero_way : way (slice_index costs) pair k false ≤ b + most = omega (arith, few k false, was (moved k false)) in
        let one_way : way (slice_index costs) pair k true ≤ b + most = omega (arith, few k true, was (moved k true)) in
        rw (step k small) (lesser-le free _ _ (b + most) zero_way one_way)
    go false e = let large : 64 ≤ k = grind (arith, nat_tests) in let past : slice_index into k ≡ 0 = get_or_past into k 0 (omega arith) in omega (arith, past)

same-bit : (a b : Bool) (n : ℕ) → a ≡ (n == 1) → (n ≡ 1) ↔ (b ≡ true) → a ≡ b
same-bit true b n p q = sym (q.0 (eqb-true n 1 (sym p)))
same-bit false true n p q = p ∙ eq-eqb n 1 (q.1 refl)
same-bit false false n p q = refl

-- the walk takes the bit that the word has
pub word-taken : (pairs : List StepCosts) (words : List ℕ) (at state : ℕ) (bit : Bool) → at < length words → length pairs ≡ length words → state < 64
    → AreChoices (drop at pairs) (drop at words)
    → bit ≡ (bit_at (get_or words at 0) state == 1)
    → (first_from (drop at pairs) state ≡ bit ∷ first_from (drop (at + 1) pairs) (moved state bit)) × AreChoices (drop (at + 1) pairs) (drop (at + 1) words)
word-taken pairs words at state bit p len small are taken =
    let ps : drop at pairs ≡ get_or pairs at free_step ∷ drop (at + 1) pairs = rw add-one (drop-cons pairs at free_step (omega arith)) in
    let ws : drop at words ≡ get_or words at 0 ∷ drop (at + 1) words = rw add-one (drop-cons words at 0 p) in
    let both : AreChoices (get_or pairs at free_step ∷ drop (at + 1) pairs) (get_or words at 0 ∷ drop (at + 1) words) =
    subst (λ (q : List StepCosts). AreChoices q (get_or words at 0 ∷ drop (at + 1) words)) ps (subst (λ (r : List ℕ). AreChoices (drop at pairs) r) ws are) in
    let same : bit ≡ chosen_at (drop (at + 1) pairs) (get_or pairs at free_step) state =
    same-bit bit _ (bit_at (get_or words at 0) state) taken (both.0 state small) in (
      ap (λ (q : List StepCosts). first_from q state) ps ∙ ap (λ (b : Bool). b ∷ first_from (drop (at + 1) pairs) (moved state b)) (sym same),
      both.1,
    )

-- what was written into a whole vector is what it has
pub written : (xs rest : List ℕ) (len : ℕ) → length xs ≡ len → take len (xs ++ rest) ≡ xs
written xs rest len same = ap (λ (n : ℕ). take n (xs ++ rest)) (sym same) ∙ take-append_seam xs rest

-- the choices of the steps from one on
pub choices-drop : (k : ℕ) (pairs : List StepCosts) (words : List ℕ) → AreChoices pairs words → AreChoices (drop k pairs) (drop k words)
choices-drop zero pairs words are = are
choices-drop (suc k) [] words are = tt
choices-drop (suc k) (pair ∷ pairs) [] are = absurd are
choices-drop (suc k) (pair ∷ pairs) (word ∷ words) are = choices-drop k pairs words are.1

pub walked : (whole old new : List Bool) (bit : Bool) (state state' at : ℕ) (pairs : List StepCosts) → new ≡ old ++ bit ∷ [] → state' ≡ moved state bit
    → first_from (drop at pairs) state ≡ bit ∷ first_from (drop (at + 1) pairs) (moved state bit)
    → old ++ first_from (drop at pairs) state ≡ whole → new ++ first_from (drop (at + 1) pairs) state' ≡ whole
walked whole old new bit state state' at pairs e s next was =
    ap (λ (z : List Bool). z ++ first_from (drop (at + 1) pairs) state') e
    ∙ append_assoc old (bit ∷ []) (first_from (drop (at + 1) pairs) state')
    ∙ ap (λ (n : ℕ). old ++ (bit ∷ first_from (drop (at + 1) pairs) n)) s
    ∙ ap (λ (z : List Bool). old ++ z) (sym next)
    ∙ was
