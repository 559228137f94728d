-- What is looked up of a turn explains its places: a test of every state and of all places.
use Rattle.std.proofs.Common.{◌≡◌, ◌∙◌, ℕ, suc, ◌+◌, ◌*◌, ◌/◌, ◌%◌, ◌^◌, ◌<◌, List, [], ◌∷◌, length, get_or, Bool, true, false, not, ◌==◌, refl, ap, sym, subst}
use Rattle.std.proofs.Common.{arith, inl, inr}
use Rattle.std.specs.Prelude.{◌&&◌, ◌||◌}
use mathlib.Core.Bool.{beq}
use Rattle.std.specs.Int.RustNames.{bit_xor}
use Rattle.std.proofs.lemmas.Bool.{agree_below_at, and_parts, or_cases, eqb-true, eq-eqb, not-true, both_ways}
use Rattle.ht_rate.specs.declared.kinds.Pattern.{Pattern}
use Rattle.ht_rate.specs.declared.kinds.Pattern.TheVariants.{Half, TwoThirds, ThreeQuarters, FiveSixths}
use Rattle.ht_conv.specs.declared.puncture.Kept.{Kept}
use Rattle.ht_conv.specs.declared.puncture.Kept.TheVariants.{Both, A, B}
use Rattle.ht_viterbi.specs.Packed.{TurnExplains, code_sums, flag, state_sums, turn_of, turn_places}
use Rattle.ht_viterbi.specs.Trellis.{moved, output_a, output_b}
use Rattle.ht_viterbi.specs.declared.pairs.TheConstants.{A_OF_ZERO, B_OF_ZERO}
use Rattle.ht_viterbi.proofs.Outputs.{output_a-word, output_b-word}
use Rattle.ht_viterbi.proofs.Sending.{moved-lt}

-- a coded bit, where the outputs of all states at 0 are the bits of a word
abbrev by_word : ℕ → ℕ → Bool → Bool
by_word outputs state bit = not (beq (flag outputs state) bit)

abbrev explains : List Kept → ℕ → ℕ → ℕ → ℕ → ℕ → ℕ → Bool
explains [] code i state input j end = state == end
explains (Both ∷ kepts) code i state input j end =
    beq (flag code i) (by_word A_OF_ZERO state (flag input j)) && (beq (flag code (i + 1)) (by_word B_OF_ZERO state (flag input j))
    && explains kepts code (i + 2) (moved state (flag input j)) input (j + 1) end)
explains (A ∷ kepts) code i state input j end =
    beq (flag code i) (by_word A_OF_ZERO state (flag input j)) && explains kepts code (i + 1) (moved state (flag input j)) input (j + 1) end
explains (B ∷ kepts) code i state input j end =
    beq (flag code i) (by_word B_OF_ZERO state (flag input j)) && explains kepts code (i + 1) (moved state (flag input j)) input (j + 1) end

pub same-bits : (a b : Bool) → beq a b ≡ true → a ≡ b
same-bits true true is = refl
same-bits false false is = refl
same-bits true false is = absurd (both_ways (beq true false) refl is)
same-bits false true is = absurd (both_ways (beq false true) refl is)

explains-turn : (kepts : List Kept) (code i state input j end : ℕ) → state < 64 → explains kepts code i state input j end ≡ true
    → TurnExplains kepts code i state input j end
explains-turn [] code i state input j end low is = eqb-true state end is
explains-turn (Both ∷ kepts) code i state input j end low is =
    let first = and_parts _ _ is in
    let second = and_parts _ _ first.1 in (
      same-bits _ _ first.0 ∙ sym (output_a-word (flag input j) state low),
      same-bits _ _ second.0 ∙ sym (output_b-word (flag input j) state low),
      explains-turn kepts code (i + 2) (moved state (flag input j)) input (j + 1) end (moved-lt state (flag input j) low) second.1,
    )
explains-turn (A ∷ kepts) code i state input j end low is =
    let first = and_parts _ _ is in (
      same-bits _ _ first.0 ∙ sym (output_a-word (flag input j) state low),
      explains-turn kepts code (i + 1) (moved state (flag input j)) input (j + 1) end (moved-lt state (flag input j) low) first.1,
    )
explains-turn (B ∷ kepts) code i state input j end low is =
    let first = and_parts _ _ is in (
      same-bits _ _ first.0 ∙ sym (output_b-word (flag input j) state low),
      explains-turn kepts code (i + 1) (moved state (flag input j)) input (j + 1) end (moved-lt state (flag input j) low) first.1,
    )

abbrev sum_of : Pattern → ℕ → ℕ → ℕ
sum_of pattern state code = bit_xor (get_or (state_sums pattern) state 0) (get_or (code_sums pattern) code 0)

abbrev good_sum : List Kept → ℕ → ℕ → ℕ → Bool
good_sum kepts state code sum =
    not (sum / 2 ^ length kepts == 0) || explains kepts code 0 state sum 0 ((state + 64 * sum) / 2 ^ length kepts)

abbrev good : Pattern → ℕ → Bool
good pattern n = good_sum (turn_of pattern) (n / 64) (n % 64) (sum_of pattern (n / 64) (n % 64))

all-good : (pattern : Pattern) (n : ℕ) → n < 4096 → good pattern n ≡ true
unfolding state_sums code_sums
all-good Half n lt = agree_below_at (good Half) (λ k. true) 4096 n refl lt
all-good TwoThirds n lt = agree_below_at (good TwoThirds) (λ k. true) 4096 n refl lt
all-good ThreeQuarters n lt = agree_below_at (good ThreeQuarters) (λ k. true) 4096 n refl lt
all-good FiveSixths n lt = agree_below_at (good FiveSixths) (λ k. true) 4096 n refl lt

few-codes : (pattern : Pattern) (code : ℕ) → code < 2 ^ turn_places pattern → code < 64
few-codes Half code lt = lt
few-codes TwoThirds code lt = lt
few-codes ThreeQuarters code lt = omega (arith, lt)
few-codes FiveSixths code lt = lt

-- what is looked up of a turn, where nothing is left above its input
pub looked-up : (pattern : Pattern) (code state sum width end : ℕ) → code < 2 ^ turn_places pattern → state < 64
    → sum ≡ bit_xor (get_or (state_sums pattern) state 0) (get_or (code_sums pattern) code 0) → width ≡ length (turn_of pattern)
    → sum / 2 ^ width ≡ 0 → end ≡ (state + 64 * sum) / 2 ^ width → TurnExplains (turn_of pattern) code 0 state sum 0 end
looked-up pattern code state sum width end below low is width-is none end-is =
    let few = few-codes pattern code below in
    let kepts = turn_of pattern in
    let high : (64 * state + code) / 64 ≡ state = omega (arith, few) in
    let rest : (64 * state + code) % 64 ≡ code = omega (arith, few) in
    let tested : good_sum kepts state code (sum_of pattern state code) ≡ true =
    subst (λ (c : ℕ). good_sum kepts state c (sum_of pattern state c) ≡ true) rest
    (subst (λ (s : ℕ). good_sum kepts s ((64 * state + code) % 64) (sum_of pattern s ((64 * state + code) % 64)) ≡ true) high
    (all-good pattern (64 * state + code) (omega (arith, few, low)))) in
    let here : good_sum kepts state code sum ≡ true = ap (λ (n : ℕ). good_sum kepts state code n) is ∙ tested in
    let zero-is : sum / 2 ^ length kepts ≡ 0 = ap (λ (n : ℕ). sum / 2 ^ n) (sym width-is) ∙ none in
    let ends : end ≡ (state + 64 * sum) / 2 ^ length kepts = end-is ∙ ap (λ (n : ℕ). (state + 64 * sum) / 2 ^ n) width-is in
    let explained : explains kepts code 0 state sum 0 ((state + 64 * sum) / 2 ^ length kepts) ≡ true =
    elim (or_cases _ _ here) [
      | inl other ↦ absurd (both_ways _ (not-true _ other) (eq-eqb (sum / 2 ^ length kepts) 0 zero-is))
      | inr same ↦ same
    ] in
    subst (λ (e : ℕ). TurnExplains kepts code 0 state sum 0 e) (sym ends) (explains-turn kepts code 0 state sum 0 _ low explained)
