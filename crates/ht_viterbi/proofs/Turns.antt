-- The steps of a period, where the period begins at a step.
use Rattle.std.proofs.Common.{◌≡◌, ◌∙◌, ℕ, zero, suc, ◌+◌, ◌-◌, ◌*◌, ◌%◌, ◌<◌, ◌≤◌, ◌≢◌, List, [], ◌∷◌, length, set, get_or, Option, Bool}
use Rattle.std.proofs.Common.{None, Some, true, false, ap, sym, subst, arith, below_more, get_or-set_other, get_or-set_same}
use Rattle.ht_rate.specs.declared.kinds.Pattern.{Pattern}
use Rattle.ht_rate.specs.declared.kinds.Pattern.TheVariants.{Half, TwoThirds, ThreeQuarters, FiveSixths}
use Rattle.ht_conv.specs.declared.puncture.Kept.{Kept}
use Rattle.ht_conv.specs.declared.puncture.Kept.TheVariants.{Both, A, B}
use Rattle.ht_conv.specs.Code.{sent_bits}
use Rattle.ht_conv.specs.Puncturing.{period_of, kept_of, kept_count, sent_count}
use Rattle.ht_viterbi.specs.Inputs.{cost_of, distance, hamming, place_cost}
use Rattle.ht_viterbi.specs.Lanes.{HasRows, number_of_pair}
use Rattle.ht_viterbi.specs.Trellis.{pair_of, pair_at}
use Rattle.ht_viterbi.proofs.Sending.{sent-grows}

phase-in : (pattern : Pattern) (first phase : ℕ) → first % length (period_of pattern) ≡ 0 → phase < length (period_of pattern)
    → (first + phase) % length (period_of pattern) ≡ phase
phase-in Half first phase begins lt = omega arith
phase-in TwoThirds first phase begins lt = omega arith
phase-in ThreeQuarters first phase begins lt = omega arith
phase-in FiveSixths first phase begins lt = omega arith

-- what is kept of a step, read from the period
kept-in : (pattern : Pattern) (period : List Kept) (first phase : ℕ) → period ≡ period_of pattern → first % length (period_of pattern) ≡ 0
    → phase < length (period_of pattern) → get_or period phase Both ≡ kept_of pattern (first + phase)
kept-in pattern period first phase is begins lt =
    ap (λ (z : List Kept). get_or z phase Both) is
    ∙ ap (λ (n : ℕ). get_or (period_of pattern) n Both) (sym (phase-in pattern first phase begins lt))

-- where the places of the next step begin
pub start-next : (pattern : Pattern) (steps at next start width : ℕ) (kept : Kept) → at < steps → next ≡ at + 1 → start ≡ sent_count pattern at
    → kept ≡ kept_of pattern at → width ≡ kept_count kept
    → (start + width ≡ sent_count pattern next) × (start + width ≤ sent_count pattern steps)
start-next pattern steps at next start width kept lt more is kept-is width-is =
    let same : width ≡ kept_count (kept_of pattern at) = width-is ∙ ap kept_count kept-is in
    let here : sent_count pattern (suc at) ≡ sent_count pattern next = let e : suc at ≡ next = omega arith in ap (sent_count pattern) e in
    let whole : suc at + (steps - suc at) ≡ steps = omega arith in
    let rest : sent_count pattern (suc at) ≤ sent_count pattern steps =
    subst (λ (n : ℕ). sent_count pattern (suc at) ≤ sent_count pattern n) whole (sent-grows pattern (steps - suc at) (suc at)) in
    (omega (arith, same, is, here), omega (arith, same, is, rest))

-- a step of a period that begins at `first`: what is kept of it, and where the places of the next one begin
pub turn-step : (pattern : Pattern) (period : List Kept) (steps first count phase start width : ℕ) → period ≡ period_of pattern
    → first % length (period_of pattern) ≡ 0 → count ≤ length (period_of pattern) → first + count ≤ steps → phase < count
    → start ≡ sent_count pattern (first + phase) → width ≡ kept_count (get_or period phase Both)
    → (get_or period phase Both ≡ kept_of pattern (first + phase)) × (start + width ≡ sent_count pattern (first + (phase + 1)))
    × (start + width ≤ sent_count pattern steps)
turn-step pattern period steps first count phase start width is begins few within test start-is width-is =
    let kept = kept-in pattern period first phase is begins (omega (arith, test, few)) in
    let next = start-next pattern steps (first + phase) (first + (phase + 1)) start width (get_or period phase Both) (omega (arith, test, within)) (omega arith)
    start-is kept width-is in
    (kept, next.0, next.1)

kept-few : (kept : Kept) → kept_count kept ≤ 2
kept-few Both = omega arith
kept-few A = omega arith
kept-few B = omega arith

-- a step sends two bits at most
pub sent-low : (pattern : Pattern) (steps : ℕ) → sent_count pattern steps ≤ 2 * steps
sent-low pattern zero = omega arith
sent-low pattern (suc steps) = omega (arith, sent-low pattern steps, kept-few (kept_of pattern steps))

-- one row more
pub row-more : (pattern : Pattern) (received : List (Option Bool)) (rows : List ℕ) (at next row start : ℕ) (kept : Kept) → at < length rows → next ≡ at + 1
    → row ≡ number_of_pair (pair_of None kept received start) → kept ≡ kept_of pattern at → start ≡ sent_count pattern at
    → HasRows pattern received rows at → HasRows pattern received (set rows at row) next
row-more pattern received rows at next row start kept within more is kept-is start-is were =
    let here : row ≡ number_of_pair (pair_at None pattern received at) =
    is ∙ (ap (λ (k : Kept). number_of_pair (pair_of None k received start)) kept-is
    ∙ ap (λ (n : ℕ). number_of_pair (pair_of None (kept_of pattern at) received n)) start-is) in
    subst (λ (n : ℕ). HasRows pattern received (set rows at row) n) (sym more)
    (below_more _ _
    (λ k h. let other : k ≢ at = omega arith in get_or-set_other rows at k row 0 other ∙ were k h)
    (get_or-set_same rows at row 0 within ∙ here))

-- a hard place costs at most 1
place-low : (place : Option Bool) (bit : Bool) → place_cost place bit ≤ 1
place-low None bit = omega arith
place-low (Some false) false = omega arith
place-low (Some false) true = omega arith
place-low (Some true) false = omega arith
place-low (Some true) true = omega arith

hamming-low : (received : List (Option Bool)) (sent : List Bool) → hamming received sent ≤ length received
hamming-low [] sent = omega arith
hamming-low (place ∷ received) [] = omega arith
hamming-low (place ∷ received) (bit ∷ sent) = omega (arith, place-low place bit, hamming-low received sent)

-- so a distance is at most twice the number of steps
pub distance-low : (p : Pattern) (received : List (Option Bool)) (input : List Bool) (steps : ℕ) → length received ≡ sent_count p steps
    → distance p received input ≤ 2 * steps
unfolding cost_of
distance-low p received input steps many = omega (arith, hamming-low received (sent_bits p input), many, sent-low p steps)
