-- One step of the trellis on whole costs in lanes, which are all lower by the same, and the weights that the lanes
-- hold.
use Rattle.std.proofs.Common.{◌≡◌, ◌↔◌, ℕ, ℤ, pos, negsuc, zero, suc, ◌+◌, ◌-◌, ◌*◌, ◌%◌, ◌^◌, ◌<◌, ◌≤◌, List, ◌∷◌, length, map}
use Rattle.std.proofs.Common.{Bool, true, false, nat_le, nat_lt, slice_index, slice_index_or, unsigned_abs, inl, inr, refl, ap, sym, subst, ◌∙◌, arith}
use Rattle.std.specs.Int.{bit_at}
use Rattle.std.specs.Prelude.{if◌then◌else◌, ◌&&◌}
use Rattle.std.proofs.lemmas.Bool.{cases_lt, le-ltb, lt-ltb}
use Rattle.ht_rate.specs.declared.kinds.Pattern.{Pattern}
use Rattle.ht_conv.specs.declared.puncture.Kept.{Kept}
use Rattle.ht_conv.specs.declared.puncture.Kept.TheVariants.{Both, A, B}
use Rattle.ht_conv.specs.Puncturing.{kept_of, sent_count}
use Rattle.ht_viterbi.specs.declared.bit_costs.BitCosts.{BitCosts}
use Rattle.ht_viterbi.specs.Inputs.{weight_cost}
use Rattle.ht_viterbi.specs.Lanes.{AreWithin, HasLanes, HaveRoom, IsLight, heaviest}
use Rattle.ht_viterbi.specs.Trellis.{StepCosts, bit_cost, branch_cost, chosen, chosen_at, costs_of, free_bit, is_free, least_from, lesser}
use Rattle.ht_viterbi.specs.Trellis.{moved, pair_of, steps_from, way}
use Rattle.ht_viterbi.proofs.LaneSteps.{sign-by}
use Rattle.ht_viterbi.proofs.RowFacts.{cost-there}
use Rattle.ht_viterbi.proofs.Spread.{AreLight, first-grows, spread}
use Rattle.ht_viterbi.proofs.Steps.{branch-few, chosen-step, costs-step, free-few, moved-lt}

sum-number : (w a b t x : ℕ) → w ≡ (a + b) % 2 ^ 32 → a ≡ t → b ≡ x → t < 2 ^ 30 + 2 ^ 20 → x ≤ 2 * heaviest → w ≡ x + t
sum-number w a b t x e f g room light = omega arith

-- the ways by a bit
pub way-lanes : (bit : Bool) (costs after added ways : List ℕ) (pair : StepCosts) → HaveRoom costs → IsLight (2 * heaviest) pair
    → HasLanes after (λ k. slice_index costs (moved k bit)) → HasLanes added (λ k. branch_cost pair k bit)
    → HasLanes ways (λ k. (slice_index after k + slice_index added k) % 2 ^ 32) → HasLanes ways (λ k. way (slice_index costs) pair k bit)
way-lanes bit costs after added ways pair room light afters addeds is = record {
  count = is.count;
  lane = λ k lt.
      sum-number (slice_index ways k) (slice_index after k) (slice_index added k) (slice_index costs (moved k bit)) (branch_cost pair k bit)
      (is.lane k lt) (afters.lane k lt) (addeds.lane k lt) (room (moved k bit) (moved-lt k bit lt)) (light k bit);
}

way-few : (bit : Bool) (costs : List ℕ) (pair : StepCosts) → HaveRoom costs → IsLight (2 * heaviest) pair
    → (k : ℕ) → k < 64 → way (slice_index costs) pair k bit < 2 ^ 31
way-few bit costs pair room light k lt = omega (arith, room (moved k bit) (moved-lt k bit lt), light k bit)

below : (d a b : ℕ) → d ≡ (a + (2 ^ 32 - b)) % 2 ^ 32 → b < 2 ^ 31 → a < b → 2 ^ 31 ≤ d
below d a b e few less = omega arith

above : (d a b : ℕ) → d ≡ (a + (2 ^ 32 - b)) % 2 ^ 32 → a < 2 ^ 31 → b ≤ a → d < 2 ^ 31
above d a b e few more = omega arith

-- the choices where a 1 may be taken
pub choices-lanes : (costs zeros ones ahead : List ℕ) (word : ℕ) (pair : StepCosts) → HaveRoom costs → IsLight (2 * heaviest) pair
    → HasLanes zeros (λ k. way (slice_index costs) pair k false) → HasLanes ones (λ k. way (slice_index costs) pair k true)
    → HasLanes ahead (λ k. (slice_index ones k + (2 ^ 32 - slice_index zeros k)) % 2 ^ 32)
    → ((k : ℕ) → k < 64 → (bit_at word k ≡ 1) ↔ (nat_le (2 ^ 31) (slice_index ahead k) ≡ true))
    → (k : ℕ) → k < 64 → (bit_at word k ≡ 1) ↔ (chosen true (way (slice_index costs) pair k false) (way (slice_index costs) pair k true) ≡ true)
choices-lanes costs zeros ones ahead word pair room light zero_is one_is is bits k lt =
    let z = way (slice_index costs) pair k false in
    let o = way (slice_index costs) pair k true in
    let apart : slice_index ahead k ≡ (o + (2 ^ 32 - z)) % 2 ^ 32 =
    is.lane k lt ∙ (ap (λ (n : ℕ). (n + (2 ^ 32 - slice_index zeros k)) % 2 ^ 32) (one_is.lane k lt)
    ∙ ap (λ (n : ℕ). (o + (2 ^ 32 - n)) % 2 ^ 32) (zero_is.lane k lt)) in
    let same : nat_le (2 ^ 31) (slice_index ahead k) ≡ nat_lt o z =
    sign-by (2 ^ 31) (slice_index ahead k) o z (below (slice_index ahead k) o z apart (way-few false costs pair room light k lt))
    (above (slice_index ahead k) o z apart (way-few true costs pair room light k lt)) in
    ((λ e. sym same ∙ (bits k lt).0 e), λ e. (bits k lt).1 (same ∙ e))

-- and the lesser ways
pub lesser-ways : (costs zeros ones least : List ℕ) (pair : StepCosts)
    → HasLanes zeros (λ k. way (slice_index costs) pair k false) → HasLanes ones (λ k. way (slice_index costs) pair k true)
    → HasLanes least (λ k. lesser true (slice_index zeros k) (slice_index ones k))
    → HasLanes least (λ k. lesser true (way (slice_index costs) pair k false) (way (slice_index costs) pair k true))
lesser-ways costs zeros ones least pair zero_is one_is is = record {
  count = is.count;
  lane = λ k lt.
      is.lane k lt
      ∙ (ap (λ (n : ℕ). lesser true n (slice_index ones k)) (zero_is.lane k lt)
      ∙ ap (λ (n : ℕ). lesser true (way (slice_index costs) pair k false) n) (one_is.lane k lt));
}

-- costs that are all lower by the same are as far apart
less-raised : (a b x y l : ℕ) → a + l ≡ x → b + l ≡ y → nat_lt b a ≡ nat_lt y x
less-raised a b x y l p q = elim (cases_lt b a) [
  | inl less ↦ lt-ltb b a less ∙ sym (lt-ltb y x (omega arith))
  | inr more ↦ le-ltb b a more ∙ sym (le-ltb y x (omega arith))
]

chosen-raised : (free : Bool) (a b x y l : ℕ) → a + l ≡ x → b + l ≡ y → chosen free a b ≡ chosen free x y
chosen-raised free a b x y l p q = ap (λ (t : Bool). free && t) (less-raised a b x y l p q)

taken-raised : (t : Bool) (a b x y l : ℕ) → a + l ≡ x → b + l ≡ y → (if t then b else a) + l ≡ (if t then y else x)
taken-raised true a b x y l p q = q
taken-raised false a b x y l p q = p

lesser-raised : (free : Bool) (a b x y l : ℕ) → a + l ≡ x → b + l ≡ y → lesser free a b + l ≡ lesser free x y
lesser-raised free a b x y l p q =
    taken-raised (chosen free a b) a b x y l p q ∙ ap (λ (t : Bool). if t then y else x) (chosen-raised free a b x y l p q)

way-raised : (costs : ℕ → ℕ) (fallen : ℕ) (pair : StepCosts) (k : ℕ) (bit : Bool) → way costs pair k bit + fallen ≡ way (λ n. costs n + fallen) pair k bit
way-raised costs fallen pair k bit = omega arith

module _ (all pairs : List StepCosts) (costs : ℕ → ℕ) (fallen : ℕ) (free : Bool) (pair : StepCosts) where
  -- the costs after one more step
  pub raised-costs : (into : ℕ → ℕ) → all ≡ pair ∷ pairs → free ≡ is_free (length pairs) → ((k : ℕ) → k < 64 → costs k + fallen ≡ least_from pairs k)
      → ((k : ℕ) → k < 64 → into k ≡ lesser free (way costs pair k false) (way costs pair k true))
      → (k : ℕ) → k < 64 → into k + fallen ≡ least_from all k
  raised-costs into cons is was step =
      costs-step all pairs (λ n. costs n + fallen) (λ n. into n + fallen) free pair cons is was
      (λ k lt. ap (λ (n : ℕ). n + fallen) (step k lt)
      ∙ lesser-raised free _ _ _ _ fallen (way-raised costs fallen pair k false) (way-raised costs fallen pair k true))

  -- and the choices
  pub raised-choices : (word : ℕ) → free ≡ is_free (length pairs) → ((k : ℕ) → k < 64 → costs k + fallen ≡ least_from pairs k)
      → ((k : ℕ) → k < 64 → (bit_at word k ≡ 1) ↔ (chosen free (way costs pair k false) (way costs pair k true) ≡ true))
      → (k : ℕ) → k < 64 → (bit_at word k ≡ 1) ↔ (chosen_at pairs pair k ≡ true)
  raised-choices word is was step =
      chosen-step pairs word (λ n. costs n + fallen) free pair is was
      (λ k lt. let same = chosen-raised free _ _ _ _ fallen (way-raised costs fallen pair k false) (way-raised costs fallen pair k true) in
      ((λ e. sym same ∙ (step k lt).0 e), λ e. (step k lt).1 (same ∙ e)))

-- they lie close
pub near : (pairs : List StepCosts) (costs : ℕ → ℕ) (fallen : ℕ) → AreLight (2 * heaviest) pairs
    → ((k : ℕ) → k < 64 → costs k + fallen ≡ least_from pairs k) → (s t : ℕ) → s < 64 → t < 64 → costs s ≤ costs t + 2 ^ 20
near pairs costs fallen light was s t ls lt = omega (arith, spread (2 * heaviest) pairs s t light ls lt, was s ls, was t lt)

pub have-room : (pairs : List StepCosts) (costs : List ℕ) (fallen : ℕ) → AreLight (2 * heaviest) pairs
    → ((k : ℕ) → k < 64 → slice_index costs k + fallen ≡ least_from pairs k) → slice_index costs 0 < 2 ^ 30 → HaveRoom costs
have-room pairs costs fallen light was low k lt = omega (arith, near pairs (slice_index costs) fallen light was k 0 lt (omega arith))

-- the cost of state 0 grows by what a step costs at most
pub first-near : (all pairs : List StepCosts) (pair : StepCosts) (costs into : ℕ → ℕ) (fallen : ℕ) → all ≡ pair ∷ pairs → AreLight (2 * heaviest) all
    → ((k : ℕ) → k < 64 → costs k + fallen ≡ least_from pairs k) → ((k : ℕ) → k < 64 → into k + fallen ≡ least_from all k)
    → into 0 ≤ costs 0 + 2 ^ 17
first-near all pairs pair costs into fallen cons light was now =
    let grows = (first-grows (2 * heaviest) pairs pair (subst (λ (ps : List StepCosts). AreLight (2 * heaviest) ps) cons light)).0 in
    let same = ap (λ (ps : List StepCosts). least_from ps 0) cons in
    omega (arith, grows, same, was 0 (omega arith), now 0 (omega arith))

weight-light : (weight : ℤ) (bit : Bool) → unsigned_abs weight ≤ heaviest → bit_cost (costs_of weight_cost weight) bit ≤ heaviest
weight-light (pos n) false light = light
weight-light (pos n) true light = omega arith
weight-light (negsuc n) false light = omega arith
weight-light (negsuc n) true light = light

place-light : (weights : List ℤ) → AreWithin heaviest weights → (n : ℕ) (bit : Bool)
    → bit_cost (slice_index_or (map (costs_of weight_cost) weights) n free_bit) bit ≤ heaviest
place-light weights light n bit =
    subst (λ (costs : BitCosts). bit_cost costs bit ≤ heaviest) (sym (cost-there weight_cost (pos 0) refl weights n))
    (weight-light (slice_index_or weights n (pos 0)) bit (light n))

-- what light weights cost in a step
pub step-light : (kept : Kept) (weights : List ℤ) (start : ℕ) → AreWithin heaviest weights
    → IsLight (2 * heaviest) (pair_of free_bit kept (map (costs_of weight_cost) weights) start)
step-light Both weights start light = branch-few heaviest _ _ (place-light weights light start) (place-light weights light (start + 1))
step-light A weights start light = branch-few heaviest _ _ (place-light weights light start) (free-few heaviest)
step-light B weights start light = branch-few heaviest _ _ (free-few heaviest) (place-light weights light start)

-- and in all steps
pub steps-light : (pattern : Pattern) (weights : List ℤ) (step count : ℕ) → AreWithin heaviest weights
    → AreLight (2 * heaviest) (steps_from pattern (map (costs_of weight_cost) weights) step count)
unfolding steps_from
steps-light pattern weights step zero light = tt
steps-light pattern weights step (suc count) light =
    (step-light (kept_of pattern step) weights (sent_count pattern step) light, steps-light pattern weights (suc step) count light)
