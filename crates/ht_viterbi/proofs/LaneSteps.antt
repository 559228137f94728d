-- One step of the trellis on lanes: costs modulo 256 tell which way is nearer, since the ways of a state lie close.
use Rattle.std.proofs.Common.{◌≡◌, inl, inr, ℕ, zero, suc, ◌+◌, ◌-◌, ◌/◌, ◌%◌, ◌<◌, ◌≤◌, ◌↔◌, List, [], ◌∷◌, length, replicate}
use Rattle.std.proofs.Common.{Bool, true, false, nat_le, nat_lt, slice_index, refl, ap, sym, ◌∙◌, arith, true≢false}
use Rattle.std.specs.Int.{bit_at}
use Rattle.std.specs.Prelude.{if◌then◌else◌}
use Rattle.std.proofs.lemmas.Bool.{cases_lt, le-leb, lt-leb, lt-ltb, le-ltb}
use Rattle.std.proofs.lemmas.Nat.Bits.{bit_at-zero}
use Rattle.ht_viterbi.specs.Trellis.{StepCosts, branch_cost, way, chosen, lesser, is_free, least_from, chosen_at}
use Rattle.ht_viterbi.specs.Lanes.{HasLanes, IsClose, IsLight, rise}

zero-number : (z n b c t : ℕ) → z ≡ (n + b) % 256 → n ≡ c → c ≡ t % 256 → (w : ℕ) → w ≡ b + t → z ≡ w % 256
zero-number z n b c t e f g w h = omega arith

-- the ways by a 0
pub zero-lanes : (costs added next ways : List ℕ) (table : ℕ → ℕ) (pair : StepCosts)
    → HasLanes costs (λ k. table k % 256) → HasLanes added (λ k. branch_cost pair k false)
    → HasLanes next (λ k. slice_index costs (k / 2)) → HasLanes ways (λ k. (slice_index next k + slice_index added k) % 256)
    → HasLanes ways (λ k. way table pair k false % 256)
zero-lanes costs added next ways table pair held branches after is = record {
  count = is.count;
  lane = λ k lt.
      let b : slice_index added k ≡ branch_cost pair k false = branches.lane k lt in
      let h : way table pair k false ≡ slice_index added k + table (k / 2) = ap (λ (n : ℕ). n + table (k / 2)) (sym b) in
      zero-number _ (slice_index next k) (slice_index added k) (slice_index costs (k / 2)) (table (k / 2))
      (is.lane k lt) (after.lane k lt) (held.lane (k / 2) (omega arith)) (way table pair k false) h;
}

ahead-number : (a d u v r x y s t : ℕ) → a ≡ (d + r) % 256 → d ≡ (u + (256 - v)) % 256 → u ≡ s % 256 → v ≡ t % 256
    → r ≡ (x + (256 - y)) % 256 → y ≤ 2 → a ≡ ((x + s) % 256 + (256 - (y + t) % 256)) % 256
ahead-number a d u v r x y s t e f g h i few = omega arith

-- how much farther the ways by a 1 are, modulo 256
abbrev pub IsAhead : List ℕ → (ℕ → ℕ) → StepCosts → Type 0
IsAhead ahead table pair = HasLanes ahead (λ k. (way table pair k true % 256 + (256 - way table pair k false % 256)) % 256)

pub ahead-lanes : (costs upper apart spread more ahead : List ℕ) (table : ℕ → ℕ) (pair : StepCosts) → IsLight 2 pair → HasLanes costs (λ k. table k % 256)
    → HasLanes upper (λ k. slice_index costs (k % 32 + 32)) → HasLanes apart (λ k. (slice_index upper k + (256 - slice_index costs k)) % 256)
    → HasLanes spread (λ k. slice_index apart (k / 2)) → HasLanes more (rise pair)
    → HasLanes ahead (λ k. (slice_index spread k + slice_index more k) % 256) → IsAhead ahead table pair
ahead-lanes costs upper apart spread more ahead table pair light held ups aparts spreads mores is = record {
  count = is.count;
  lane = λ k lt.
      let half : (k / 2) % 32 ≡ k / 2 = omega arith in
      let low : k / 2 < 64 = omega arith in
      let high : k / 2 + 32 < 64 = omega arith in
      let up : slice_index upper (k / 2) ≡ table (k / 2 + 32) % 256 =
      ups.lane (k / 2) low ∙ (ap (λ (n : ℕ). slice_index costs (n + 32)) half ∙ held.lane (k / 2 + 32) high) in
      let apart_is : slice_index spread k ≡ (slice_index upper (k / 2) + (256 - slice_index costs (k / 2))) % 256 =
      spreads.lane k lt ∙ aparts.lane (k / 2) low in
      ahead-number (slice_index ahead k) (slice_index spread k) (slice_index upper (k / 2)) (slice_index costs (k / 2)) (slice_index more k)
      (branch_cost pair k true) (branch_cost pair k false) (table (k / 2 + 32)) (table (k / 2))
      (is.lane k lt) apart_is up (held.lane (k / 2) low) (mores.lane k lt) (light k false);
}

below : (d a b : ℕ) → d ≡ (a % 256 + (256 - b % 256)) % 256 → b < a + 128 → a < b → 128 ≤ d
below d a b e near less = omega arith

above : (d a b : ℕ) → d ≡ (a % 256 + (256 - b % 256)) % 256 → a < b + 128 → b ≤ a → d < 128
above d a b e near more = omega arith

-- a difference that comes to the half of its range exactly where the first number is the lesser
pub sign-by : (half d a b : ℕ) → (a < b → half ≤ d) → (b ≤ a → d < half) → nat_le half d ≡ nat_lt a b
sign-by half d a b low high = elim (cases_lt a b) [
  | inl less ↦ le-leb half d (low less) ∙ sym (lt-ltb a b less)
  | inr more ↦ lt-leb half d (high more) ∙ sym (le-ltb a b more)
]

-- the difference of two close numbers, modulo 256, has its highest bit where the first is the lesser
sign : (d a b : ℕ) → d ≡ (a % 256 + (256 - b % 256)) % 256 → (b < a + 128) × (a < b + 128) → nat_le 128 d ≡ nat_lt a b
sign d a b e close = sign-by 128 d a b (below d a b e close.0) (above d a b e close.1)

sign-lanes : (ahead : List ℕ) (table : ℕ → ℕ) (pair : StepCosts) → IsAhead ahead table pair → IsClose table pair
    → (k : ℕ) → k < 64 → nat_le 128 (slice_index ahead k) ≡ chosen true (way table pair k false) (way table pair k true)
sign-lanes ahead table pair is close k lt =
    sign (slice_index ahead k) (way table pair k true) (way table pair k false) (is.lane k lt) (close k lt)

-- the choices where a 1 may be taken
pub choices-lanes : (ahead : List ℕ) (word : ℕ) (table : ℕ → ℕ) (pair : StepCosts) → IsAhead ahead table pair → IsClose table pair
    → ((k : ℕ) → k < 64 → (bit_at word k ≡ 1) ↔ (nat_le 128 (slice_index ahead k) ≡ true))
    → (k : ℕ) → k < 64 → (bit_at word k ≡ 1) ↔ (chosen true (way table pair k false) (way table pair k true) ≡ true)
choices-lanes ahead word table pair is close bits k lt =
    let same = sign-lanes ahead table pair is close k lt in
    ((λ e. sym same ∙ (bits k lt).0 e), λ e. (bits k lt).1 (same ∙ e))

lesser-number : (t : Bool) (n z d a b : ℕ) → n ≡ (z + (if t then d else 0)) % 256 → z ≡ b % 256
    → d ≡ (a % 256 + (256 - b % 256)) % 256 → n ≡ (if t then a else b) % 256
lesser-number true n z d a b e f g = omega arith
lesser-number false n z d a b e f g = omega arith

zeros : (n k : ℕ) → slice_index (replicate n 0) k ≡ 0
zeros zero k = refl
zeros (suc n) zero = refl
zeros (suc n) (suc k) = zeros n k

-- and the lesser ways
pub lesser-lanes : (zero_ways ahead fall lesser_ways : List ℕ) (table : ℕ → ℕ) (pair : StepCosts)
    → HasLanes zero_ways (λ k. way table pair k false % 256) → IsAhead ahead table pair → IsClose table pair
    → HasLanes fall (λ k. if nat_le 128 (slice_index ahead k) then slice_index ahead k else slice_index (replicate 64 0) k)
    → HasLanes lesser_ways (λ k. (slice_index zero_ways k + slice_index fall k) % 256)
    → HasLanes lesser_ways (λ k. lesser true (way table pair k false) (way table pair k true) % 256)
lesser-lanes zero_ways ahead fall lesser_ways table pair zero_is is close falls taken = record {
  count = taken.count;
  lane = λ k lt.
      let by : slice_index fall k ≡ (if nat_lt (way table pair k true) (way table pair k false) then slice_index ahead k else 0) =
      falls.lane k lt
      ∙ (ap (λ (t : Bool). if t then slice_index ahead k else slice_index (replicate 64 0) k) (sign-lanes ahead table pair is close k lt)
      ∙ ap (λ (n : ℕ). if nat_lt (way table pair k true) (way table pair k false) then slice_index ahead k else n) (zeros 64 k)) in
      lesser-number (nat_lt (way table pair k true) (way table pair k false)) (slice_index lesser_ways k) (slice_index zero_ways k)
      (slice_index ahead k) (way table pair k true) (way table pair k false)
      (taken.lane k lt ∙ ap (λ (n : ℕ). (slice_index zero_ways k + n) % 256) by) (zero_is.lane k lt) (is.lane k lt);
}

pub no-choices : (zero_way one_way k : ℕ) → (bit_at 0 k ≡ 1) ↔ (chosen false zero_way one_way ≡ true)
no-choices zero_way one_way k = ((λ e. absurd (omega (arith, bit_at-zero k))), λ e. absurd (true≢false (sym e)))

-- no step yet
pub lanes-start : (pairs : List StepCosts) → pairs ≡ [] → HasLanes (replicate 64 0) (λ k. least_from pairs k % 256)
lanes-start pairs none = record {
  count = refl;
  lane = λ k lt. zeros 64 k ∙ sym (ap (λ (ps : List StepCosts). least_from ps k % 256) none);
}

-- one step more
pub lanes-step : (all pairs : List StepCosts) (lanes : List ℕ) (free : Bool) (pair : StepCosts) → all ≡ pair ∷ pairs → free ≡ is_free (length pairs)
    → HasLanes lanes (λ k. lesser free (way (least_from pairs) pair k false) (way (least_from pairs) pair k true) % 256)
    → HasLanes lanes (λ k. least_from all k % 256)
lanes-step all pairs lanes free pair cons is has = record {
  count = has.count;
  lane = λ k lt.
      has.lane k lt
      ∙ (ap (λ (f : Bool). lesser f (way (least_from pairs) pair k false) (way (least_from pairs) pair k true) % 256) is
      ∙ sym (ap (λ (ps : List StepCosts). least_from ps k % 256) cons));
}

pub chosen-lanes : (pairs : List StepCosts) (word : ℕ) (free : Bool) (pair : StepCosts) → free ≡ is_free (length pairs)
    → ((k : ℕ) → k < 64 → (bit_at word k ≡ 1) ↔ (chosen free (way (least_from pairs) pair k false) (way (least_from pairs) pair k true) ≡ true))
    → (k : ℕ) → k < 64 → (bit_at word k ≡ 1) ↔ (chosen_at pairs pair k ≡ true)
chosen-lanes pairs word free pair is step k lt =
    let same : chosen free (way (least_from pairs) pair k false) (way (least_from pairs) pair k true) ≡ chosen_at pairs pair k =
    ap (λ (f : Bool). chosen f (way (least_from pairs) pair k false) (way (least_from pairs) pair k true)) is in
    ((λ e. sym same ∙ (step k lt).0 e), λ e. (step k lt).1 (same ∙ e))
