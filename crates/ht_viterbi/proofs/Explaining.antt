-- Input that explains all places of a word's first steps, and one step more.
use Rattle.std.proofs.Common.{◌≡◌, ◌∙◌, ℕ, zero, suc, ◌+◌, ◌-◌, ◌<◌, ◌≤◌, List, [], ◌∷◌, ◌++◌, length, drop, map, reverse, take, get_or}
use Rattle.std.proofs.Common.{Bool, true, false, not, Option, Some, None, refl, ap, sym, subst, arith, ◌/◌, ◌*◌}
use Rattle.std.specs.Prelude.{IsTrue, ◌==◌}
use Rattle.std.specs.List.{list_all}
use Rattle.std.proofs.Math.Nat.{le-div_iff_mul-le, suc-mul}
use Rattle.std.proofs.lemmas.Bool.{and_from, not_from_false, eq-eqb}
use Rattle.std.proofs.lemmas.List.{append_assoc, map-append, reverse-append, length-append, length-drop, append-nil, get_or-drop, get_or-reverse}
use Rattle.std.proofs.lemmas.List.{get_or_past, take_all}
use Rattle.ht_rate.specs.declared.kinds.Pattern.{Pattern}
use Rattle.ht_rate.specs.declared.kinds.Pattern.TheVariants.{Half, TwoThirds, ThreeQuarters, FiveSixths}
use Rattle.ht_conv.specs.declared.puncture.Kept.{Kept}
use Rattle.ht_conv.specs.declared.puncture.Kept.TheVariants.{Both, A, B}
use Rattle.ht_conv.specs.Code.{sent_bits}
use Rattle.ht_conv.specs.Continued.{step_bits}
use Rattle.ht_conv.specs.Puncturing.{kept_bits, kept_count, kept_of, period_of, sent_count}
use Rattle.ht_conv.specs.Register.{history_of}
use Rattle.ht_conv.proofs.MidStream.{Agree, sent_bits-appended, sent_from-agree}
use Rattle.ht_viterbi.specs.Explained.{Explains, IsExplained}
use Rattle.ht_viterbi.specs.Inputs.{is_terminated}
use Rattle.ht_viterbi.specs.Trellis.{moved, output_a, output_b}
use Rattle.ht_viterbi.proofs.Sending.{agree-next, agree-start, half-bits, moved-lt, sent-grows}

-- one place more
take-next : {X : Type 0} (xs : List X) (n : ℕ) (d : X) → n < length xs → take (suc n) xs ≡ take n xs ++ get_or xs n d ∷ []
take-next [] n d lt = absurd (omega arith)
take-next (x ∷ xs) zero d lt = refl
take-next {X} (x ∷ xs) (suc n) d lt = ap (λ (z : List X). x ∷ z) (take-next xs n d (omega arith))

take-more : {X : Type 0} (xs : List X) (n : ℕ) (d : X) → n < length xs → take (n + 1) xs ≡ take n xs ++ get_or xs n d ∷ []
take-more {X} xs n d lt = let one : n + 1 ≡ suc n = omega arith in ap (λ (k : ℕ). take k xs) one ∙ take-next xs n d lt

-- the places of a step that is explained are what it sends
explained-places : (kept : Kept) (received : List (Option Bool)) (start state : ℕ) (bit : Bool) → start + kept_count kept ≤ length received
    → Explains kept received start state bit
    → take (start + kept_count kept) received ≡ take start received ++ map Some (kept_bits kept (output_a state bit) (output_b state bit))
explained-places Both received start state bit fits is =
    let two : start + 2 ≡ start + 1 + 1 = omega arith in
    ap (λ (n : ℕ). take n received) two
    ∙ (take-more received (start + 1) None (omega arith)
    ∙ (ap (λ (z : List (Option Bool)). z ++ get_or received (start + 1) None ∷ []) (take-more received start None (omega arith))
    ∙ (append_assoc (take start received) (get_or received start None ∷ []) (get_or received (start + 1) None ∷ [])
    ∙ (ap (λ (z : Option Bool). take start received ++ z ∷ get_or received (start + 1) None ∷ []) is.0
    ∙ ap (λ (z : Option Bool). take start received ++ Some (output_a state bit) ∷ z ∷ []) is.1))))
explained-places A received start state bit fits is =
    take-more received start None (omega (arith, fits)) ∙ ap (λ (z : Option Bool). take start received ++ z ∷ []) is
explained-places B received start state bit fits is =
    take-more received start None (omega (arith, fits)) ∙ ap (λ (z : Option Bool). take start received ++ z ∷ []) is

-- the earlier input and the register agree after one bit more
agree-more : (u new h : List Bool) (bit : Bool) → new ≡ u ++ bit ∷ [] → Agree (reverse u) h → Agree (bit ∷ h) (reverse new)
agree-more u new h bit is same zero lt = sym (ap (λ (z : List Bool). get_or z 0 false) (ap reverse is ∙ reverse-append u (bit ∷ [])))
agree-more u new h bit is same (suc d) lt =
    sym (same d (omega arith)) ∙ sym (ap (λ (z : List Bool). get_or z (suc d) false) (ap reverse is ∙ reverse-append u (bit ∷ [])))

-- what the input sends with one bit more
sent-more : (pattern : Pattern) (u : List Bool) (t state : ℕ) (bit : Bool) → length u ≡ t → Agree (reverse u) (history_of state)
    → sent_bits pattern (u ++ bit ∷ []) ≡ sent_bits pattern u ++ kept_bits (kept_of pattern t) (output_a state bit) (output_b state bit)
unfolding output_a output_b
sent-more pattern u t state bit count same =
    sent_bits-appended pattern u (bit ∷ [])
    ∙ ap (λ (z : List Bool). sent_bits pattern u ++ z)
    (sent_from-agree pattern (length u) (reverse u) (history_of state) (bit ∷ []) same
    ∙ (append-nil (step_bits pattern (length u) (bit ∷ history_of state))
    ∙ ap (λ (n : ℕ). step_bits pattern n (bit ∷ history_of state)) count))

-- one step more
pub explained-more : (pattern : Pattern) (received : List (Option Bool)) (u new : List Bool) (t next start end state after : ℕ) (kept : Kept) (bit : Bool)
    → next ≡ t + 1 → kept ≡ kept_of pattern t → end ≡ start + kept_count kept → end ≡ sent_count pattern next → end ≤ length received
    → after ≡ moved state bit → new ≡ u ++ bit ∷ [] → Explains kept received start state bit
    → IsExplained pattern received u t start state → IsExplained pattern received new next end after
explained-more pattern received u new t next start end state after kept bit next-is kept-is end-is place fits after-is new-is bit-is was =
    let one : length new ≡ length u + 1 = ap length new-is ∙ length-append u (bit ∷ []) in
    let sends : map Some (sent_bits pattern new) ≡ map Some (sent_bits pattern u) ++ map Some (kept_bits kept (output_a state bit) (output_b state bit)) =
    ap (λ (z : List Bool). map Some (sent_bits pattern z)) new-is
    ∙ (ap (map Some) (sent-more pattern u t state bit was.count was.register)
    ∙ (map-append Some (sent_bits pattern u) (kept_bits (kept_of pattern t) (output_a state bit) (output_b state bit))
    ∙ ap (λ (k : Kept). map Some (sent_bits pattern u) ++ map Some (kept_bits k (output_a state bit) (output_b state bit))) (sym kept-is))) in
    let places = explained-places kept received start state bit (omega (arith, fits, end-is)) bit-is in
    record {
      count = omega (arith, one, was.count, next-is);
      place = place;
      low = subst (λ (n : ℕ). n < 64) (sym after-is) (moved-lt state bit was.low);
      register = λ d lt.
          sym (agree-more u new (history_of state) bit new-is was.register d lt)
          ∙ (agree-next (history_of (moved state bit)) bit _ _ _ _ _ _ (half-bits state was.low bit) d lt
          ∙ ap (λ (n : ℕ). get_or (history_of n) d false) (sym after-is));
      sent = sends
          ∙ (ap (λ (z : List (Option Bool)). z ++ map Some (kept_bits kept (output_a state bit) (output_b state bit))) was.sent
          ∙ (sym places ∙ ap (λ (n : ℕ). take n received) (sym end-is)));
    }

-- no step is explained before the first
pub explained-none : (pattern : Pattern) (received : List (Option Bool)) (u : List Bool) (state : ℕ) → u ≡ [] → state ≡ 0
    → IsExplained pattern received u 0 0 state
explained-none pattern received u state is zero-is = record {
  count = ap length is;
  place = refl;
  low = omega (arith, zero-is);
  register = λ d lt. ap (λ (z : List Bool). get_or (reverse z) d false) is ∙ (agree-start d lt ∙ ap (λ (n : ℕ). get_or (history_of n) d false) (sym zero-is));
  sent = ap (λ (z : List Bool). map Some (sent_bits pattern z)) is;
}

all-not : (xs : List Bool) → ((k : ℕ) → k < length xs → get_or xs k false ≡ false) → list_all not xs ≡ true
all-not [] none = refl
all-not (x ∷ xs) none = and_from (not x) (list_all not xs) (not_from_false x (none 0 (omega arith))) (all-not xs (λ k lt. none (suc k) (omega arith)))

-- a register of zeros behind the last step is a tail of zeros
pub explained-ends : (pattern : Pattern) (received : List (Option Bool)) (u : List Bool) (steps start state : ℕ) → state ≡ 0 → 6 ≤ steps
    → IsExplained pattern received u steps start state → IsTrue (is_terminated steps u)
unfolding is_terminated
explained-ends pattern received u steps start state zero-is many was =
    let count = was.count in
    let long = length-drop (steps - 6) u in
    let zeros : (k : ℕ) → k < length (drop (steps - 6) u) → get_or (drop (steps - 6) u) k false ≡ false = λ k lt.
    let at : length u - 1 - (5 - k) ≡ steps - 6 + k = omega (arith, count, many, lt, long) in
    let back = get_or-reverse u (5 - k) false (omega (arith, count, many)) in
    let state_bit : get_or (reverse u) (5 - k) false ≡ get_or (history_of state) (5 - k) false = was.register (5 - k) (omega arith) in
    get_or-drop (steps - 6) u k false
    ∙ (sym (ap (λ (n : ℕ). get_or u n false) at)
    ∙ (sym back
    ∙ (state_bit
    ∙ (ap (λ (n : ℕ). get_or (history_of n) (5 - k) false) zero-is
    ∙ (sym (agree-start (5 - k) (omega arith)) ∙ get_or_past [] (5 - k) false (omega arith)))))) in
    and_from (length u == steps) (list_all not (drop (steps - 6) u)) (eq-eqb (length u) steps count) (all-not (drop (steps - 6) u) zeros)

-- all places are explained where all steps are
pub explained-all : (pattern : Pattern) (received : List (Option Bool)) (u : List Bool) (steps start state : ℕ) → length received ≡ sent_count pattern steps
    → IsExplained pattern received u steps start state → map Some (sent_bits pattern u) ≡ received
explained-all pattern received u steps start state many was =
    was.sent ∙ (ap (λ (n : ℕ). take n received) (was.place ∙ sym many) ∙ take_all (length received) received (omega arith))

-- the places of a whole turn lie among those of the word
pub sent-within : (pattern : Pattern) (steps turn len : ℕ) → 0 < len → turn < steps / len → sent_count pattern (turn * len + len) ≤ sent_count pattern steps
sent-within pattern steps turn len some lt =
    let most : suc turn * len ≤ steps = (le-div_iff_mul-le some).0 lt in
    let whole : turn * len + len + (steps - (turn * len + len)) ≡ steps = omega (arith, most, suc-mul turn len) in
    subst (λ (n : ℕ). sent_count pattern (turn * len + len) ≤ sent_count pattern n) whole (sent-grows pattern (steps - (turn * len + len)) (turn * len + len))

pub period-some : (pattern : Pattern) → 0 < length (period_of pattern)
period-some Half = omega arith
period-some TwoThirds = omega arith
period-some ThreeQuarters = omega arith
period-some FiveSixths = omega arith
