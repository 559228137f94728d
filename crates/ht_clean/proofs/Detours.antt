-- Along a detour the other input's distance grows by more than what the wrong places in it can pour into the bucket.
use Rattle.std.proofs.Common.{◌≡◌, ◌∙◌, ◌⊎◌, inl, inr, ℕ, zero, suc, ◌+◌, ◌-◌, ◌*◌, ◌/◌, ◌<◌, ◌≤◌, List, [], ◌∷◌, ◌++◌, length, drop, map, get_or}
use Rattle.std.proofs.Common.{Bool, true, false, true≢false, Option, Some, None, refl, ap, sym, subst, arith, add-one}
use mathlib.Core.Bool.{xor}
use Rattle.std.specs.Int.{from_bool}
use Rattle.std.specs.Prelude.{IsTrue}
use Rattle.std.specs.List.{flat_map, range_with_len}
use Rattle.std.proofs.Math.Seq.{drop-cons}
use Rattle.std.proofs.lemmas.Bool.{cases_lt}
use Rattle.std.proofs.lemmas.List.{drop_all, get_or_past, get_or-drop, get_or-map, get_or-replicate}
use Rattle.ht_rate.specs.declared.kinds.Pattern.{Pattern}
use Rattle.ht_conv.specs.declared.puncture.Kept.{Kept}
use Rattle.ht_conv.specs.declared.puncture.Kept.TheVariants.{Both, A, B}
use Rattle.ht_conv.specs.Code.{coded_bit, sent_at, taps_a, taps_b}
use Rattle.ht_conv.specs.Puncturing.{kept_bits, kept_count, kept_of, sent_count}
use Rattle.ht_viterbi.specs.Inputs.{IsFound, cost_of, is_before, is_terminated, place_cost, total_cost}
use Rattle.ht_viterbi.specs.Trellis.{moved, output_a, output_b}
use Rattle.ht_viterbi.proofs.Orders.{before-apart, zeros-end}
use Rattle.ht_clean.specs.Sparse.{IsSparse, level_at, wrong_at, wrong_before, wrong_of}
use Rattle.ht_clean.proofs.Gains.{gain, goes-on, none-gained, ones_of, returns-paid, weighs}
use Rattle.ht_clean.proofs.Linear.{differ, differ-a, differ-b, gap, gap-lt}

-- the first places of a word are known
abbrev pub AreKnown : List (Option Bool) → ℕ → (ℕ → Bool) → Type 0
AreKnown received count known = (place : ℕ) → place < count → get_or received place None ≡ Some (known place)

-- a place at which two codewords differ is wrong for one of them
place-apart : (r a b : Bool) → from_bool (xor a b) ≤ place_cost (Some r) a + place_cost (Some r) b
unfolding xor
place-apart false false false = omega arith
place-apart false false true = omega arith
place-apart false true false = omega arith
place-apart false true true = omega arith
place-apart true false false = omega arith
place-apart true false true = omega arith
place-apart true true false = omega arith
place-apart true true true = omega arith

known-apart : (p : Option Bool) (r a b : Bool) → p ≡ Some r → from_bool (xor a b) ≤ place_cost p a + place_cost p b
known-apart p r a b is = subst (λ (q : Option Bool). from_bool (xor a b) ≤ place_cost q a + place_cost q b) (sym is) (place-apart r a b)

step-apart : (kept : Kept) (received : List (Option Bool)) (known : ℕ → Bool) (count start : ℕ) (a b c d : Bool) → start + kept_count kept ≤ count
    → AreKnown received count known → ones_of kept (xor a c) (xor b d) ≤ wrong_of kept received start a b + wrong_of kept received start c d
step-apart Both received known count start a b c d fits are =
    omega (
      arith,
      known-apart (get_or received start None) (known start) a c (are start (omega (arith, fits))),
      known-apart (get_or received (start + 1) None) (known (start + 1)) b d (are (start + 1) (omega (arith, fits))),
    )
step-apart A received known count start a b c d fits are =
    known-apart (get_or received start None) (known start) a c (are start (omega (arith, fits)))
step-apart B received known count start a b c d fits are =
    known-apart (get_or received start None) (known start) b d (are start (omega (arith, fits)))

sent-more : (pattern : Pattern) (n k : ℕ) → sent_count pattern n ≤ sent_count pattern (n + k)
sent-more pattern n zero = let same : n + 0 ≡ n = omega arith in rw same (omega arith)
sent-more pattern n (suc k) = let same : n + suc k ≡ suc (n + k) = omega arith in rw same (omega (arith, sent-more pattern n k))

-- the places of a step lie among those of the word
pub step-within : (pattern : Pattern) (steps step : ℕ) → step < steps → sent_count pattern step + kept_count (kept_of pattern step) ≤ sent_count pattern steps
step-within pattern steps step lt =
    let whole : suc step + (steps - suc step) ≡ steps = omega (arith, lt) in
    subst (λ (n : ℕ). sent_count pattern (suc step) ≤ sent_count pattern n) whole (sent-more pattern (suc step) (steps - suc step))

-- what a step weighs, the two inputs' wrong places there share
step-weighs : (pattern : Pattern) (received : List (Option Bool)) (known : ℕ → Bool) (u v : List Bool) (steps t : ℕ) → t < steps
    → AreKnown received (sent_count pattern steps) known
    → weighs pattern t (gap u v t) (differ u v t) ≤ wrong_at pattern received u t + wrong_at pattern received v t
unfolding wrong_at
step-weighs pattern received known u v steps t lt are =
    let apart = step-apart (kept_of pattern t) received known (sent_count pattern steps) (sent_count pattern t)
    (coded_bit taps_a u t) (coded_bit taps_b u t) (coded_bit taps_a v t) (coded_bit taps_b v t) (step-within pattern steps t lt) are in
    let a : ones_of (kept_of pattern t) (output_a (gap u v t) (differ u v t)) (output_b (gap u v t) (differ u v t))
    ≡ ones_of (kept_of pattern t) (xor (coded_bit taps_a u t) (coded_bit taps_a v t)) (xor (coded_bit taps_b u t) (coded_bit taps_b v t)) =
    ap (λ (z : Bool). ones_of (kept_of pattern t) z (output_b (gap u v t) (differ u v t))) (differ-a u v t)
    ∙ ap (ones_of (kept_of pattern t) (xor (coded_bit taps_a u t) (coded_bit taps_a v t))) (differ-b u v t) in
    omega (arith, apart, a)

xor-same : (a b : Bool) → xor a b ≡ false → a ≡ b
unfolding xor
xor-same false false e = refl
xor-same false true e = sym e
xor-same true false e = e
xor-same true true e = refl

nothing-a : output_a 0 false ≡ false
unfolding output_a xor
nothing-a = refl

nothing-b : output_b 0 false ≡ false
unfolding output_b xor
nothing-b = refl

-- where the inputs run together, they have the same wrong places
step-same : (pattern : Pattern) (received : List (Option Bool)) (u v : List Bool) (t : ℕ) → gap u v t ≡ 0 → differ u v t ≡ false
    → wrong_at pattern received u t ≡ wrong_at pattern received v t
unfolding wrong_at
step-same pattern received u v t calm same =
    let a = xor-same (coded_bit taps_a u t) (coded_bit taps_a v t)
    (sym (differ-a u v t) ∙ (ap (λ (n : ℕ). output_a n (differ u v t)) calm ∙ (ap (output_a 0) same ∙ nothing-a))) in
    let b = xor-same (coded_bit taps_b u t) (coded_bit taps_b v t)
    (sym (differ-b u v t) ∙ (ap (λ (n : ℕ). output_b n (differ u v t)) calm ∙ (ap (output_b 0) same ∙ nothing-b))) in
    ap (λ (z : Bool). wrong_of (kept_of pattern t) received (sent_count pattern t) z (coded_bit taps_b u t)) a
    ∙ ap (wrong_of (kept_of pattern t) received (sent_count pattern t) (coded_bit taps_a v t)) b

-- the inputs are the same before a step
abbrev pub AreSame : List Bool → List Bool → ℕ → Type 0
AreSame u v t = (s : ℕ) → s < t → get_or u s false ≡ get_or v s false

-- between detours: the other input is the same so far, or farther
record IsCalm (pattern : Pattern) (received : List (Option Bool)) (u v : List Bool) (t : ℕ) : Type 0 where
  pub gone : gap u v t ≡ 0
  pub near : wrong_before pattern received u t ≤ wrong_before pattern received v t
  pub farther : AreSame u v t ⊎ (wrong_before pattern received u t < wrong_before pattern received v t)

-- on a detour: it has gained what the table says
IsAhead : Pattern → List (Option Bool) → List Bool → List Bool → ℕ → Type 0
IsAhead pattern received u v t =
    240 * wrong_before pattern received u t + gain pattern t (gap u v t) ≤ 240 * wrong_before pattern received v t + level_at pattern received u t

zero-or : (n : ℕ) → (n ≡ 0) ⊎ (0 < n)
zero-or zero = inl refl
zero-or (suc n) = inr (omega arith)

bit-or : (b : Bool) → (b ≡ false) ⊎ (b ≡ true)
bit-or false = inl refl
bit-or true = inr refl

calm-ahead : (pattern : Pattern) (received : List (Option Bool)) (u v : List Bool) (t : ℕ) → IsCalm pattern received u v t → IsAhead pattern received u v t
unfolding IsAhead
calm-ahead pattern received u v t calm =
    let none : gain pattern t (gap u v t) ≡ 0 = ap (gain pattern t) calm.gone ∙ none-gained pattern t in
    omega (arith, none, calm.near)

-- a step on a detour, or the one that begins it
ahead-step : (pattern : Pattern) (received : List (Option Bool)) (known : ℕ → Bool) (u v : List Bool) (steps t : ℕ) → t < steps
    → AreKnown received (sent_count pattern steps) known → IsSparse pattern received u steps → 0 < gap u v (suc t)
    → IsAhead pattern received u v t → IsAhead pattern received u v (suc t)
unfolding IsAhead gap
ahead-step pattern received known u v steps t lt are sparse away was =
    let weight = step-weighs pattern received known u v steps t lt are in
    let paid = goes-on pattern t (gap u v t) (differ u v t) (gap-lt u v t) away in
    omega (arith, weight, paid, was)

-- the step that ends one
ahead-ends : (pattern : Pattern) (received : List (Option Bool)) (known : ℕ → Bool) (u v : List Bool) (steps t : ℕ) → t < steps
    → AreKnown received (sent_count pattern steps) known → IsSparse pattern received u steps → 0 < gap u v t → gap u v (suc t) ≡ 0
    → IsAhead pattern received u v t → IsCalm pattern received u v (suc t)
unfolding IsAhead gap
ahead-ends pattern received known u v steps t lt are sparse away back was =
    let weight = step-weighs pattern received known u v steps t lt are in
    let paid = returns-paid pattern t (gap u v t) (differ u v t) (gap-lt u v t) away back in
    let farther : wrong_before pattern received u (suc t) < wrong_before pattern received v (suc t) = omega (arith, weight, paid, was, sparse t lt) in
    record { gone = back; near = omega (arith, farther); farther = inr farther }

same-more : (u v : List Bool) (t : ℕ) → differ u v t ≡ false → AreSame u v t → AreSame u v (suc t)
unfolding differ
same-more u v t same was s lt = elim (cases_lt s t) [
  | inl before ↦ was s before
  | inr here ↦
      let is : t ≡ s = omega (arith, lt, here) in
      ap (λ (n : ℕ). get_or u n false) (sym is) ∙ (xor-same (get_or u t false) (get_or v t false) same ∙ ap (λ (n : ℕ). get_or v n false) is)
]

moved-none : (n : ℕ) (b : Bool) → n ≡ 0 → b ≡ false → moved n b ≡ 0
moved-none n b is off = ap (λ (k : ℕ). moved k b) is ∙ ap (moved 0) off

moved-one : (n : ℕ) (b : Bool) → b ≡ true → 0 < moved n b
moved-one n b one = subst (λ (c : Bool). 0 < moved n c) (sym one) (omega arith)

-- a step on which the inputs run together
calm-stays : (pattern : Pattern) (received : List (Option Bool)) (u v : List Bool) (t : ℕ) → differ u v t ≡ false
    → IsCalm pattern received u v t → IsCalm pattern received u v (suc t)
unfolding gap
calm-stays pattern received u v t same calm =
    let equal = step-same pattern received u v t calm.gone same in
    record {
      gone = moved-none (gap u v t) (differ u v t) calm.gone same;
      near = omega (arith, equal, calm.near);
      farther = elim calm.farther [
        | inl alike ↦ inl (same-more u v t same alike)
        | inr more ↦ inr (omega (arith, equal, more))
      ];
    }

-- at each step the other input is on a detour or between them
IsOnItsWay : Pattern → List (Option Bool) → List Bool → List Bool → ℕ → Type 0
IsOnItsWay pattern received u v t = IsCalm pattern received u v t ⊎ ((0 < gap u v t) × IsAhead pattern received u v t)

way-step : (pattern : Pattern) (received : List (Option Bool)) (known : ℕ → Bool) (u v : List Bool) (steps t : ℕ) → t < steps
    → AreKnown received (sent_count pattern steps) known → IsSparse pattern received u steps
    → IsOnItsWay pattern received u v t → IsOnItsWay pattern received u v (suc t)
unfolding IsOnItsWay gap
way-step pattern received known u v steps t lt are sparse way = elim way [
  | inl calm ↦ elim (bit-or (differ u v t)) [
    | inl same ↦ inl (calm-stays pattern received u v t same calm)
    | inr apart ↦
        let away : 0 < gap u v (suc t) = moved-one (gap u v t) (differ u v t) apart in
        inr (away, ahead-step pattern received known u v steps t lt are sparse away (calm-ahead pattern received u v t calm))
  ]
  | inr detour ↦ elim (zero-or (gap u v (suc t))) [
    | inl back ↦ inl (ahead-ends pattern received known u v steps t lt are sparse detour.0 back detour.1)
    | inr away ↦ inr (away, ahead-step pattern received known u v steps t lt are sparse away detour.1)
  ]
]

way-on : (pattern : Pattern) (received : List (Option Bool)) (known : ℕ → Bool) (u v : List Bool) (steps t : ℕ) → t ≤ steps
    → AreKnown received (sent_count pattern steps) known → IsSparse pattern received u steps → IsOnItsWay pattern received u v t
unfolding IsOnItsWay gap
way-on pattern received known u v steps zero le are sparse =
    inl (record { gone = refl; near = omega arith; farther = inl (λ s lt. absurd (omega (arith, lt))) })
way-on pattern received known u v steps (suc t) le are sparse =
    way-step pattern received known u v steps t (omega (arith, le)) are sparse (way-on pattern received known u v steps t (omega (arith, le)) are sparse)

-- the distance is the number of wrong places of all steps
cost-place : (received : List (Option Bool)) (s : ℕ) (bit : Bool) (rest : List Bool)
    → total_cost place_cost (drop s received) (bit ∷ rest) ≡ place_cost (get_or received s None) bit + total_cost place_cost (drop (suc s) received) rest
cost-place received s bit rest = elim (cases_lt s (length received)) [
  | inl within ↦ ap (λ (z : List (Option Bool)). total_cost place_cost z (bit ∷ rest)) (drop-cons received s None within)
  | inr behind ↦
      let none : total_cost place_cost (drop s received) (bit ∷ rest) ≡ 0 =
      ap (λ (z : List (Option Bool)). total_cost place_cost z (bit ∷ rest)) (drop_all s received (omega (arith, behind))) in
      let here : place_cost (get_or received s None) bit ≡ 0 = ap (λ (p : Option Bool). place_cost p bit) (get_or_past received s None behind) in
      let after : total_cost place_cost (drop (suc s) received) rest ≡ 0 =
      ap (λ (z : List (Option Bool)). total_cost place_cost z rest) (drop_all (suc s) received (omega (arith, behind))) in
      omega (arith, none, here, after)
]

cost-step : (kept : Kept) (received : List (Option Bool)) (s : ℕ) (a b : Bool) (rest : List Bool)
    → total_cost place_cost (drop s received) (kept_bits kept a b ++ rest)
    ≡ wrong_of kept received s a b + total_cost place_cost (drop (s + kept_count kept) received) rest
cost-step Both received s a b rest =
    let one : suc s ≡ s + 1 = omega arith in
    let two : suc (suc s) ≡ s + 2 = omega arith in
    let first = cost-place received s a (b ∷ rest) in
    let second = cost-place received (suc s) b rest in
    let there : place_cost (get_or received (suc s) None) b ≡ place_cost (get_or received (s + 1) None) b =
    ap (λ (n : ℕ). place_cost (get_or received n None) b) one in
    let behind : total_cost place_cost (drop (suc (suc s)) received) rest ≡ total_cost place_cost (drop (s + 2) received) rest =
    ap (λ (n : ℕ). total_cost place_cost (drop n received) rest) two in
    omega (arith, first, second, there, behind)
cost-step A received s a b rest =
    let one : suc s ≡ s + 1 = omega arith in
    cost-place received s a rest ∙ ap (λ (n : ℕ). place_cost (get_or received s None) a + total_cost place_cost (drop n received) rest) one
cost-step B received s a b rest =
    let one : suc s ≡ s + 1 = omega arith in
    cost-place received s b rest ∙ ap (λ (n : ℕ). place_cost (get_or received s None) b + total_cost place_cost (drop n received) rest) one

cost-nothing : (received : List (Option Bool)) → total_cost place_cost received [] ≡ 0
cost-nothing [] = refl
cost-nothing (p ∷ received) = refl

step-cost : (pattern : Pattern) (received : List (Option Bool)) (u : List Bool) (t : ℕ) (rest : List Bool)
    → total_cost place_cost (drop (sent_count pattern t) received) (sent_at pattern u t ++ rest)
    ≡ wrong_at pattern received u t + total_cost place_cost (drop (sent_count pattern (suc t)) received) rest
unfolding wrong_at
step-cost pattern received u t rest =
    cost-step (kept_of pattern t) received (sent_count pattern t) (coded_bit taps_a u t) (coded_bit taps_b u t) rest

cost-steps : (pattern : Pattern) (received : List (Option Bool)) (u : List Bool) (n t end : ℕ) → t + n ≡ end
    → wrong_before pattern received u t + total_cost place_cost (drop (sent_count pattern t) received) (flat_map (sent_at pattern u) (range_with_len t n))
    ≡ wrong_before pattern received u end
cost-steps pattern received u zero t end e =
    let same : t ≡ end = omega (arith, e) in
    let nothing : total_cost place_cost (drop (sent_count pattern t) received) [] ≡ 0 = cost-nothing (drop (sent_count pattern t) received) in
    let counts : wrong_before pattern received u t ≡ wrong_before pattern received u end = ap (wrong_before pattern received u) same in
    omega (arith, nothing, counts)
cost-steps pattern received u (suc n) t end e =
    let here : total_cost place_cost (drop (sent_count pattern t) received) (sent_at pattern u t ++ flat_map (sent_at pattern u) (range_with_len (t + 1) n))
    ≡ wrong_at pattern received u t + total_cost place_cost (drop (sent_count pattern (suc t)) received)
    (flat_map (sent_at pattern u) (range_with_len (t + 1) n)) =
    step-cost pattern received u t (flat_map (sent_at pattern u) (range_with_len (t + 1) n)) in
    let rest : wrong_before pattern received u (suc t)
    + total_cost place_cost (drop (sent_count pattern (suc t)) received) (flat_map (sent_at pattern u) (range_with_len (t + 1) n))
    ≡ wrong_before pattern received u end =
    rw add-one (cost-steps pattern received u n (suc t) end (omega (arith, e))) in
    omega (arith, here, rest)

pub cost-wrong : (pattern : Pattern) (received : List (Option Bool)) (u : List Bool) (steps : ℕ) → length u ≡ steps
    → cost_of place_cost pattern received u ≡ wrong_before pattern received u steps
unfolding cost_of
cost-wrong pattern received u steps long =
    let whole = cost-steps pattern received u (length u) 0 steps (omega (arith, long)) in
    omega (arith, whole)

-- a terminated input has no bit that is 1 in its tail
tail-off : (steps : ℕ) (u : List Bool) (k : ℕ) → 6 ≤ steps → IsTrue (is_terminated steps u) → k < 6 → get_or u (steps - 6 + k) false ≡ false
tail-off steps u k many ends lt =
    let parts = zeros-end steps u many ends in
    sym (get_or-drop (steps - 6) u k false) ∙ (ap (λ (z : List Bool). get_or z k false) parts.1 ∙ get_or-replicate 6 k false false lt)

xor-none : (a b : Bool) → a ≡ false → b ≡ false → xor a b ≡ false
unfolding xor
xor-none a b is other = ap (λ (z : Bool). xor z b) is ∙ ap (xor false) other

halved : (n : ℕ) (b : Bool) → b ≡ false → moved n b ≡ n / 2
halved n b off = ap (moved n) off

gap-tail : (u v : List Bool) (t : ℕ) → differ u v t ≡ false → gap u v (suc t) ≡ gap u v t / 2
unfolding gap
gap-tail u v t off = halved (gap u v t) (differ u v t) off

-- so all detours end with the tail
gap-gone : (u v : List Bool) (steps : ℕ) → 6 ≤ steps → IsTrue (is_terminated steps u) → IsTrue (is_terminated steps v) → gap u v steps ≡ 0
unfolding differ
gap-gone u v steps many ends other =
    let t : ℕ = steps - 6 in
    let off : (k : ℕ) → k < 6 → xor (get_or u (t + k) false) (get_or v (t + k) false) ≡ false =
    λ k lt. xor-none _ _ (tail-off steps u k many ends lt) (tail-off steps v k many other lt) in
    let low = gap-lt u v t in
    let zeroth : t + 0 ≡ t = omega arith in
    let a : gap u v (suc t) ≡ gap u v t / 2 = gap-tail u v t (ap (λ (n : ℕ). xor (get_or u n false) (get_or v n false)) (sym zeroth) ∙ off 0 (omega arith)) in
    let b = gap-tail u v (t + 1) (off 1 (omega arith)) in
    let c = gap-tail u v (t + 2) (off 2 (omega arith)) in
    let d = gap-tail u v (t + 3) (off 3 (omega arith)) in
    let e = gap-tail u v (t + 4) (off 4 (omega arith)) in
    let f = gap-tail u v (t + 5) (off 5 (omega arith)) in
    let e1 : gap u v (suc t) ≡ gap u v (t + 1) = let n : suc t ≡ t + 1 = omega arith in ap (gap u v) n in
    let e2 : gap u v (suc (t + 1)) ≡ gap u v (t + 2) = let n : suc (t + 1) ≡ t + 2 = omega arith in ap (gap u v) n in
    let e3 : gap u v (suc (t + 2)) ≡ gap u v (t + 3) = let n : suc (t + 2) ≡ t + 3 = omega arith in ap (gap u v) n in
    let e4 : gap u v (suc (t + 3)) ≡ gap u v (t + 4) = let n : suc (t + 3) ≡ t + 4 = omega arith in ap (gap u v) n in
    let e5 : gap u v (suc (t + 4)) ≡ gap u v (t + 5) = let n : suc (t + 4) ≡ t + 5 = omega arith in ap (gap u v) n in
    let e6 : gap u v (suc (t + 5)) ≡ gap u v steps = let n : suc (t + 5) ≡ steps = omega (arith, many) in ap (gap u v) n in
    omega (arith, low, a, b, c, d, e, f, e1, e2, e3, e4, e5, e6)

-- two lists of one length with the same bits are one
same-all : (u v : List Bool) → length u ≡ length v → AreSame u v (length u) → u ≡ v
same-all [] [] len same = refl
same-all [] (b ∷ v) len same = absurd (omega (arith, len))
same-all (a ∷ u) [] len same = absurd (omega (arith, len))
same-all (a ∷ u) (b ∷ v) len same =
    ap (λ (x : Bool). x ∷ u) (same 0 (omega arith))
    ∙ ap (λ (xs : List Bool). b ∷ xs) (same-all u v (omega (arith, len)) (λ s lt. same (suc s) (omega (arith, lt))))

-- another terminated input is the same, or farther
pub same-or-farther : (steps : ℕ) (pattern : Pattern) (received : List (Option Bool)) (known : ℕ → Bool) (u v : List Bool) → 6 ≤ steps
    → AreKnown received (sent_count pattern steps) known → IsTrue (is_terminated steps u) → IsTrue (is_terminated steps v)
    → IsSparse pattern received u steps
    → (u ≡ v) ⊎ (cost_of place_cost pattern received u < cost_of place_cost pattern received v)
unfolding IsOnItsWay
same-or-farther steps pattern received known u v many are ends other sparse =
    let long = (zeros-end steps u many ends).0 in
    let long-too = (zeros-end steps v many other).0 in
    let gone = gap-gone u v steps many ends other in
    let cost = cost-wrong pattern received u steps long in
    let cost-too = cost-wrong pattern received v steps long-too in
    elim (way-on pattern received known u v steps steps (omega arith) are sparse) [
      | inl calm ↦ elim calm.farther [
        | inl same ↦ inl (same-all u v (long ∙ sym long-too) (subst (AreSame u v) (sym long) same))
        | inr more ↦ inr (omega (arith, more, cost, cost-too))
      ]
      | inr detour ↦ absurd (omega (arith, gone, detour.0))
    ]

-- so an input whose wrong places are sparse is found
pub sparse-found : (steps : ℕ) (pattern : Pattern) (received : List (Option Bool)) (known : ℕ → Bool) (u : List Bool) (wrong : ℕ) → 6 ≤ steps
    → AreKnown received (sent_count pattern steps) known → IsTrue (is_terminated steps u) → IsSparse pattern received u steps
    → wrong ≡ wrong_before pattern received u steps → IsFound place_cost steps pattern received u wrong
sparse-found steps pattern received known u wrong many are ends sparse count =
    let parts = zeros-end steps u many ends in
    record {
      input = record {
        within = ends;
        nearest = λ v other. elim (same-or-farther steps pattern received known u v many are ends other sparse) [
          | inl same ↦ subst (λ (w : List Bool). cost_of place_cost pattern received u ≤ cost_of place_cost pattern received w) same (omega arith)
          | inr more ↦ omega (arith, more)
        ];
        first = λ v other before. elim (same-or-farther steps pattern received known u v many are ends other sparse) [
          | inl same ↦ absurd (true≢false (sym (subst (λ (w : List Bool). IsTrue (is_before w u)) (sym same) before) ∙ before-apart u))
          | inr more ↦ more
        ];
      };
      cost = count ∙ sym (cost-wrong pattern received u steps parts.0);
      steps = parts.0;
      ending = parts.1;
    }

map-known : (received : List Bool) (place : ℕ) → place < length received → get_or (map Some received) place None ≡ Some (get_or received place false)
map-known received place lt = get_or-map Some received place false None lt

-- the places of a list are known
pub all-known : (received : List Bool) (count : ℕ) → count ≤ length received → AreKnown (map Some received) count (λ k. get_or received k false)
all-known received count long place lt = map-known received place (omega (arith, long, lt))
