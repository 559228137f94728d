-- What an input sends, step by step: from the whole list's formula to the bits of one step and then the rest.
use Rattle.std.proofs.Common.{◌≡◌, ℕ, zero, suc, ◌+◌, ◌-◌, ◌<◌, ◌≤◌, List, [], ◌∷◌, ◌++◌, map, reverse, length, drop}
use Rattle.std.proofs.Common.{get_or, Bool, true, false, nat_le, refl, ap, sym, ◌∙◌, inl, inr, arith, add-one, append_assoc}
use mathlib.Core.Bool.{xor}
use mathlib.Core.List.{reverse_aux}
use Rattle.std.specs.List.{flat_map, range_with_len}
use Rattle.std.proofs.Math.Seq.{drop-cons}
use Rattle.std.proofs.lemmas.List.{drop_all, length-append}
use Rattle.std.proofs.lemmas.Bool.{cond-true, cond-false, le-leb, lt-leb, cases_lt}
use Rattle.ht_rate.specs.declared.kinds.Pattern.{Pattern}
use Rattle.ht_conv.specs.declared.puncture.Kept.{Kept}
use Rattle.ht_conv.specs.declared.puncture.Kept.TheVariants.{Both, A, B}
use Rattle.ht_conv.specs.Puncturing.{kept_of, kept_bits, kept_count, sent_count}
use Rattle.ht_conv.specs.Code.{taps_a, taps_b, parity, delayed_bit, coded_bit, sent_at, sent_bits}
use Rattle.ht_conv.specs.Continued.{tapped, step_bits, sent_from}

-- the input before a step, the latest bit first
past : List Bool → ℕ → List Bool
past u zero = []
past u (suc t) = get_or u t false ∷ past u t

delayed-within : (u : List Bool) (t d : ℕ) → d ≤ t → delayed_bit u t d ≡ get_or u (t - d) false
delayed-within u t d h = cond-true (nat_le d t) _ _ (le-leb d t h)

delayed-before : (u : List Bool) (t d : ℕ) → t < d → delayed_bit u t d ≡ false
delayed-before u t d h = cond-false (nat_le d t) _ _ (lt-leb d t h)

delayed-suc : (u : List Bool) (t d : ℕ) → delayed_bit u (suc t) (suc d) ≡ delayed_bit u t d
delayed-suc u t d = elim (cases_lt t d) [
  | inl before ↦ delayed-before u (suc t) (suc d) (omega arith) ∙ sym (delayed-before u t d before)
  | inr within ↦
      let same : suc t - suc d ≡ t - d = omega arith in
      delayed-within u (suc t) (suc d) (omega arith) ∙ (ap (λ (n : ℕ). get_or u n false) same ∙ sym (delayed-within u t d within))
]

delayed-past : (u : List Bool) (t d : ℕ) → delayed_bit u t d ≡ get_or (past u (suc t)) d false
unfolding past
delayed-past u t zero = let same : t - 0 ≡ t = omega arith in delayed-within u t 0 (omega arith) ∙ ap (λ (n : ℕ). get_or u n false) same
delayed-past u zero (suc d) = delayed-before u 0 (suc d) (omega arith)
delayed-past u (suc t) (suc d) = delayed-suc u t d ∙ delayed-past u t d

map-same : (f g : ℕ → Bool) → ((d : ℕ) → f d ≡ g d) → (taps : List ℕ) → map f taps ≡ map g taps
map-same f g same [] = refl
map-same f g same (d ∷ taps) = ap (λ (b : Bool). b ∷ map f taps) (same d) ∙ ap (λ (bs : List Bool). g d ∷ bs) (map-same f g same taps)

coded-past : (taps : List ℕ) (u : List Bool) (t : ℕ) → coded_bit taps u t ≡ tapped taps (past u (suc t))
coded-past taps u t = ap parity (map-same (delayed_bit u t) (λ d. get_or (past u (suc t)) d false) (delayed-past u t) taps)

sent_at-past : (p : Pattern) (u : List Bool) (t : ℕ) → sent_at p u t ≡ step_bits p t (past u (suc t))
sent_at-past p u t =
    ap (λ (a : Bool). kept_bits (kept_of p t) a (coded_bit taps_b u t)) (coded-past taps_a u t)
    ∙ ap (λ (b : Bool). kept_bits (kept_of p t) (tapped taps_a (past u (suc t))) b) (coded-past taps_b u t)

from-past : (p : Pattern) (u : List Bool) (n t : ℕ) → t + n ≡ length u → sent_from p t (past u t) (drop t u) ≡ flat_map (sent_at p u) (range_with_len t n)
unfolding past
from-past p u zero t e = ap (sent_from p t (past u t)) (drop_all t u (omega arith))
from-past p u (suc n) t e =
    ap (sent_from p t (past u t)) (drop-cons u t false (omega arith))
    ∙ (ap (λ (bs : List Bool). bs ++ sent_from p (suc t) (past u (suc t)) (drop (suc t) u)) (sym (sent_at-past p u t))
    ∙ ap (λ (bs : List Bool). sent_at p u t ++ bs) (rw add-one (from-past p u n (suc t) (omega arith))))

-- the whole input from the first step on
pub sent_bits-from : (p : Pattern) (u : List Bool) → sent_bits p u ≡ sent_from p 0 [] u
unfolding past
sent_bits-from p u = sym (from-past p u (length u) 0 (omega arith))

-- two lists of earlier input that agree on the last six bits
abbrev pub Agree : List Bool → List Bool → Type 0
Agree h k = (d : ℕ) → d < 6 → get_or h d false ≡ get_or k d false

step_bits-agree : (p : Pattern) (t : ℕ) (b : Bool) (h k : List Bool) → Agree h k → step_bits p t (b ∷ h) ≡ step_bits p t (b ∷ k)
step_bits-agree p t b h k same =
    let e0 : get_or h 0 false ≡ get_or k 0 false = same 0 (omega arith) in
    let e1 : get_or h 1 false ≡ get_or k 1 false = same 1 (omega arith) in
    let e2 : get_or h 2 false ≡ get_or k 2 false = same 2 (omega arith) in
    let e4 : get_or h 4 false ≡ get_or k 4 false = same 4 (omega arith) in
    let e5 : get_or h 5 false ≡ get_or k 5 false = same 5 (omega arith) in
    cc

agree-more : (b : Bool) (h k : List Bool) → Agree h k → Agree (b ∷ h) (b ∷ k)
agree-more b h k same zero lt = refl
agree-more b h k same (suc d) lt = same d (omega arith)

-- only the last six bits of the earlier input count
pub sent_from-agree : (p : Pattern) (t : ℕ) (h k u : List Bool) → Agree h k → sent_from p t h u ≡ sent_from p t k u
sent_from-agree p t h k [] same = refl
sent_from-agree p t h k (b ∷ u) same =
    ap (λ (bs : List Bool). bs ++ sent_from p (suc t) (b ∷ h) u) (step_bits-agree p t b h k same)
    ∙ ap (λ (bs : List Bool). step_bits p t (b ∷ k) ++ bs) (sent_from-agree p (suc t) (b ∷ h) (b ∷ k) u (agree-more b h k same))

-- input that follows other input
from-appended : (p : Pattern) (t end : ℕ) (h u v : List Bool) → t + length u ≡ end
    → sent_from p t h (u ++ v) ≡ sent_from p t h u ++ sent_from p end (reverse_aux u h) v
from-appended p t end h [] v e = let same : t ≡ end = omega arith in ap (λ (n : ℕ). sent_from p n h v) same
from-appended p t end h (b ∷ u) v e =
    ap (λ (bs : List Bool). step_bits p t (b ∷ h) ++ bs) (from-appended p (suc t) end (b ∷ h) u v (omega arith))
    ∙ sym (append_assoc (step_bits p t (b ∷ h)) (sent_from p (suc t) (b ∷ h) u) (sent_from p end (reverse_aux u (b ∷ h)) v))

pub sent_bits-appended : (p : Pattern) (u v : List Bool) → sent_bits p (u ++ v) ≡ sent_bits p u ++ sent_from p (length u) (reverse u) v
sent_bits-appended p u v =
    sent_bits-from p (u ++ v)
    ∙ (from-appended p 0 (length u) [] u v (omega arith)
    ∙ ap (λ (bs : List Bool). bs ++ sent_from p (length u) (reverse u) v) (sym (sent_bits-from p u)))

xor-left : (a b c : Bool) → xor a c ≡ xor b c → a ≡ b
unfolding xor
xor-left false false c e = refl
xor-left true true c e = refl
xor-left false true false e = cc
xor-left false true true e = cc
xor-left true false false e = cc
xor-left true false true e = cc

-- each generator taps the present input, so its bit tells the input's bit
first-a : (a b : Bool) (h : List Bool) → tapped taps_a (a ∷ h) ≡ tapped taps_a (b ∷ h) → a ≡ b
first-a a b h e = xor-left a b (tapped (1 ∷ 2 ∷ 4 ∷ 5 ∷ []) h) e

first-b : (a b : Bool) (h : List Bool) → tapped taps_b (a ∷ h) ≡ tapped taps_b (b ∷ h) → a ≡ b
first-b a b h e = xor-left a b (tapped (0 ∷ 1 ∷ 2 ∷ 5 ∷ []) h) e

step-equal : (kept : Kept) (a b : Bool) (h r s : List Bool)
    → kept_bits kept (tapped taps_a (a ∷ h)) (tapped taps_b (a ∷ h)) ++ r ≡ kept_bits kept (tapped taps_a (b ∷ h)) (tapped taps_b (b ∷ h)) ++ s
    → (a ≡ b) × (r ≡ s)
step-equal Both a b h r s e = (first-a a b h (cc), cc)
step-equal A a b h r s e = (first-a a b h (cc), cc)
step-equal B a b h r s e = (first-b a b h (cc), cc)

-- two inputs that send the same after the same earlier input are the same
pub sent_from-equal : (p : Pattern) (t : ℕ) (h u v : List Bool) → length u ≡ length v → sent_from p t h u ≡ sent_from p t h v → u ≡ v
sent_from-equal p t h [] [] len e = refl
sent_from-equal p t h [] (b ∷ v) len e = absurd (omega arith)
sent_from-equal p t h (a ∷ u) [] len e = absurd (omega arith)
sent_from-equal p t h (a ∷ u) (b ∷ v) len e =
    let parts = step-equal (kept_of p t) a b h (sent_from p (suc t) (a ∷ h) u) (sent_from p (suc t) (b ∷ h) v) e in
    let rest = sent_from-equal p (suc t) (a ∷ h) u v (omega arith) (parts.1 ∙ ap (λ (x : Bool). sent_from p (suc t) (x ∷ h) v) (sym parts.0)) in
    ap (λ (x : Bool). x ∷ u) parts.0 ∙ ap (λ (xs : List Bool). b ∷ xs) rest

pub length-kept_bits : (kept : Kept) (a b : Bool) → length (kept_bits kept a b) ≡ kept_count kept
length-kept_bits Both a b = refl
length-kept_bits A a b = refl
length-kept_bits B a b = refl

length-steps : (p : Pattern) (u : List Bool) (n t end : ℕ) → t + n ≡ end
    → sent_count p t + length (flat_map (sent_at p u) (range_with_len t n)) ≡ sent_count p end
length-steps p u zero t end e =
    let same : t ≡ end = omega arith in
    let counts : sent_count p t ≡ sent_count p end = ap (sent_count p) same in
    omega arith
length-steps p u (suc n) t end e =
    let here = length-kept_bits (kept_of p t) (coded_bit taps_a u t) (coded_bit taps_b u t) in
    let both = length-append (sent_at p u t) (flat_map (sent_at p u) (range_with_len (t + 1) n)) in
    let rest : sent_count p (suc t) + length (flat_map (sent_at p u) (range_with_len (t + 1) n)) ≡ sent_count p end =
    rw add-one (length-steps p u n (suc t) end (omega arith)) in
    omega arith

-- as many bits are sent as are kept of this many steps
pub length-sent_bits : (p : Pattern) (u : List Bool) → length (sent_bits p u) ≡ sent_count p (length u)
length-sent_bits p u = omega (arith, length-steps p u (length u) 0 (length u) (omega arith))
