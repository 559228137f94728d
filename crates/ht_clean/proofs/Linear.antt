-- The difference of two inputs runs through the same trellis: the code is linear.
use Rattle.std.proofs.Common.{◌≡◌, ◌∙◌, inl, inr, ℕ, zero, suc, ◌-◌, ◌<◌, ◌≤◌, List, [], ◌∷◌, map, take, get_or}
use Rattle.std.proofs.Common.{Bool, true, false, refl, ap, sym, arith, nat_le}
use mathlib.Core.Bool.{xor}
use Rattle.std.proofs.lemmas.Bool.{cond-true, cond-false, le-leb, lt-leb, cases_lt}
use Rattle.ht_conv.specs.Code.{coded_bit, delayed_bit, parity, taps_a, taps_b}
use Rattle.ht_conv.specs.Continued.{tapped}
use Rattle.ht_conv.specs.Register.{history_of}
use Rattle.ht_viterbi.specs.Trellis.{moved, output_a, output_b}
use Rattle.ht_viterbi.proofs.Sending.{half-bits, moved-lt}

-- whether two inputs differ at a step
unfoldable pub differ : List Bool → List Bool → ℕ → Bool
differ u v step = xor (get_or u step false) (get_or v step false)

-- the state of their difference before a step
unfoldable pub gap : List Bool → List Bool → ℕ → ℕ
gap u v zero = 0
gap u v (suc step) = moved (gap u v step) (differ u v step)

pub gap-lt : (u v : List Bool) (t : ℕ) → gap u v t < 64
unfolding gap
gap-lt u v zero = omega arith
gap-lt u v (suc t) = moved-lt (gap u v t) (differ u v t) (gap-lt u v t)

pub delayed-within : (u : List Bool) (t d : ℕ) → d ≤ t → delayed_bit u t d ≡ get_or u (t - d) false
delayed-within u t d h = cond-true (nat_le d t) _ _ (le-leb d t h)

pub delayed-before : (u : List Bool) (t d : ℕ) → t < d → delayed_bit u t d ≡ false
delayed-before u t d h = cond-false (nat_le d t) _ _ (lt-leb d t h)

pub delayed-suc : (u : List Bool) (t d : ℕ) → delayed_bit u (suc t) (suc d) ≡ delayed_bit u t d
delayed-suc u t d = elim (cases_lt t d) [
  | inl before ↦ delayed-before u (suc t) (suc d) (omega arith) ∙ sym (delayed-before u t d before)
  | inr within ↦
      let same : suc t - suc d ≡ t - d = omega arith in
      delayed-within u (suc t) (suc d) (omega arith) ∙ (ap (λ (n : ℕ). get_or u n false) same ∙ sym (delayed-within u t d within))
]

pub delayed-now : (u : List Bool) (t : ℕ) → delayed_bit u t 0 ≡ get_or u t false
delayed-now u t = let same : t - 0 ≡ t = omega arith in delayed-within u t 0 (omega arith) ∙ ap (λ (n : ℕ). get_or u n false) same

-- a bit of the difference, so many steps before
abbrev delayed_gap : List Bool → List Bool → ℕ → ℕ → Bool
delayed_gap u v t d = xor (delayed_bit u t d) (delayed_bit v t d)

gap-suc : (u v : List Bool) (t d : ℕ) → delayed_gap u v (suc t) (suc d) ≡ delayed_gap u v t d
gap-suc u v t d = ap (λ (b : Bool). xor b (delayed_bit v (suc t) (suc d))) (delayed-suc u t d) ∙ ap (xor (delayed_bit u t d)) (delayed-suc v t d)

gap-now : (u v : List Bool) (t : ℕ) → differ u v t ≡ delayed_gap u v t 0
unfolding differ
gap-now u v t = sym (ap (λ (b : Bool). xor b (delayed_bit v t 0)) (delayed-now u t) ∙ ap (xor (get_or u t false)) (delayed-now v t))

none-before : (u v : List Bool) (d : ℕ) → false ≡ delayed_gap u v 0 (suc d)
unfolding xor
none-before u v d = sym (ap (λ (b : Bool). xor b (delayed_bit v 0 (suc d))) (delayed-before u 0 (suc d) (omega arith)) ∙ ap (xor false)
    (delayed-before v 0 (suc d) (omega arith)))

-- the six bits that the state of the difference remembers
pub remembers : (u v : List Bool) (t : ℕ) → history_of (gap u v t)
    ≡ delayed_gap u v t 1 ∷ delayed_gap u v t 2 ∷ delayed_gap u v t 3 ∷ delayed_gap u v t 4 ∷ delayed_gap u v t 5 ∷ delayed_gap u v t 6 ∷ []
unfolding gap
remembers u v zero =
    let e1 = none-before u v 0 in
    let e2 = none-before u v 1 in
    let e3 = none-before u v 2 in
    let e4 = none-before u v 3 in
    let e5 = none-before u v 4 in
    let e6 = none-before u v 5 in
    cc
remembers u v (suc t) =
    let was = remembers u v t in
    let now = half-bits (gap u v t) (gap-lt u v t) (differ u v t) in
    let e1 : differ u v t ≡ delayed_gap u v (suc t) 1 = gap-now u v t ∙ sym (gap-suc u v t 0) in
    let e2 = gap-suc u v t 1 in
    let e3 = gap-suc u v t 2 in
    let e4 = gap-suc u v t 3 in
    let e5 = gap-suc u v t 4 in
    let e6 = gap-suc u v t 5 in
    now ∙ (ap (λ (h : List Bool). differ u v t ∷ take 5 h) was ∙ cc)

mix-four : (a b c d : Bool) → xor (xor a b) (xor c d) ≡ xor (xor a c) (xor b d)
unfolding xor
mix-four false false false false = refl
mix-four false false false true = refl
mix-four false false true false = refl
mix-four false false true true = refl
mix-four false true false false = refl
mix-four false true false true = refl
mix-four false true true false = refl
mix-four false true true true = refl
mix-four true false false false = refl
mix-four true false false true = refl
mix-four true false true false = refl
mix-four true false true true = refl
mix-four true true false false = refl
mix-four true true false true = refl
mix-four true true true false = refl
mix-four true true true true = refl

-- the parity of differences is the difference of the parities
parity-mix : (f g : ℕ → Bool) (taps : List ℕ) → parity (map (λ d. xor (f d) (g d)) taps) ≡ xor (parity (map f taps)) (parity (map g taps))
unfolding xor
parity-mix f g [] = refl
parity-mix f g (d ∷ taps) =
    ap (xor (xor (f d) (g d))) (parity-mix f g taps) ∙ mix-four (f d) (g d) (parity (map f taps)) (parity (map g taps))

-- so the coded bits that the difference gives tell where those of the two inputs differ
pub differ-a : (u v : List Bool) (t : ℕ) → output_a (gap u v t) (differ u v t) ≡ xor (coded_bit taps_a u t) (coded_bit taps_a v t)
unfolding output_a
differ-a u v t =
    ap (λ (b : Bool). tapped taps_a (b ∷ history_of (gap u v t))) (gap-now u v t)
    ∙ (ap (λ (h : List Bool). tapped taps_a (delayed_gap u v t 0 ∷ h)) (remembers u v t)
    ∙ parity-mix (delayed_bit u t) (delayed_bit v t) taps_a)

pub differ-b : (u v : List Bool) (t : ℕ) → output_b (gap u v t) (differ u v t) ≡ xor (coded_bit taps_b u t) (coded_bit taps_b v t)
unfolding output_b
differ-b u v t =
    ap (λ (b : Bool). tapped taps_b (b ∷ history_of (gap u v t))) (gap-now u v t)
    ∙ (ap (λ (h : List Bool). tapped taps_b (delayed_gap u v t 0 ∷ h)) (remembers u v t)
    ∙ parity-mix (delayed_bit u t) (delayed_bit v t) taps_b)
