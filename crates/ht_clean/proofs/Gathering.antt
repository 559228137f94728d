-- The planes of a word, by the test of its layout, and the places at which they are wrong.
use Rattle.std.proofs.Common.{◌≡◌, ◌∙◌, inl, inr, ℕ, zero, suc, ◌+◌, ◌<◌, ◌≤◌, Bool, true, false, not, ◌&&◌, ◌||◌}
use Rattle.std.proofs.Common.{true≢false, Option, None, Some, refl, ap, sym, subst, arith}
use mathlib.Core.Bool.{xor}
use Rattle.std.specs.Int.{from_bool}
use Rattle.std.specs.Int.RustNames.{bit_and, bit_xor}
use Rattle.std.proofs.lemmas.Bool.{and_parts, cases_lt, eqb-true}
use Rattle.ht_rate.specs.declared.kinds.Pattern.{Pattern}
use Rattle.ht_conv.specs.declared.puncture.Kept.{Kept}
use Rattle.ht_conv.specs.declared.puncture.Kept.TheVariants.{Both, A, B}
use Rattle.ht_conv.specs.Code.{taps_a, taps_b}
use Rattle.ht_conv.specs.Puncturing.{kept_of, sent_count}
use Rattle.ht_viterbi.specs.Packed.{flag, word_steps}
use Rattle.ht_clean.specs.Planes.{HasPlanes, and_then, back, coded_in, holds_below, is_at, is_layout, keeps_a, keeps_b, place_b}
use Rattle.ht_clean.specs.Planes.{plane_bits, takes_step, traced, word_wrong, wrong_bits}
use Rattle.ht_clean.specs.declared.layout.Layout.{Layout}
use Rattle.ht_clean.specs.declared.planes.Planes.{Planes}
use Rattle.ht_clean.proofs.Flags.{flag-and, flag-xor, link}

pub from-pattern : (pattern other : Pattern) (layout : Layout) → pattern ≡ other → is_layout other layout ≡ true → is_layout pattern layout ≡ true
from-pattern pattern other layout is test = subst (λ (p : Pattern). is_layout p layout ≡ true) (sym is) test

holds-at : (test : ℕ → Bool) (n k : ℕ) → holds_below test n ≡ true → k < n → test k ≡ true
holds-at test zero k all lt = absurd (omega (arith, lt))
holds-at test (suc n) k all lt =
    let parts = and_parts (test n) (holds_below test n) all in
    elim (cases_lt k n) [
      | inl below ↦ holds-at test n k parts.1 below
      | inr here ↦ let same : n ≡ k = omega (arith, lt, here) in subst (λ (m : ℕ). test m ≡ true) same parts.0
    ]

at-some : (o : Option ℕ) (place : ℕ) → is_at o place ≡ true → o ≡ Some place
at-some None place is = absurd (true≢false (sym is))
at-some (Some origin) place is = ap Some (eqb-true origin place is)

unless : (p q : Bool) → not p || q ≡ true → p ≡ true → q ≡ true
unless true q either is = either
unless false q either is = absurd (true≢false (sym is))

xor-not : (a b : Bool) → not (xor a b) ≡ true → a ≡ b
unfolding xor
xor-not false false is = refl
xor-not false true is = absurd (true≢false (sym is))
xor-not true false is = absurd (true≢false (sym is))
xor-not true true is = refl

-- what the test of a layout says of a step
record TakesStep (pattern : Pattern) (layout : Layout) (step : ℕ) : Type 0 where
  pub a : keeps_a (kept_of pattern step) ≡ true → and_then (traced layout step) (back 1 layout.a) ≡ Some (sent_count pattern step)
  pub b : keeps_b (kept_of pattern step) ≡ true
      → and_then (traced layout step) (back 1 layout.b) ≡ Some (place_b (kept_of pattern step) (sent_count pattern step))
  pub kept_a : flag layout.kept.a step ≡ keeps_a (kept_of pattern step)
  pub kept_b : flag layout.kept.b step ≡ keeps_b (kept_of pattern step)

step-taken : (pattern : Pattern) (layout : Layout) (step : ℕ) → takes_step pattern layout step ≡ true → TakesStep pattern layout step
unfolding takes_step
step-taken pattern layout step is =
    let first = and_parts _ _ is in
    let second = and_parts _ _ first.0 in
    let third = and_parts _ _ second.0 in
    record {
      a = λ keeps. at-some _ _ (unless _ _ third.0 keeps);
      b = λ keeps. at-some _ _ (unless _ _ third.1 keeps);
      kept_a = xor-not _ _ second.1;
      kept_b = xor-not _ _ first.1;
    }

taken : (pattern : Pattern) (layout : Layout) → is_layout pattern layout ≡ true → (step : ℕ) → step < word_steps pattern → TakesStep pattern layout step
unfolding is_layout
taken pattern layout is step lt = step-taken pattern layout step (holds-at (takes_step pattern layout) (word_steps pattern) step is lt)

pub planes-are : (pattern : Pattern) (layout : Layout) (word drawn_a drawn_b a b : ℕ) → is_layout pattern layout ≡ true
    → ((place origin : ℕ) → back 1 layout.a place ≡ Some origin → flag drawn_a place ≡ flag word origin)
    → ((place origin : ℕ) → traced layout place ≡ Some origin → flag a place ≡ flag drawn_a origin)
    → ((place origin : ℕ) → back 1 layout.b place ≡ Some origin → flag drawn_b place ≡ flag word origin)
    → ((place origin : ℕ) → traced layout place ≡ Some origin → flag b place ≡ flag drawn_b origin)
    → HasPlanes pattern word (record { a = a; b = b })
planes-are pattern layout word drawn_a drawn_b a b is from-a through-a from-b through-b = record {
  a = λ step lt keeps.
      link (traced layout step) (back 1 layout.a) (sent_count pattern step) (flag a step) (flag word (sent_count pattern step)) (flag drawn_a)
      ((taken pattern layout is step lt).a keeps) (λ k e. through-a step k e) (λ k e. from-a k (sent_count pattern step) e);
  b = λ step lt keeps.
      link (traced layout step) (back 1 layout.b) (place_b (kept_of pattern step) (sent_count pattern step)) (flag b step)
      (flag word (place_b (kept_of pattern step) (sent_count pattern step))) (flag drawn_b)
      ((taken pattern layout is step lt).b keeps) (λ k e. through-b step k e)
      (λ k e. from-b k (place_b (kept_of pattern step) (sent_count pattern step)) e);
}

last : (e : Bool) → e ≡ xor e false
unfolding xor
last false = refl
last true = refl

-- five bits that are added up are their parity
pub five-flags : (v w x y z step : ℕ) (a b c d e : Bool) → flag v step ≡ a → flag w step ≡ b → flag x step ≡ c → flag y step ≡ d → flag z step ≡ e
    → flag (bit_xor v (bit_xor w (bit_xor x (bit_xor y z)))) step ≡ xor a (xor b (xor c (xor d (xor e false))))
five-flags v w x y z step a b c d e is-a is-b is-c is-d is-e =
    flag-xor v (bit_xor w (bit_xor x (bit_xor y z))) step
    ∙ (ap (λ (f : Bool). xor f (flag (bit_xor w (bit_xor x (bit_xor y z))) step)) is-a
    ∙ ap (xor a) (flag-xor w (bit_xor x (bit_xor y z)) step
    ∙ (ap (λ (f : Bool). xor f (flag (bit_xor x (bit_xor y z)) step)) is-b
    ∙ ap (xor b) (flag-xor x (bit_xor y z) step
    ∙ (ap (λ (f : Bool). xor f (flag (bit_xor y z) step)) is-c
    ∙ ap (xor c) (flag-xor y z step
    ∙ (ap (λ (f : Bool). xor f (flag z step)) is-d ∙ ap (xor d) (is-e ∙ last e))))))))

and-true : (b : Bool) → (b && true) ≡ b
and-true false = refl
and-true true = refl

and-false : (b : Bool) → (b && false) ≡ false
and-false false = refl
and-false true = refl

-- a plane's wrong bit at a step whose bit is kept, and at one whose bit isn't
kept-wrong : (wrong kept received sent : Bool) (place bit : Bool) → wrong ≡ (xor received sent && kept) → kept ≡ true → received ≡ place → sent ≡ bit
    → from_bool wrong ≡ from_bool (xor place bit)
kept-wrong wrong kept received sent place bit is keeps is-place is-bit =
    ap from_bool (is
    ∙ (ap (λ (k : Bool). xor received sent && k) keeps
    ∙ (and-true (xor received sent) ∙ (ap (λ (r : Bool). xor r sent) is-place ∙ ap (xor place) is-bit))))

lost-wrong : (wrong kept received sent : Bool) → wrong ≡ (xor received sent && kept) → kept ≡ false → from_bool wrong ≡ 0
lost-wrong wrong kept received sent is loses =
    ap from_bool (is ∙ (ap (λ (k : Bool). xor received sent && k) loses ∙ and-false (xor received sent)))

step-wrong : (k : Kept) (word start : ℕ) (wa wb ka kb ra rb sa sb a b : Bool) → wa ≡ (xor ra sa && ka) → wb ≡ (xor rb sb && kb)
    → ka ≡ keeps_a k → kb ≡ keeps_b k → (keeps_a k ≡ true → ra ≡ flag word start) → (keeps_b k ≡ true → rb ≡ flag word (place_b k start))
    → sa ≡ a → sb ≡ b → from_bool wa + from_bool wb ≡ wrong_bits k word start a b
step-wrong Both word start wa wb ka kb ra rb sa sb a b is-wa is-wb is-ka is-kb is-ra is-rb is-a is-b =
    let one = kept-wrong wa ka ra sa (flag word start) a is-wa is-ka (is-ra refl) is-a in
    let two = kept-wrong wb kb rb sb (flag word (start + 1)) b is-wb is-kb (is-rb refl) is-b in
    omega (arith, one, two)
step-wrong A word start wa wb ka kb ra rb sa sb a b is-wa is-wb is-ka is-kb is-ra is-rb is-a is-b =
    let one = kept-wrong wa ka ra sa (flag word start) a is-wa is-ka (is-ra refl) is-a in
    let two = lost-wrong wb kb rb sb is-wb is-kb in
    omega (arith, one, two)
step-wrong B word start wa wb ka kb ra rb sa sb a b is-wa is-wb is-ka is-kb is-ra is-rb is-a is-b =
    let one = lost-wrong wa ka ra sa is-wa is-ka in
    let two = kept-wrong wb kb rb sb (flag word start) b is-wb is-kb (is-rb refl) is-b in
    omega (arith, one, two)

pub wrong-are : (pattern : Pattern) (layout : Layout) (word current previous width count wa wb : ℕ) (received sent : Planes)
    → is_layout pattern layout ≡ true → HasPlanes pattern word received → width ≡ word_steps pattern → count ≤ word_steps pattern
    → ((step : ℕ) → step < width → flag sent.a step ≡ coded_in taps_a current previous width step)
    → ((step : ℕ) → step < width → flag sent.b step ≡ coded_in taps_b current previous width step)
    → ((step : ℕ) → step < count → flag wa step ≡ flag (bit_and (bit_xor received.a sent.a) layout.kept.a) step)
    → ((step : ℕ) → step < count → flag wb step ≡ flag (bit_and (bit_xor received.b sent.b) layout.kept.b) step)
    → (step : ℕ) → step < count → plane_bits (record { a = wa; b = wb }) step ≡ word_wrong pattern word current previous step
unfolding word_wrong
wrong-are pattern layout word current previous width count wa wb received sent is planes width-is within sends-a sends-b cuts-a cuts-b step lt =
    let low : step < word_steps pattern = omega (arith, lt, within) in
    let low-too : step < width = omega (arith, low, width-is) in
    let tests = taken pattern layout is step low in
    let both : (x y k : ℕ) → flag (bit_and (bit_xor x y) k) step ≡ (xor (flag x step) (flag y step) && flag k step) =
    λ x y k. flag-and (bit_xor x y) k step ∙ ap (λ (b : Bool). b && flag k step) (flag-xor x y step) in
    step-wrong (kept_of pattern step) word (sent_count pattern step) (flag wa step) (flag wb step) (flag layout.kept.a step) (flag layout.kept.b step)
    (flag received.a step) (flag received.b step) (flag sent.a step) (flag sent.b step)
    (coded_in taps_a current previous (word_steps pattern) step) (coded_in taps_b current previous (word_steps pattern) step)
    (cuts-a step lt ∙ both received.a sent.a layout.kept.a) (cuts-b step lt ∙ both received.b sent.b layout.kept.b)
    tests.kept_a tests.kept_b (planes.a step low) (planes.b step low)
    (sends-a step low-too ∙ ap (λ (w : ℕ). coded_in taps_a current previous w step) width-is)
    (sends-b step low-too ∙ ap (λ (w : ℕ). coded_in taps_b current previous w step) width-is)
