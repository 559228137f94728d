-- The order of inputs, and what is decoded where nothing was lost.
use Rattle.std.proofs.Common.{◌≡◌, ℕ, zero, suc, ◌-◌, ◌<◌, ◌≤◌, List, [], ◌∷◌, length, drop, map, replicate}
use Rattle.std.proofs.Common.{Bool, true, false, not, Some, refl, ap, sym, ◌∙◌, arith, true≢false}
use Rattle.std.specs.Prelude.{IsTrue, IsFalse}
use Rattle.std.specs.List.{list_all}
use Rattle.std.proofs.lemmas.List.{length-drop}
use Rattle.std.proofs.lemmas.Bool.{and_parts, not-true}
use Rattle.ht_rate.specs.declared.kinds.Pattern.{Pattern}
use Rattle.ht_conv.specs.Puncturing.{sent_count}
use Rattle.ht_conv.specs.Code.{sent_bits}
use Rattle.ht_conv.proofs.MidStream.{length-sent_bits, sent_bits-from, sent_from-equal}
use Rattle.ht_nearest.specs.Nearest.{IsOrder}
use Rattle.ht_viterbi.specs.Inputs.{is_terminated, is_before, place_cost, cost_of, hamming, distance, IsDecoded}
use Rattle.ht_viterbi.proofs.Nearest.{terminated-parts}

all-zero : (bits : List Bool) → list_all not bits ≡ true → bits ≡ replicate (length bits) false
all-zero [] e = refl
all-zero (bit ∷ bits) e =
    let parts = and_parts (not bit) (list_all not bits) e in
    ap (λ (b : Bool). b ∷ bits) (not-true bit parts.0) ∙ ap (λ (bs : List Bool). false ∷ bs) (all-zero bits parts.1)

pub zeros-end : (steps : ℕ) (u : List Bool) → 6 ≤ steps → IsTrue (is_terminated steps u) → (length u ≡ steps) × (drop (steps - 6) u ≡ replicate 6 false)
unfolding is_terminated
zeros-end steps u many within =
    let long = (terminated-parts steps u within).0 in
    let parts = and_parts _ (list_all not (drop (steps - 6) u)) within in
    let six : length (drop (steps - 6) u) ≡ 6 = omega (arith, length-drop (steps - 6) u) in
    (long, all-zero (drop (steps - 6) u) parts.1 ∙ ap (λ (n : ℕ). replicate n false) six)

pub before-apart : (u : List Bool) → IsFalse (is_before u u)
unfolding is_before
before-apart [] = refl
before-apart (false ∷ u) = before-apart u
before-apart (true ∷ u) = before-apart u

before-onward : (u v w : List Bool) → IsTrue (is_before u v) → IsTrue (is_before v w) → IsTrue (is_before u w)
unfolding is_before
before-onward [] v w p q = absurd (true≢false (sym p))
before-onward (a ∷ u) [] w p q = absurd (true≢false (sym q))
before-onward (false ∷ u) (false ∷ v) [] p q = absurd (true≢false (sym q))
before-onward (false ∷ u) (true ∷ v) [] p q = absurd (true≢false (sym q))
before-onward (true ∷ u) (false ∷ v) [] p q = absurd (true≢false (sym q))
before-onward (true ∷ u) (true ∷ v) [] p q = absurd (true≢false (sym q))
before-onward (false ∷ u) (false ∷ v) (false ∷ w) p q = before-onward u v w p q
before-onward (false ∷ u) (false ∷ v) (true ∷ w) p q = refl
before-onward (false ∷ u) (true ∷ v) (false ∷ w) p q = absurd (true≢false (sym q))
before-onward (false ∷ u) (true ∷ v) (true ∷ w) p q = refl
before-onward (true ∷ u) (false ∷ v) (c ∷ w) p q = absurd (true≢false (sym p))
before-onward (true ∷ u) (true ∷ v) (false ∷ w) p q = absurd (true≢false (sym q))
before-onward (true ∷ u) (true ∷ v) (true ∷ w) p q = before-onward u v w p q

before-decides : (u v : List Bool) → length u ≡ length v → IsFalse (is_before u v) → IsFalse (is_before v u) → u ≡ v
unfolding is_before
before-decides [] [] len p q = refl
before-decides [] (b ∷ v) len p q = absurd (omega arith)
before-decides (a ∷ u) [] len p q = absurd (omega arith)
before-decides (false ∷ u) (false ∷ v) len p q = ap (λ (bs : List Bool). false ∷ bs) (before-decides u v (omega arith) p q)
before-decides (false ∷ u) (true ∷ v) len p q = absurd (true≢false p)
before-decides (true ∷ u) (false ∷ v) len p q = absurd (true≢false q)
before-decides (true ∷ u) (true ∷ v) len p q = ap (λ (bs : List Bool). true ∷ bs) (before-decides u v (omega arith) p q)

pub input-order : (steps : ℕ) → IsOrder (is_terminated steps) is_before
input-order steps = record {
  apart = before-apart;
  onward = before-onward;
  decides = λ u v mu mv. before-decides u v ((terminated-parts steps u mu).0 ∙ sym (terminated-parts steps v mv).0);
}

pub place-same : (bit : Bool) → place_cost (Some bit) bit ≡ 0
place-same false = refl
place-same true = refl

pub hamming-same : (sent : List Bool) → hamming (map Some sent) sent ≡ 0
hamming-same [] = refl
hamming-same (bit ∷ sent) = omega (arith, place-same bit, hamming-same sent)

place-zero : (a b : Bool) → place_cost (Some a) b ≡ 0 → a ≡ b
place-zero false false e = refl
place-zero false true e = absurd (omega arith)
place-zero true false e = absurd (omega arith)
place-zero true true e = refl

hamming-zero : (xs ys : List Bool) → length xs ≡ length ys → hamming (map Some xs) ys ≡ 0 → xs ≡ ys
hamming-zero [] [] len e = refl
hamming-zero [] (b ∷ ys) len e = absurd (omega arith)
hamming-zero (a ∷ xs) [] len e = absurd (omega arith)
hamming-zero (a ∷ xs) (b ∷ ys) len e =
    ap (λ (x : Bool). x ∷ xs) (place-zero a b (omega arith)) ∙ ap (λ (zs : List Bool). b ∷ zs) (hamming-zero xs ys (omega arith) (omega arith))

pub distance-sent : (p : Pattern) (u : List Bool) → distance p (map Some (sent_bits p u)) u ≡ 0
unfolding cost_of
distance-sent p u = hamming-same (sent_bits p u)

sent-equal : (p : Pattern) (u v : List Bool) → length u ≡ length v → sent_bits p u ≡ sent_bits p v → u ≡ v
sent-equal p u v len same = sent_from-equal p 0 [] u v len (sym (sent_bits-from p u) ∙ (same ∙ sent_bits-from p v))

not-zero : (n : ℕ) → (n ≡ 0 → ⊥) → 0 < n
not-zero zero apart = absurd (apart refl)
not-zero (suc n) apart = omega arith

pub sent-decoded : (steps : ℕ) (p : Pattern) (u : List Bool) → IsTrue (is_terminated steps u) → IsDecoded steps p (map Some (sent_bits p u)) u
unfolding cost_of
sent-decoded steps p u within = record {
  within = within;
  nearest = λ v member. omega (arith, hamming-same (sent_bits p u));
  first = λ v member before.
      let long : length u ≡ length v = (terminated-parts steps u within).0 ∙ sym (terminated-parts steps v member).0 in
      let lengths : length (sent_bits p u) ≡ length (sent_bits p v) = length-sent_bits p u ∙ (ap (sent_count p) long ∙ sym (length-sent_bits p v)) in
      let apart : hamming (map Some (sent_bits p u)) (sent_bits p v) ≡ 0 → ⊥ = λ none.
      let same : u ≡ v = sent-equal p u v long (hamming-zero (sent_bits p u) (sent_bits p v) lengths none) in
      true≢false (sym before ∙ (ap (λ (z : List Bool). is_before z u) (sym same) ∙ before-apart u)) in
      omega (arith, hamming-same (sent_bits p u), not-zero _ apart);
}
