-- The terminated inputs are those that are listed.
use Rattle.std.proofs.Common.{◌≡◌, ℕ, zero, suc, ◌-◌, ◌<◌, ◌≤◌, List, [], ◌∷◌, ◌++◌, length, take, drop, replicate, map, Bool, true, false, IsTrue}
use Rattle.std.proofs.Common.{Option, None, Some, unwrap_or, refl, inl, inr, ap, ◌∙◌, sym, subst, arith, length-append}
use Rattle.std.specs.Prelude.{not, ◌==◌}
use Rattle.std.specs.List.{list_all}
use Rattle.std.proofs.lemmas.List.{take-append-drop, length-take, length-map, length-replicate}
use Rattle.std.proofs.Math.Seq.{drop-append_seam}
use Rattle.std.proofs.lemmas.Bool.{and_from, eq-eqb}
use Rattle.ht_rate.specs.declared.kinds.Pattern.{Pattern}
use Rattle.ht_nearest.specs.Nearest.{Enumerates, first_nearest}
use Rattle.ht_nearest.proofs.Bests as bests
use Rattle.ht_nearest.proofs.Bests.{Among, Among-Contains, Contains-Among}
use Rattle.ht_nearest.proofs.Members.{among_left, among_right, among_either, among_map, mapped}
use Rattle.ht_viterbi.specs.Decoded.{bit_lists, cheapest, decoded, terminated_inputs}
use Rattle.ht_viterbi.specs.Inputs.{IsCheapest, IsDecoded, cost_of, is_before, is_terminated, place_cost, tail}
use Rattle.ht_viterbi.proofs.Orders.{input-order, zeros-end}

abbrev zero_first : List Bool → List Bool
zero_first u = false ∷ u

abbrev one_first : List Bool → List Bool
one_first u = true ∷ u

-- a list of bits is among those of its length, and only there
listed : (u : List Bool) (n : ℕ) → length u ≡ n → Among (bit_lists n) u
listed [] zero e = inl refl
listed [] (suc n) e = absurd (omega arith)
listed (b ∷ u) zero e = absurd (omega arith)
listed (false ∷ u) (suc n) e = among_left (map zero_first (bit_lists n)) _ _ (among_map zero_first (bit_lists n) u (listed u n (omega arith)))
listed (true ∷ u) (suc n) e = among_right (map zero_first (bit_lists n)) _ _ (among_map one_first (bit_lists n) u (listed u n (omega arith)))

length_listed : (n : ℕ) (u : List Bool) → Among (bit_lists n) u → length u ≡ n
length_listed zero u h = elim h [ inl e ↦ ap length (sym e) | inr none ↦ absurd none ]
length_listed (suc n) u h = elim (among_either (map zero_first (bit_lists n)) _ u h) [
  | inl zeros ↦ let m = mapped zero_first (bit_lists n) u zeros in ap length (sym m.2) ∙ ap suc (length_listed n m.0 m.1)
  | inr ones ↦ let m = mapped one_first (bit_lists n) u ones in ap length (sym m.2) ∙ ap suc (length_listed n m.0 m.1)
]

-- what ends with the tail is terminated
all_zero : list_all not (replicate tail false) ≡ true
all_zero = refl

sound : (steps : ℕ) (x : List Bool) → 6 ≤ steps → Among (terminated_inputs steps) x → IsTrue (is_terminated steps x)
unfolding is_terminated
sound steps x some h =
    let m = mapped (λ u. u ++ replicate tail false) (bit_lists (steps - tail)) x h in
    let count : length m.0 ≡ steps - 6 = length_listed (steps - tail) m.0 m.1 in
    let six : length (replicate tail false) ≡ 6 = length-replicate tail false in
    let same : length x ≡ steps = sym (ap length m.2) ∙ length-append m.0 (replicate tail false) ∙ omega (arith, count, six, some) in
    let rest : drop (steps - 6) x ≡ replicate tail false =
    ap (λ k. drop k x) (sym count) ∙ ap (drop (length m.0)) (sym m.2) ∙ drop-append_seam m.0 (replicate tail false) in
    and_from (length x == steps) (list_all not (drop (steps - 6) x)) (eq-eqb (length x) steps same)
    (ap (λ (z : List Bool). list_all not z) rest ∙ all_zero)

-- and what is terminated is its free bits and the tail
whole : (steps : ℕ) (x : List Bool) → 6 ≤ steps → IsTrue (is_terminated steps x) → Among (terminated_inputs steps) x
whole steps x some is =
    let ends = zeros-end steps x some is in
    let count = ends.0 in
    let free = take (steps - 6) x in
    let front : length free ≡ steps - 6 = length-take (steps - 6) x ∙ omega (arith, count) in
    subst (λ (u : List Bool). Among (terminated_inputs steps) u)
    (ap (λ (z : List Bool). free ++ z) (sym ends.1) ∙ take-append-drop (steps - 6) x)
    (among_map (λ u. u ++ replicate tail false) (bit_lists (steps - tail)) free (listed free (steps - 6) front))

pub enumerated : (steps : ℕ) → tail ≤ steps → Enumerates (is_terminated steps) (terminated_inputs steps)
enumerated steps some = record {
  sound = λ x h. sound steps x some (Among-Contains (terminated_inputs steps) x h);
  whole = λ x is. Contains-Among (terminated_inputs steps) x (whole steps x some is);
}

pub cheapest_is : {P : Type 0} (cost : P → Bool → ℕ) (steps : ℕ) (p : Pattern) (received : List P) (u : List Bool)
    → tail ≤ steps → IsCheapest cost steps p received u → cheapest cost steps p received ≡ u
unfolding cheapest
cheapest_is cost steps p received u some is =
    ap (λ (o : Option (List Bool)). unwrap_or o [])
    (bests.finds (is_terminated steps) (cost_of cost p received) is_before (input-order steps) (terminated_inputs steps) u (enumerated steps some) is)

pub decoded_is : (steps : ℕ) (p : Pattern) (received : List (Option Bool)) (u : List Bool)
    → tail ≤ steps → IsDecoded steps p received u → decoded steps p received ≡ u
decoded_is = cheapest_is place_cost

-- there is a terminated input
bit_lists_some : (n : ℕ) → 0 < length (bit_lists n)
bit_lists_some zero = omega arith
bit_lists_some (suc n) =
    omega (arith, length-append (map zero_first (bit_lists n)) (map one_first (bit_lists n)), length-map (bit_lists n) zero_first, bit_lists_some n)

inputs_some : (steps : ℕ) → 0 < length (terminated_inputs steps)
inputs_some steps = omega (arith, length-map (bit_lists (steps - tail)) (λ u. u ++ replicate tail false), bit_lists_some (steps - tail))

found : {P : Type 0} (cost : P → Bool → ℕ) (steps : ℕ) (p : Pattern) (received : List P) (o : Option (List Bool)) → tail ≤ steps
    → first_nearest (cost_of cost p received) is_before (terminated_inputs steps) ≡ o → IsCheapest cost steps p received (unwrap_or o [])
found cost steps p received None some e =
    absurd (bests.best_of_some (cost_of cost p received) is_before (terminated_inputs steps) (inputs_some steps) e)
found cost steps p received (Some u) some e =
    bests.found (is_terminated steps) (cost_of cost p received) is_before (input-order steps) (terminated_inputs steps) u (enumerated steps some) e

pub cheapest_first : {P : Type 0} (cost : P → Bool → ℕ) (steps : ℕ) (p : Pattern) (received : List P)
    → tail ≤ steps → IsCheapest cost steps p received (cheapest cost steps p received)
unfolding cheapest
cheapest_first cost steps p received some =
    found cost steps p received (first_nearest (cost_of cost p received) is_before (terminated_inputs steps)) some refl

pub decoded_near : (steps : ℕ) (p : Pattern) (received : List (Option Bool)) → tail ≤ steps → IsDecoded steps p received (decoded steps p received)
decoded_near = cheapest_first place_cost
