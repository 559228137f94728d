-- What labels tell of the halves, bit by bit and stream by stream.
use Rattle.std.proofs.Common.{◌≡◌, ◌⊎◌, ℕ, zero, suc, ◌+◌, ◌-◌, ◌*◌, ◌<◌, ◌≤◌, ℤ, List, [], ◌∷◌, length, drop, get_or, inl, inr, arith, refl, ap, sym, ◌∙◌}
use Rattle.std.proofs.Common.{subst}
use Rattle.std.proofs.Common.{Bool, true, false, not, true≢false, Some, None, pos}
use Rattle.std.specs.Prelude.{◌==◌}
use Rattle.std.specs.Int.{bit_at}
use Rattle.std.proofs.lemmas.Bool.{cases_lt}
use Rattle.std.proofs.lemmas.List.{length-drop, get_or-drop}
use Rattle.ht_rate.specs.declared.kinds.Modulation.{Modulation}
use Rattle.ht_rate.specs.declared.kinds.Modulation.TheVariants.{Bpsk, Qpsk, Qam16, Qam64}
use Rattle.ht_rate.specs.Schemes.{bits_of}
use Rattle.ht_map.specs.Gray.{label_bit, label_of}
use Rattle.ht_pam.specs.declared.point.Point.{Point}
use Rattle.ht_metric.specs.Vectors.{no_point}
use Rattle.ht_sphere.specs.Coordinates.{points_from}
use Rattle.ht_soft.specs.Halves.{has_bit, label_has, is}
use Rattle.ht_weigh.specs.Leasts.{IsLowered, IsOf, place_of, side}
use Rattle.ht_weigh.specs.Walks.{TellsLabel, TellsStream, TellsBehind, TellsOthers, half_cost}
use Rattle.ht_weigh.proofs.Lowered.{lowered-not, lowered-then, lowered-as}

pub below_next : (b e : ℕ) → b < e + 1 → (b < e) ⊎ (b ≡ e)
below_next b e lt = elim (cases_lt b e) [ inl less ↦ inl less | inr more ↦ inr (omega arith) ]

-- at most 24 bits on four streams
pub few-bits : (m : Modulation) (k : ℕ) → k ≤ 3 → k * bits_of m + bits_of m ≤ 24
few-bits Bpsk k few = omega arith
few-bits Qpsk k few = omega arith
few-bits Qam16 k few = omega arith
few-bits Qam64 k few = omega arith

pub label_none : (m : Modulation) (label stream n : ℕ) (a : List ℕ) → IsLowered (TellsLabel m label stream n 0) a a
label_none m label stream n a = lowered-not (TellsLabel m label stream n 0) a (λ j k h. absurd (omega (arith, h.within)))

pub label_more : (m : Modulation) (label stream n e place : ℕ) (a b c : List ℕ) → IsLowered (TellsLabel m label stream n e) a b
    → IsLowered (IsOf place n) b c → place ≡ place_of m stream e (label_bit m label e) → IsLowered (TellsLabel m label stream n (e + 1)) a c
label_more m label stream n e place a b c p q at =
    lowered-then (TellsLabel m label stream n e) (IsOf place n) (TellsLabel m label stream n (e + 1)) a b c p q
    (λ j k h. elim (below_next h.bit e h.within) [
      | inl less ↦ inl record { bit = h.bit; within = less; place = h.place; distance = h.distance }
      | inr same ↦ inr record {
        place = h.place ∙ ap (λ (i : ℕ). place_of m stream i (label_bit m label i)) same ∙ sym at;
        distance = h.distance;
      }
    ])
    (λ j k h. record { bit = h.bit; within = omega (arith, h.within); place = h.place; distance = h.distance })
    (λ j k h. record { bit = e; within = omega arith; place = h.place ∙ at; distance = h.distance })

is-value : (value b : Bool) → is value b ≡ true → b ≡ value
is-value true b e = e
is-value false true e = absurd (true≢false (sym e))
is-value false false e = refl

value-is : (b : Bool) → is b b ≡ true
value-is true = refl
value-is false = refl

-- a stream with a label
pub stream_told : (m : Modulation) (s : List ℤ) (n k stream label : ℕ) (point : Point) (a b : List ℕ) → stream ≡ k + 1
    → point ≡ get_or (points_from s) (k - 1) no_point → label_of m point ≡ Some label
    → IsLowered (TellsLabel m label stream n (bits_of m)) a b → IsLowered (TellsStream m s n k) a b
unfolding has_bit
stream_told m s n k stream label point a b next is_point named p =
    let told : label_of m (get_or (points_from s) (k - 1) no_point) ≡ Some label = ap (label_of m) (sym is_point) ∙ named in
    let one : stream ≡ suc k = omega arith in
    lowered-as (TellsLabel m label stream n (bits_of m)) (TellsStream m s n k) a b p
    (λ j d h.
    let bit : label_bit m label h.bit ≡ h.value =
    is-value h.value (label_bit m label h.bit) (sym (ap (label_has m h.bit h.value) told) ∙ h.has) in
    record {
      distance = d;
      heard = record {
        bit = h.bit;
        within = h.within;
        place = h.place ∙ ap (λ (v : Bool). place_of m (suc k) h.bit v) (sym bit)
            ∙ ap (λ (i : ℕ). place_of m i h.bit (label_bit m label h.bit)) (sym one);
        distance = h.distance;
      };
      less = omega arith;
    })
    (λ j d h. record {
      bit = h.bit;
      value = label_bit m label h.bit;
      within = h.within;
      has = ap (label_has m h.bit (label_bit m label h.bit)) told ∙ value-is (label_bit m label h.bit);
      place = h.place ∙ ap (λ (i : ℕ). place_of m i h.bit (label_bit m label h.bit)) one;
      distance = h.distance;
    })

-- a stream without one tells nothing
pub stream_silent : (m : Modulation) (s : List ℤ) (n k : ℕ) (point : Point) (a : List ℕ)
    → point ≡ get_or (points_from s) (k - 1) no_point → label_of m point ≡ None → IsLowered (TellsStream m s n k) a a
unfolding has_bit
stream_silent m s n k point a is_point none =
    let told : label_of m (get_or (points_from s) (k - 1) no_point) ≡ None = ap (label_of m) (sym is_point) ∙ none in
    lowered-not (TellsStream m s n k) a (λ j d h. absurd (true≢false (sym h.has ∙ ap (label_has m h.bit h.value) told)))

pub behind_none : (m : Modulation) (s : List ℤ) (n : ℕ) (a : List ℕ) → IsLowered (TellsBehind m s n 1) a a
behind_none m s n a = lowered-not (TellsBehind m s n 1) a (λ j d h. absurd (omega (arith, h.first, h.last)))

pub behind_more : (m : Modulation) (s : List ℤ) (n k : ℕ) (a b c : List ℕ) → 1 ≤ k → IsLowered (TellsBehind m s n k) a b → IsLowered (TellsStream m s n k) b c
    → IsLowered (TellsBehind m s n (k + 1)) a c
behind_more m s n k a b c some p q =
    lowered-then (TellsBehind m s n k) (TellsStream m s n k) (TellsBehind m s n (k + 1)) a b c p q
    (λ j d h. elim (below_next h.stream k h.last) [
      | inl less ↦ inl record { stream = h.stream; first = h.first; last = less; tells = h.tells }
      | inr same ↦ inr (subst (λ (i : ℕ). TellsStream m s n i j d) same h.tells)
    ])
    (λ j d h. record { stream = h.stream; first = h.first; last = omega (arith, h.last); tells = h.tells })
    (λ j d h. record { stream = k; first = some; last = omega arith; tells = h })

pub others_none : (m : Modulation) (label p : ℕ) (re im : ℤ) (d : ℕ) (a : List ℕ) → IsLowered (TellsOthers m label p re im d 0) a a
others_none m label p re im d a = lowered-not (TellsOthers m label p re im d 0) a (λ j k h. absurd (omega (arith, h.within)))

-- the half of one bit more
pub others_more : (m : Modulation) (label p : ℕ) (re im : ℤ) (d e : ℕ) (value : Bool) (a b c : List ℕ) → value ≡ not (label_bit m label e)
    → IsLowered (TellsOthers m label p re im d e) a b → IsLowered (IsOf (place_of m 1 e value) (half_cost m e value p re im d)) b c
    → IsLowered (TellsOthers m label p re im d (e + 1)) a c
others_more m label p re im d e value a b c is start half =
    let more : ℕ → ℕ → ℕ → Type 0 = λ k. TellsOthers m label p re im d k in
    lowered-then (more e) (IsOf (place_of m 1 e value) (half_cost m e value p re im d)) (more (e + 1)) a b c start half
    (λ j k h. elim (below_next h.bit e h.within) [
      | inl less ↦ inl record { bit = h.bit; within = less; place = h.place; distance = h.distance }
      | inr same ↦ inr record {
        place = h.place ∙ ap (λ (i : ℕ). place_of m 1 i (not (label_bit m label i))) same ∙ ap (place_of m 1 e) (sym is);
        distance = h.distance ∙ ap (λ (i : ℕ). half_cost m i (not (label_bit m label i)) p re im d) same
            ∙ ap (λ (v : Bool). half_cost m e v p re im d) (sym is);
      }
    ])
    (λ j k h. record { bit = h.bit; within = omega (arith, h.within); place = h.place; distance = h.distance })
    (λ j k h. record {
      bit = e;
      within = omega arith;
      place = h.place ∙ ap (place_of m 1 e) is;
      distance = h.distance ∙ ap (λ (v : Bool). half_cost m e v p re im d) is;
    })

-- a bit of a label by its place from the last one
pub bit_is : (m : Modulation) (label e bits k : ℕ) (b : Bool) → b ≡ (bit_at label k == 1) → k ≡ bits - 1 - e → bits ≡ bits_of m → b ≡ label_bit m label e
unfolding label_bit
bit_is m label e bits k b bit is_k is_bits = let place : k ≡ bits_of m - 1 - e = omega arith in bit ∙ ap (λ (i : ℕ). bit_at label i == 1) place

-- where a label's bit stands
pub label_place : (m : Modulation) (label stream e at from bits k half : ℕ) (b : Bool) → half ≡ 2 * (at + from) + side b → b ≡ (bit_at label k == 1)
    → k ≡ bits - 1 - e → bits ≡ bits_of m → from ≡ e → at ≡ (stream - 1) * bits_of m → half ≡ place_of m stream e (label_bit m label e)
unfolding label_bit
label_place m label stream e at from bits k half b is bit is_k is_bits is_from is_at =
    let place : k ≡ bits_of m - 1 - e = omega arith in
    is ∙ ap (λ (v : Bool). 2 * (at + from) + side v) (bit ∙ ap (λ (i : ℕ). bit_at label i == 1) place)
    ∙ ap (λ (i : ℕ). 2 * i + side (bit_at label (bits_of m - 1 - e) == 1)) (ap (λ (i : ℕ). at + i) is_from ∙ ap (λ (i : ℕ). i + e) is_at)

-- the point of a stream from its levels
points_at : (xs : List ℤ) (j : ℕ) → 2 * j + 1 < length xs
    → get_or (points_from xs) j no_point ≡ (let p : Point = record { i = get_or xs (2 * j) (pos 0); q = get_or xs (2 * j + 1) (pos 0) } in p)
points_at [] j lt = absurd (omega arith)
points_at (x ∷ []) j lt = absurd (omega arith)
points_at (x ∷ y ∷ xs) zero lt = refl
points_at (x ∷ y ∷ xs) (suc j) lt =
    let even : 2 * suc j ≡ suc (suc (2 * j)) = omega arith in
    let odd : 2 * suc j + 1 ≡ suc (suc (2 * j + 1)) = omega arith in
    let both : ℕ → ℕ → Point = λ a b. record { i = get_or (x ∷ y ∷ xs) a (pos 0); q = get_or (x ∷ y ∷ xs) b (pos 0) } in
    points_at xs j (omega arith) ∙ sym (ap (λ (a : ℕ). both a (2 * suc j + 1)) even ∙ ap (both (suc (suc (2 * j)))) odd)

pub point_is : (xs : List ℤ) (k : ℕ) (p : Point) → 1 ≤ k → 2 * k + 1 < length xs → p.i ≡ get_or xs (2 * k) (pos 0) → p.q ≡ get_or xs (2 * k + 1) (pos 0)
    → p ≡ get_or (points_from (drop 2 xs)) (k - 1) no_point
point_is xs k p some lt is_i is_q =
    let long : length (drop 2 xs) ≡ length xs - 2 = length-drop 2 xs in
    let even : 2 + 2 * (k - 1) ≡ 2 * k = omega arith in
    let odd : 2 + (2 * (k - 1) + 1) ≡ 2 * k + 1 = omega arith in
    let both : ℤ → ℤ → Point = λ a b. record { i = a; q = b } in
    let at_i : p.i ≡ get_or (drop 2 xs) (2 * (k - 1)) (pos 0) = is_i
    ∙ sym (get_or-drop 2 xs (2 * (k - 1)) (pos 0) ∙ ap (λ (i : ℕ). get_or xs i (pos 0)) even) in
    let at_q : p.q ≡ get_or (drop 2 xs) (2 * (k - 1) + 1) (pos 0) =
    is_q ∙ sym (get_or-drop 2 xs (2 * (k - 1) + 1) (pos 0) ∙ ap (λ (i : ℕ). get_or xs i (pos 0)) odd) in
    ap (λ (a : ℤ). both a p.q) at_i ∙ ap (both (get_or (drop 2 xs) (2 * (k - 1)) (pos 0))) at_q
    ∙ sym (points_at (drop 2 xs) (k - 1) (omega (arith, long)))

-- the least distance of the half with another bit, as it is computed
pub other_told : (m : Modulation) (e from : ℕ) (value : Bool) (p n cost : ℕ) (re im : ℤ) (d half : ℕ) (other : Bool) (a b : List ℕ) → value ≡ other
    → half_cost m e other 0 re im d ≡ cost → n ≡ cost → half ≡ 2 * from + side value → from ≡ e → IsLowered (IsOf half (p + n)) a b
    → IsLowered (IsOf (place_of m 1 e value) (half_cost m e value p re im d)) a b
other_told m e from value p n cost re im d half other a b is is_cost passed is_half is_from h =
    let none : 0 * bits_of m + e ≡ e = omega arith in
    let at : half ≡ place_of m 1 e value = is_half ∙ ap (λ (k : ℕ). 2 * k + side value) (is_from ∙ sym none) in
    let same : half_cost m e value 0 re im d ≡ cost = ap (λ (v : Bool). half_cost m e v 0 re im d) is ∙ is_cost in
    let all : p + n ≡ half_cost m e value p re im d = omega (arith, same, passed) in
    subst (λ (k : ℕ). IsLowered (IsOf (place_of m 1 e value) k) a b) all (subst (λ (k : ℕ). IsLowered (IsOf k (p + n)) a b) at h)
