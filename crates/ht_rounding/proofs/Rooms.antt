-- What makes a proposal certain: the room that its lane leaves.
use Rattle.std.proofs.Common.{◌≡◌, ◌⊎◌, ℕ, zero, suc, ◌+◌, ◌-◌, ◌*◌, ◌^◌, ◌<◌, ◌≤◌, ℤ, pos, ◌+ℤ◌, ◌-ℤ◌, Bool, true, false, unsigned_abs, arith, inl, inr}
use Rattle.std.proofs.Common.{ap, sym, ◌∙◌, subst, refl}
use Rattle.std.specs.Prelude.{nat_lt, if◌then◌else◌}
use Rattle.std.specs.Int.{cast_signed, w32}
use Rattle.std.proofs.lemmas.Bool.{cases_lt}
use Rattle.std.proofs.lemmas.Bool.Decides.{nat_tests}
use Rattle.std.proofs.lemmas.Int.{ints}
use Rattle.std.proofs.Math.Nat.{mul-le-mul, mul-add, add-mul, mul_comm, mul_assoc}
use Rattle.ht_nearest.proofs.Bests as bests
use Rattle.ht_pam.specs.Ladders.{levels, has}
use Rattle.ht_pam.specs.Zigzags.{gap, nearest_first}
use Rattle.ht_pam.proofs.ZigzagLemmas.{ascending}
use Rattle.ht_sphere.specs.Coordinates.{first_of, IsMargin}
use Rattle.ht_sphere.proofs.Bests.{walk_some}
use Rattle.ht_sphere.proofs.Paths.{in_order, has_sorted, sorted_has, first_among}
use Rattle.ht_sphere.proofs.Margins.{least_first}
use Rattle.ht_rounding.specs.declared.levels.Levels.{Levels}
use Rattle.ht_rounding.specs.declared.levels.Levels.TheVariants.{One, Two}
use Rattle.ht_rounding.specs.Words.{Holds, minus, size, turned, is_negative, lesser, over}
use Rattle.ht_rounding.specs.Proposals.{size_of, full, IsLevel, Proposes, IsSure, Certifies, IsCoordinate, IsCut, farthest}
use Rattle.ht_rounding.proofs.Folding.{signed, times_minus, holds-size, size-most}
use Rattle.ht_rounding.proofs.Nearest.{full-ladder, place-of, has-level, seven, sure}

-- where each other level costs more, a level is the first one
first-by-margin : (l : Levels) (t : ℤ) (d : ℕ) (x : ℤ) (m : ℕ) → IsLevel (size_of l) x → IsMargin (full l) t d x m → 0 < m → x ≡ first_of (full l) t d
first-by-margin l t d x m is margin some =
    let walk = nearest_first (gap t d) (levels (full l)) in
    let y = first_of (full l) t d in
    let one : bests.Among walk y = first_among walk (walk_some (full l) (gap t d) (full-ladder l)) in
    let other = has_sorted (full l) (gap t d) x (has-level l x is) in
    let least : gap t d y ≤ gap t d x = least_first (gap t d) walk x (ascending (gap t d) (levels (full l))) other in
    elim (margin y (sorted_has (full l) (gap t d) y one)) [
      | inl e ↦ sym e
      | inr more ↦ absurd (let all = mul-le-mul least least in omega (arith, all, more, some))
    ]

-- an allowed level by its place
pub among : (l : Levels) (y : ℤ) → has (full l) y ≡ true → IsLevel (size_of l) y
among l y h = let f : ℤ → ℕ = λ z. 0 in place-of l y (in_order f (levels (full l)) y (has_sorted (full l) f y h))

-- the lesser of two, and by how much one is over the other
pub lesser-left : (a b : ℕ) → lesser a b ≤ a
lesser-left a b = grind (arith, nat_tests)

pub lesser-right : (a b : ℕ) → lesser a b ≤ b
lesser-right a b = grind (arith, nat_tests)

pub lesser-is : (a b : ℕ) → a ≤ b → lesser a b ≡ a
lesser-is a b h = grind (arith, nat_tests)

pub over-is : (a b : ℕ) → a < 2 ^ 32 → b < 2 ^ 32 → over a b ≡ a - b
over-is a b la lb = elim (cases_lt a b) [
  | inl less ↦ ap (λ (n : ℕ). minus n b) (greater-right a b less) ∙ omega (arith, less, lb)
  | inr more ↦ ap (λ (n : ℕ). minus n b) (greater-left a b (omega (arith, more))) ∙ plain a b la more
]
  where
    greater-right : (a b : ℕ) → a < b → (if nat_lt a b then b else a) ≡ b
    greater-right a b h = grind (arith, nat_tests)

    greater-left : (a b : ℕ) → b ≤ a → (if nat_lt a b then b else a) ≡ a
    greater-left a b h = grind (arith, nat_tests)

    plain : (a b : ℕ) → a < 2 ^ 32 → b ≤ a → minus a b ≡ a - b
    plain a b la le = omega arith

-- a margin may be less
pub less-margin : (l : Levels) (d x g a b : ℕ) (z : ℤ) → b ≤ a → IsSure l d x g a z → IsSure l d x g b z
less-margin l d x g a b z le is = record {
  gap = is.gap;
  first = is.first;
  margin = λ y has. elim (is.margin y has) [ inl e ↦ inl e | inr more ↦ inr (omega (arith, more, le)) ];
  few = is.few;
}

-- several levels: the room is what the diagonal, cut, has over the gap
pub several : (l : Levels) (t d cut x g h room : ℕ) → IsCut d cut → Proposes (size_of l) farthest t d x g → h ≡ lesser g cut → room ≡ over cut g
    → Certifies l t d x h room
several l t d cut x g h room is_cut p eh er some z within held =
    let few = is_cut.few in
    let under = is_cut.under in
    let is : room ≡ cut - g = er ∙ over-is cut g (omega (arith, few)) p.left in
    let near : g < cut = omega (arith, is, some) in
    let same : h ≡ g = eh ∙ lesser-is g cut (omega (arith, near)) in
    let four : 4 * d ≤ 4 * d = omega arith in
    let less : room ≤ d - g = omega (arith, is, under) in
    less-margin l d x h (4 * d * (d - g)) (4 * d * room) z (mul-le-mul four less)
    (subst (λ (n : ℕ). IsSure l d x n (4 * d * (d - g)) z) (sym same)
    (sure l t d x g z (omega (arith, near, few)) p (omega (arith, near, under)) within held))

-- a margin is positive where there is room
positive : (d room : ℕ) → 0 < d → 0 < room → 0 < 4 * d * room
positive d room a b = let e : 1 ≤ 4 * d = omega (arith, a) in let f : 1 ≤ room = omega (arith, b) in let m = mul-le-mul e f in omega (arith, m)

-- one level: there is no other
pub single : (t d cut x g h room : ℕ) → IsCut d cut → Proposes 1 farthest t d x g → h ≡ lesser g 32767 → room ≡ lesser (over (2 ^ 15) g) cut
    → Certifies One t d x h room
single t d cut x g h room is_cut p eh er some z within held =
    let v = cast_signed w32 x in
    let left = lesser-left (over (2 ^ 15) g) cut in
    let under = is_cut.under in
    let near : g < 2 ^ 15 = omega (arith, over-is (2 ^ 15) g (omega arith) p.left, er, left, some) in
    let margin : IsMargin (full One) z d v (4 * d * room) = λ y has. inl (only y v (among One y has) p.level) in
    let same : h ≡ g = eh ∙ lesser-is g 32767 (omega (arith, near)) in
    let right = lesser-right (over (2 ^ 15) g) cut in
    record {
      gap = p.gap near z within held ∙ sym same;
      first = first-by-margin One z d v (4 * d * room) p.level margin (positive d room (omega (arith, er, right, some, under)) some);
      margin = margin;
      few = seven One v p.level;
    }
  where
    only : (y v : ℤ) → IsLevel 1 y → IsLevel 1 v → y ≡ v
    only y v p q = omega (arith, ints, p.1, p.2, q.1, q.2)

-- two levels: the other one costs more by four times the diagonal and the size of the target
size-true : (a d g : ℕ) (w : ℤ) → a ≤ 2 ^ 31 → d < 2 ^ 16 → g < 2 ^ 15 → Holds a w → unsigned_abs (w -ℤ pos d) ≡ g → w ≡ pos a
size-true a d g w most small near h e = omega (arith, ints, h.2, e)

own : (b : Bool) (d : ℕ) (z : ℤ) → gap z d (signed b (pos 1)) ≡ unsigned_abs (signed b z -ℤ pos d)
own true d z = let n = times_minus d (pos 1) in omega (arith, ints, n)
own false d z = omega (arith, ints)

other : (b : Bool) (d : ℕ) (z : ℤ) → gap z d (pos 0 -ℤ signed b (pos 1)) ≡ unsigned_abs (signed b z +ℤ pos d)
other true d z = omega (arith, ints)
other false d z = let n = times_minus d (pos 1) in omega (arith, ints, n)

one-or-other : (b : Bool) (y : ℤ) → IsLevel 2 y → (y ≡ signed b (pos 1)) ⊎ (y ≡ pos 0 -ℤ signed b (pos 1))
one-or-other b y (zero, lt, e) = by b
  where
    by : (b : Bool) → (y ≡ signed b (pos 1)) ⊎ (y ≡ pos 0 -ℤ signed b (pos 1))
    by true = inl (omega (arith, ints, e))
    by false = inr (omega (arith, ints, e))
one-or-other b y (suc zero, lt, e) = by b
  where
    by : (b : Bool) → (y ≡ signed b (pos 1)) ⊎ (y ≡ pos 0 -ℤ signed b (pos 1))
    by true = inr (omega (arith, ints, e))
    by false = inl (omega (arith, ints, e))
one-or-other b y (suc (suc j), lt, e) = absurd (omega (arith, lt))

-- (e + 2m)^2 is e^2 + 4(e + m)m
wider : (e m d room p q : ℕ) → room ≤ m → d ≤ e + m → p ≡ e → q ≡ e + 2 * m → p * p + 4 * d * room ≤ q * q
wider e m d room p q le far ep eq =
    let a : 4 * d ≤ 4 * (e + m) = omega (arith, far) in
    let more = mul-le-mul a le in
    let pp : p * p ≡ e * e = ap (λ (n : ℕ). n * n) ep in
    let qq : q * q ≡ (e + 2 * m) * (e + 2 * m) = ap (λ (n : ℕ). n * n) eq in
    let k = 2 * m in
    omega (
      arith,
      more,
      pp,
      qq,
      add-mul e k (e + k),
      mul-add e e k,
      mul-add k e k,
      mul_comm e k,
      mul_assoc 2 m e,
      mul_assoc 2 m k,
      mul_comm m k,
      mul_assoc 2 m m,
      mul_assoc 4 (e + m) m,
      add-mul e m m,
      mul_comm e m,
    )

costs-more : (a d room p q : ℕ) (w : ℤ) → w ≡ pos a → room ≤ a → room ≤ d → p ≡ unsigned_abs (w -ℤ pos d) → q ≡ unsigned_abs (w +ℤ pos d)
    → p * p + 4 * d * room ≤ q * q
costs-more a d room p q w e la ld ep eq = elim (cases_lt a d) [
  | inl less ↦ wider (d - a) a d room p q la (omega (arith, less)) (omega (arith, ints, e, ep, less)) (omega (arith, ints, e, eq, less))
  | inr more ↦ wider (a - d) d d room p q ld (omega (arith, more)) (omega (arith, ints, e, ep, more)) (omega (arith, ints, e, eq, more))
]

pub pair : (t d cut x g h room : ℕ) → t < 2 ^ 32 → IsCut d cut → Proposes 2 farthest t d x g → cast_signed w32 x ≡ signed (is_negative t) (pos 1)
    → h ≡ lesser g 32767 → room ≡ lesser (over (2 ^ 15) g) (lesser (size t) cut) → Certifies Two t d x h room
pair t d cut x g h room lt is_cut p sign eh er some z within held =
    let v = cast_signed w32 x in
    let b = is_negative t in
    let a = size t in
    let w = signed b z in
    let under = is_cut.under in
    let rest = lesser a cut in
    let left = lesser-left (over (2 ^ 15) g) rest in
    let right = lesser-right (over (2 ^ 15) g) rest in
    let near : g < 2 ^ 15 = omega (arith, over-is (2 ^ 15) g (omega arith) p.left, er, left, some) in
    let same : h ≡ g = eh ∙ lesser-is g 32767 (omega (arith, near)) in
    let true_gap = p.gap near z within held in
    let mine : gap z d v ≡ unsigned_abs (w -ℤ pos d) = ap (λ (y : ℤ). gap z d y) sign ∙ own b d z in
    let is : w ≡ pos a = size-true a d g w (size-most t lt) is_cut.small near (holds-size t z lt held) (sym mine ∙ true_gap) in
    let room_a : room ≤ a = omega (arith, er, right, lesser-left a cut) in
    let room_d : room ≤ d = omega (arith, er, right, lesser-right a cut, under) in
    let margin : IsMargin (full Two) z d v (4 * d * room) =
    λ y has. elim (one-or-other b y (among Two y has)) [
      | inl e ↦ inl (e ∙ sym sign)
      | inr e ↦ inr (costs-more a d room (gap z d v) (gap z d y) w is room_a room_d mine (ap (λ (q : ℤ). gap z d q) e ∙ other b d z))
    ] in
    record {
      gap = true_gap ∙ sym same;
      first = first-by-margin Two z d v (4 * d * room) p.level margin (positive d room (omega (arith, room_d, some)) some);
      margin = margin;
      few = seven Two v p.level;
    }

-- each is a coordinate of its lane
pub single-is : (t d cut x g h room : ℕ) → IsCut d cut → Proposes 1 farthest t d x g → h ≡ lesser g 32767 → room ≡ lesser (over (2 ^ 15) g) cut
    → IsCoordinate One t d cut x h room
single-is t d cut x g h room small p eh er = record {
  small = omega (arith, eh, lesser-right g 32767);
  within = omega (arith, er, lesser-right (over (2 ^ 15) g) cut);
  certain = single t d cut x g h room small p eh er;
}

pub pair-is : (t d cut x g h room : ℕ) → t < 2 ^ 32 → IsCut d cut → Proposes 2 farthest t d x g → x ≡ turned t 1 → h ≡ lesser g 32767
    → room ≡ lesser (over (2 ^ 15) g) (lesser (size t) cut) → IsCoordinate Two t d cut x h room
pair-is t d cut x g h room lt small p sign eh er = record {
  small = omega (arith, eh, lesser-right g 32767);
  within = omega (arith, er, lesser-right (over (2 ^ 15) g) (lesser (size t) cut), lesser-right (size t) cut);
  certain = pair t d cut x g h room lt small p (ap (cast_signed w32) sign ∙ by (is_negative t)) eh er;
}
  where
    by : (b : Bool) → cast_signed w32 (if b then minus 0 1 else 1) ≡ signed b (pos 1)
    by true = refl
    by false = refl

pub several-is : (l : Levels) (t d cut x g h room : ℕ) → IsCut d cut → Proposes (size_of l) farthest t d x g → h ≡ lesser g cut → room ≡ over cut g
    → IsCoordinate l t d cut x h room
several-is l t d cut x g h room is_cut p eh er = record {
  small = omega (arith, eh, lesser-right g cut, is_cut.few);
  within = omega (arith, er, over-is cut g (omega (arith, is_cut.few)) p.left);
  certain = several l t d cut x g h room is_cut p eh er;
}
