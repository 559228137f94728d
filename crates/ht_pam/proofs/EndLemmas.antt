-- A walk whose two ends move apart.
use Rattle.std.proofs.Common.{refl, ◌≡◌, ◌⊎◌, ℕ, zero, suc, ◌+◌, ◌-◌, ◌*◌, ◌/◌, ◌^◌, ◌<◌, ◌≤◌, ℤ, pos, ◌+ℤ◌, ◌-ℤ◌, ◌*ℤ◌, List, []}
use Rattle.std.proofs.Common.{◌∷◌, ◌++◌, length, get_or, drop, Option, Some, None, append_assoc, true, unsigned_abs, sym, arith, inl, inr, ap, ◌∙◌, subst}
use Rattle.std.specs.Prelude.{◌==◌}
use Rattle.std.specs.Option.{MatchOption}
use Rattle.std.specs.Int.{bit_at}
use Rattle.std.specs.Int.Signed.{lt_z, ◌<ℤ◌, ◌≤ℤ◌}
use Rattle.std.proofs.lemmas.Bool.{and_parts, cases_lt}
use Rattle.std.proofs.lemmas.Int.{ints}
use Rattle.std.proofs.Math.IntN.{suc_ℤ-*ℤ, zero-*ℤ}
use Rattle.ht_pam.specs.Ladders.{Rungs, IsLadder, level, levels}
use Rattle.ht_pam.specs.Zigzags.{gap, put, nearest_first, From, Ascending}
use Rattle.ht_pam.specs.Ends.{levels_in, top, bottom, both, Under, Descending, IsZigzag}
use Rattle.ht_pam.specs.declared.zigzag.Zigzag.TheInside.{Inside as Fields}
use Rattle.ht_pam.proofs.ZigzagLemmas.{put_behind, put_first, from-weaker, from-nearest_first}
use Rattle.ht_pam.proofs.Tables.{IsSize}
use Rattle.ht_pam.proofs.EndTables.{ends, parts, lower_part, nothing, over, under, spaced}

-- products with a diagonal
times_sum : (d : ℕ) (x y : ℤ) → pos d *ℤ (x +ℤ y) ≡ (pos d *ℤ x) +ℤ (pos d *ℤ y)
times_sum zero x y = let a = zero-*ℤ (x +ℤ y) in let b = zero-*ℤ x in let c = zero-*ℤ y in omega (arith, ints)
times_sum (suc d) x y =
    let a = suc_ℤ-*ℤ (pos d) (x +ℤ y) in
    let b = suc_ℤ-*ℤ (pos d) x in
    let c = suc_ℤ-*ℤ (pos d) y in
    let e = times_sum d x y in
    omega (arith, ints)

times_most : (d : ℕ) (x y : ℤ) → x ≤ℤ y → (pos d *ℤ x) ≤ℤ (pos d *ℤ y)
times_most zero x y h = let b = zero-*ℤ x in let c = zero-*ℤ y in omega (arith, ints)
times_most (suc d) x y h =
    let b = suc_ℤ-*ℤ (pos d) x in
    let c = suc_ℤ-*ℤ (pos d) y in
    let e = times_most d x y h in
    omega (arith, ints)

times_one : (d : ℕ) → pos d *ℤ pos 1 ≡ pos d
times_one zero = refl
times_one (suc d) = let b = suc_ℤ-*ℤ (pos d) (pos 1) in let e = times_one d in omega (arith, ints)

pub times_less : (d : ℕ) (x y : ℤ) → x <ℤ y → ((pos d *ℤ x) +ℤ pos d) ≤ℤ (pos d *ℤ y)
times_less d x y h =
    let sum = times_sum d x (pos 1) in
    let one = times_one d in
    let most = times_most d (x +ℤ pos 1) y (omega (arith, ints)) in
    omega (arith, ints)

-- of two levels the lower one is at least as near where their middle is not below the target
nearer : (t a b : ℤ) → a ≤ℤ b → (t +ℤ t) ≤ℤ (a +ℤ b) → unsigned_abs (t -ℤ a) ≤ unsigned_abs (t -ℤ b)
nearer t a b h e = omega (arith, ints)

farther : (t a b : ℤ) → a <ℤ b → (a +ℤ b) <ℤ (t +ℤ t) → unsigned_abs (t -ℤ b) < unsigned_abs (t -ℤ a)
farther t a b h e = omega (arith, ints)

pub near : (t : ℤ) (d : ℕ) (low high : ℤ) → low <ℤ high → (t +ℤ t) ≤ℤ (pos d *ℤ (low +ℤ high)) → gap t d low ≤ gap t d high
near t d low high h e =
    let s = times_sum d low high in
    let m = times_less d low high h in
    nearer t (pos d *ℤ low) (pos d *ℤ high) (omega (arith, ints)) (omega (arith, ints))

pub far : (t : ℤ) (d : ℕ) (low high : ℤ) → 0 < d → low <ℤ high → (pos d *ℤ (low +ℤ high)) <ℤ (t +ℤ t) → gap t d high < gap t d low
far t d low high some h e =
    let s = times_sum d low high in
    let m = times_less d low high h in
    farther t (pos d *ℤ low) (pos d *ℤ high) (omega (arith, ints)) (omega (arith, ints))

is_less : (x y : ℤ) → lt_z x y ≡ true → x <ℤ y
is_less x y h = grind (arith, ints)

-- the levels up to the nearest one are nearer the higher they are
module _ (t : ℤ) (d : ℕ) (c : ℤ) where
  falls_one : (x y : ℤ) → 0 < d → (pos d *ℤ (c -ℤ pos 1)) <ℤ t → (x +ℤ pos 1) <ℤ y → y <ℤ (c +ℤ pos 1) → gap t d y < gap t d x
  falls_one x y some middle p q =
      let m = times_most d (x +ℤ y) ((c -ℤ pos 1) +ℤ (c -ℤ pos 1)) (omega (arith, ints)) in
      let s = times_sum d (c -ℤ pos 1) (c -ℤ pos 1) in
      far t d x y some (omega (arith, ints)) (omega (arith, ints))

  falls_all : (x : ℤ) (ys : List ℤ) → 0 < d → (pos d *ℤ (c -ℤ pos 1)) <ℤ t
      → over (x +ℤ pos 1) ys ≡ true → under (c +ℤ pos 1) ys ≡ true → Under (gap t d) (gap t d x) ys
  falls_all x [] some middle p q = tt
  falls_all x (y ∷ ys) some middle p q =
      let a = and_parts (lt_z (x +ℤ pos 1) y) (over (x +ℤ pos 1) ys) p in
      let b = and_parts (lt_z y (c +ℤ pos 1)) (under (c +ℤ pos 1) ys) q in
      (falls_one x y some middle (is_less (x +ℤ pos 1) y a.0) (is_less y (c +ℤ pos 1) b.0), falls_all x ys some middle a.1 b.1)

  falling : (xs : List ℤ) → 0 < d → (1 < length xs → (pos d *ℤ (c -ℤ pos 1)) <ℤ t) → spaced xs ≡ true → under (c +ℤ pos 1) xs ≡ true → Descending (gap t d) xs
  falling [] some middle p q = tt
  falling (x ∷ []) some middle p q = (tt, tt)
  falling (x ∷ y ∷ ys) some middle p q =
      let a = and_parts (over (x +ℤ pos 1) (y ∷ ys)) (spaced (y ∷ ys)) p in
      let b = and_parts (lt_z x (c +ℤ pos 1)) (under (c +ℤ pos 1) (y ∷ ys)) q in
      let m = middle (omega arith) in
      (falls_all x (y ∷ ys) some m a.0 b.1, falling (y ∷ ys) some (λ long. m) a.1 b.1)

  -- and those above it the lower they are
  rises_one : (x y : ℤ) → t ≤ℤ (pos d *ℤ (c +ℤ pos 1)) → (x +ℤ pos 1) <ℤ y → (c +ℤ pos 1) <ℤ x → gap t d x ≤ gap t d y
  rises_one x y middle p q =
      let m = times_most d ((c +ℤ pos 1) +ℤ (c +ℤ pos 1)) (x +ℤ y) (omega (arith, ints)) in
      let s = times_sum d (c +ℤ pos 1) (c +ℤ pos 1) in
      near t d x y (omega (arith, ints)) (omega (arith, ints))

  rises_all : (x : ℤ) (ys : List ℤ) → t ≤ℤ (pos d *ℤ (c +ℤ pos 1)) → over (x +ℤ pos 1) ys ≡ true → (c +ℤ pos 1) <ℤ x → From (gap t d) (gap t d x) ys
  rises_all x [] middle p q = tt
  rises_all x (y ∷ ys) middle p q =
      let a = and_parts (lt_z (x +ℤ pos 1) y) (over (x +ℤ pos 1) ys) p in
      (rises_one x y middle (is_less (x +ℤ pos 1) y a.0) q, rises_all x ys middle a.1 q)

  rising : (xs : List ℤ) → (0 < length xs → t ≤ℤ (pos d *ℤ (c +ℤ pos 1))) → spaced xs ≡ true → over (c +ℤ pos 1) xs ≡ true → Ascending (gap t d) xs
  rising [] middle p q = tt
  rising (x ∷ xs) middle p q =
      let a = and_parts (over (x +ℤ pos 1) xs) (spaced xs) p in
      let b = and_parts (lt_z (c +ℤ pos 1) x) (over (c +ℤ pos 1) xs) q in
      let m = middle (omega arith) in
      (rises_all x xs m a.0 (is_less (c +ℤ pos 1) x b.0), rising xs (λ some. m) a.1 b.1)

-- with no diagonal all levels are as near
level_gap : (t x : ℤ) → gap t 0 x ≡ unsigned_abs t
level_gap t x = let e = zero-*ℤ x in omega (arith, ints)

level_from : (t : ℤ) (n : ℕ) (xs : List ℤ) → n ≤ unsigned_abs t → From (gap t 0) n xs
level_from t n [] h = tt
level_from t n (x ∷ xs) h = (omega (arith, level_gap t x), level_from t n xs h)

level_rising : (t : ℤ) (xs : List ℤ) → Ascending (gap t 0) xs
level_rising t [] = tt
level_rising t (x ∷ xs) = (level_from t (gap t 0 x) xs (omega (arith, level_gap t x)), level_rising t xs)

-- a walk begins
abbrev pub Starts : ℤ → ℕ → ℕ → ℕ → ℕ → Type 0
Starts t d size mask low = IsZigzag t d size low (mask - low) × (levels_in size mask ≡ both size low (mask - low))

all_left : (m : ℕ) → m ≡ m - 0
all_left m = omega arith

all_above : (xs ys : List ℤ) → ys ≡ [] → xs ≡ ys ++ xs
all_above xs ys e = sym (ap (λ (l : List ℤ). l ++ xs) e)

pub starts_level : (t : ℤ) (d size mask : ℕ) → IsSize size → mask < 2 ^ size → d ≡ 0 → Starts t d size mask 0
starts_level t d size mask is within e = (
  record {
    sizes = is;
    below_within = omega arith;
    above_within = omega arith;
    apart = λ p q. absurd (omega arith);
    diagonal = λ p. absurd (omega arith);
    falls = rw (nothing size is) tt;
    rises = subst (λ (n : ℕ). Ascending (gap t n) (levels_in size (mask - 0))) (sym e) (level_rising t (levels_in size (mask - 0)));
  },
  all_above (levels_in size mask) (levels_in size 0) (nothing size is) ∙ ap (λ (m : ℕ). levels_in size 0 ++ levels_in size m) (all_left mask),
)

pub starts : (t : ℤ) (d size mask at low : ℕ) → IsSize size → 0 < mask → mask < 2 ^ size → 0 < d → at < size
    → (0 < at → (pos d *ℤ (level size at -ℤ pos 1)) <ℤ t) → (at + 1 < size → t ≤ℤ (pos d *ℤ (level size at +ℤ pos 1)))
    → low ≡ lower_part mask at → Starts t d size mask low
starts t d size mask at low is some within diagonal below under_it over_it same =
    subst (Starts t d size mask) (sym same)
    (let p = parts size mask at is some within below in
    let l = lower_part mask at in (
      record {
        sizes = is;
        below_within = omega (arith, p.within);
        above_within = omega arith;
        apart = λ q r. omega (arith, p.below q, p.above r);
        diagonal = λ q. diagonal;
        falls = falling t d (level size at) (levels_in size l) diagonal (λ long. under_it (omega (arith, p.few))) p.low_spaced p.low_under;
        rises = rising t d (level size at) (levels_in size (mask - l)) (λ long. over_it (omega (arith, p.rest))) p.high_spaced p.high_over;
      },
      p.all,
    ))

-- the same where a call was passed the target
pub starts_passed : (t u : ℤ) (d size mask at low : ℕ) → u ≡ t → IsSize size → 0 < mask → mask < 2 ^ size → 0 < d → at < size
    → (0 < at → (pos d *ℤ (level size at -ℤ pos 1)) <ℤ u) → (at + 1 < size → u ≤ℤ (pos d *ℤ (level size at +ℤ pos 1)))
    → low ≡ lower_part mask at → Starts t d size mask low
starts_passed t u d size mask at low e is some within diagonal below under_it over_it same =
    subst (λ (v : ℤ). Starts v d size mask low) e (starts u d size mask at low is some within diagonal below under_it over_it same)

-- a level that costs less than those before it, and at most what those behind it do, is the first
module _ (cost : ℤ → ℕ) where
  pulled : (bs : List ℤ) (x : ℤ) (ups : List ℤ) → From cost (suc (cost x)) bs
      → From cost (cost x) ups → nearest_first cost (bs ++ x ∷ ups) ≡ x ∷ nearest_first cost (bs ++ ups)
  pulled [] x ups p q = put_first cost x (nearest_first cost ups) (from-nearest_first cost (cost x) ups q)
  pulled (b ∷ bs) x ups p q =
      ap (λ (ys : List ℤ). put cost b ys) (pulled bs x ups p.1 q) ∙ put_behind cost b x (nearest_first cost (bs ++ ups)) (omega (arith, p.0))

  under_last : (n : ℕ) (bs : List ℤ) (x : ℤ) → Under cost n (bs ++ x ∷ []) → (cost x < n) × Under cost n bs
  under_last n [] x h = (h.0, tt)
  under_last n (b ∷ bs) x h = let r = under_last n bs x h.1 in (r.0, (h.0, r.1))

  -- all but the last one
  falls_on : (bs : List ℤ) (x : ℤ) → Descending cost (bs ++ x ∷ []) → Descending cost bs × From cost (suc (cost x)) bs
  falls_on [] x h = (tt, tt)
  falls_on (b ∷ bs) x h =
      let last = under_last (cost b) bs x h.0 in
      let rest = falls_on bs x h.1 in
      ((last.1, rest.0), (omega (arith, last.0), rest.1))

  from-both : (n : ℕ) (bs ups : List ℤ) → From cost n bs → From cost n ups → From cost n (bs ++ ups)
  from-both n [] ups p q = q
  from-both n (b ∷ bs) ups p q = (p.0, from-both n bs ups p.1 q)

abbrev Gives : ℤ → ℕ → ℕ → ℕ → ℕ → ℤ → ℕ → ℕ → Type 0
Gives t d size below above x low high =
    IsZigzag t d size low high × (nearest_first (gap t d) (both size below above) ≡ x ∷ nearest_first (gap t d) (both size low high))

module _ (t : ℤ) (d size below above : ℕ) (z : IsZigzag t d size below above) where
  abbrev cost : ℤ → ℕ
  cost = gap t d

  above_costs : (n : ℕ) → (0 < above → n ≤ gap t d (level size (bottom above))) → From (gap t d) n (levels_in size above)
  above_costs n h = elim (cases_lt 0 above) [
    | inl some ↦
        let e = ends size above z.sizes some z.above_within in
        let r : Ascending (gap t d) (level size (bottom above) ∷ levels_in size (above - 2 ^ bottom above)) = subst (Ascending (gap t d)) e.first z.rises in
        subst (From (gap t d) n) (sym e.first)
        (h some, from-weaker (gap t d) n (gap t d (level size (bottom above))) (levels_in size (above - 2 ^ bottom above)) (h some) r.0)
    | inr none ↦ let e : above ≡ 0 = omega arith in subst (λ (m : ℕ). From (gap t d) n (levels_in size m)) (sym e) (rw (nothing size z.sizes) tt)
  ]

  below_costs : (n : ℕ) → (0 < below → n ≤ gap t d (level size (top below))) → From (gap t d) n (levels_in size below)
  below_costs n h = elim (cases_lt 0 below) [
    | inl some ↦
        let e = ends size below z.sizes some z.below_within in
        let x = level size (top below) in
        let bs = levels_in size (below - 2 ^ top below) in
        let r = falls_on (gap t d) bs x (subst (Descending (gap t d)) e.last z.falls) in
        subst (From (gap t d) n) (sym e.last)
        (from-both (gap t d) n bs (x ∷ []) (from-weaker (gap t d) n (suc (gap t d x)) bs (omega (arith, h some)) r.1) (h some, tt))
    | inr none ↦ let e : below ≡ 0 = omega arith in subst (λ (m : ℕ). From (gap t d) n (levels_in size m)) (sym e) (rw (nothing size z.sizes) tt)
  ]

  -- the highest level below is given
  pub gives_lower : 0 < below → (0 < above → gap t d (level size (top below)) ≤ gap t d (level size (bottom above)))
      → Gives t d size below above (level size (top below)) (below - 2 ^ top below) above
  gives_lower some least =
      let e = ends size below z.sizes some z.below_within in
      let x = level size (top below) in
      let bs = levels_in size (below - 2 ^ top below) in
      let ups = levels_in size above in
      let r = falls_on (gap t d) bs x (subst (Descending (gap t d)) e.last z.falls) in (
        record {
          sizes = z.sizes;
          below_within = omega (arith, z.below_within);
          above_within = z.above_within;
          apart = λ p q. omega (arith, e.lower p, z.apart some q);
          diagonal = λ p. z.diagonal some;
          falls = r.0;
          rises = z.rises;
        },
        ap (λ (xs : List ℤ). nearest_first (gap t d) (xs ++ ups)) e.last ∙ ap (nearest_first (gap t d)) (append_assoc bs (x ∷ []) ups)
            ∙ pulled (gap t d) bs x ups r.1 (above_costs (gap t d x) least),
      )

  -- the lowest level above is given
  pub gives_higher : 0 < above → (0 < below → gap t d (level size (bottom above)) < gap t d (level size (top below)))
      → Gives t d size below above (level size (bottom above)) below (above - 2 ^ bottom above)
  gives_higher some less =
      let e = ends size above z.sizes some z.above_within in
      let x = level size (bottom above) in
      let bs = levels_in size below in
      let ups = levels_in size (above - 2 ^ bottom above) in
      let r : Ascending (gap t d) (x ∷ ups) = subst (Ascending (gap t d)) e.first z.rises in (
        record {
          sizes = z.sizes;
          below_within = z.below_within;
          above_within = omega (arith, z.above_within);
          apart = λ p q. omega (arith, e.higher q, z.apart p some);
          diagonal = z.diagonal;
          falls = z.falls;
          rises = r.1;
        },
        ap (λ (xs : List ℤ). nearest_first (gap t d) (bs ++ xs)) e.first
            ∙ pulled (gap t d) bs x ups (below_costs (suc (gap t d x)) less) r.0,
      )

-- none is given where none is left
pub gives_none : (t : ℤ) (d size below above : ℕ) → IsSize size → below ≡ 0 → above ≡ 0 → nearest_first (gap t d) (both size below above) ≡ []
gives_none t d size below above is e f =
    ap (λ (m : ℕ). nearest_first (gap t d) (both size m above)) e ∙ ap (λ (m : ℕ). nearest_first (gap t d) (both size 0 m)) f
    ∙ ap (λ (xs : List ℤ). nearest_first (gap t d) (xs ++ xs)) (nothing size is)

-- half of a power of two
pub halves : (w : ℕ) → (w ≡ 1) ⊎ (w ≡ 2) ⊎ (w ≡ 4) ⊎ (w ≡ 8) → 1 < w → ((w / 2 ≡ 1) ⊎ (w / 2 ≡ 2) ⊎ (w / 2 ≡ 4) ⊎ (w / 2 ≡ 8)) × (w / 2 + w / 2 ≡ w)
halves w is many = elim is [
  | inl e ↦ absurd (omega arith)
  | inr rest ↦ elim rest [
    | inl e ↦ (inl (omega arith), omega arith)
    | inr more ↦ elim more [
      | inl e ↦ (inr (inl (omega arith)), omega arith)
      | inr e ↦ (inr (inr (inl (omega arith))), omega arith)
    ]
  ]
]

pub two_halves : (at w : ℕ) → w / 2 + w / 2 ≡ w → at + w ≡ at + w / 2 + w / 2
two_halves at w e = omega arith

-- part `at` begins where its lower half does
twice : (at w : ℕ) → (w ≡ 1) ⊎ (w ≡ 2) ⊎ (w ≡ 4) ⊎ (w ≡ 8) → 1 < w → 2 * at * (w / 2) ≡ at * w
twice at w is many = elim is [
  | inl e ↦ absurd (omega arith)
  | inr rest ↦ elim rest [
    | inl e ↦ subst (λ (n : ℕ). 2 * at * (n / 2) ≡ at * n) (sym e) (omega arith)
    | inr more ↦ elim more [
      | inl e ↦ subst (λ (n : ℕ). 2 * at * (n / 2) ≡ at * n) (sym e) (omega arith)
      | inr e ↦ subst (λ (n : ℕ). 2 * at * (n / 2) ≡ at * n) (sym e) (omega arith)
    ]
  ]
]

one_more : (n h : ℕ) → (n + 1) * h ≡ n * h + h
one_more n h = grind arith

-- the target is above the middle between a place and the one below it, or at most there
abbrev pub Over : ℤ → ℕ → ℕ → ℕ → Type 0
Over t d size n = (pos d *ℤ (level size n -ℤ pos 1)) <ℤ t

abbrev pub Upto : ℤ → ℕ → ℕ → ℕ → Type 0
Upto t d size n = t ≤ℤ (pos d *ℤ (level size n -ℤ pos 1))

-- of two halves the one that has the nearest level, by the middle between them
pub half_step : (t : ℤ) (d size at w r : ℕ) → (w ≡ 1) ⊎ (w ≡ 2) ⊎ (w ≡ 4) ⊎ (w ≡ 8) → 1 < w → at * w + w ≤ size
    → (0 < at * w → Over t d size (at * w)) → (at * w + w < size → Upto t d size (at * w + w)) → (r ≡ 2 * at) ⊎ (r ≡ 2 * at + 1)
    → (r ≡ 2 * at + 1 → Over t d size (2 * at * (w / 2) + w / 2)) → (r ≡ 2 * at → Upto t d size (2 * at * (w / 2) + w / 2))
    → (r * (w / 2) + w / 2 ≤ size) × (0 < r * (w / 2) → Over t d size (r * (w / 2))) × (r * (w / 2) + w / 2 < size → Upto t d size (r * (w / 2) + w / 2))
half_step t d size at w r is many within below above either over upto =
    let h = w / 2 in
    let half : h + h ≡ w = (halves w is many).1 in
    let double : 2 * at * h ≡ at * w = twice at w is many in
    elim either [
      | inl e ↦
          let same : r * h ≡ at * w = ap (λ (n : ℕ). n * h) e ∙ double in
          let next : r * h + h ≡ 2 * at * h + h = ap (λ (n : ℕ). n * h + h) e in (
            omega (arith, same, half, within),
            λ some. subst (λ (n : ℕ). Over t d size n) (sym same) (below (omega (arith, same, some))),
            λ more. subst (λ (n : ℕ). Upto t d size n) (sym next) (upto e),
          )
      | inr e ↦
          let same : r * h ≡ 2 * at * h + h = ap (λ (n : ℕ). n * h) e ∙ one_more (2 * at) h in
          let next : r * h + h ≡ at * w + w = omega (arith, same, double, half) in (
            omega (arith, next, within),
            λ some. subst (λ (n : ℕ). Over t d size n) (sym same) (over e),
            λ more. subst (λ (n : ℕ). Upto t d size n) (sym next) (above (omega (arith, next, more))),
          )
    ]

pub shown_first : {now was rest : List ℤ} {x : ℤ} → was ≡ now → was ≡ x ∷ rest → x ≡ get_or now 0 (pos 0)
shown_first e f = sym (ap (λ (l : List ℤ). get_or l 0 (pos 0)) (sym e ∙ f))

-- a mask with one place less
pub less_place : (mask at place left : ℕ) → left ≡ mask - 2 ^ at → at ≡ place → left ≡ mask - 2 ^ place
less_place mask at place left e f = e ∙ ap (λ (n : ℕ). mask - 2 ^ n) f

-- the same where a call was passed the target
pub passed_lower : (t u : ℤ) (d size below above : ℕ) → u ≡ t → IsZigzag t d size below above
    → 0 < below → (0 < above → gap u d (level size (top below)) ≤ gap u d (level size (bottom above)))
    → Gives t d size below above (level size (top below)) (below - 2 ^ top below) above
passed_lower t u d size below above e z some h =
    gives_lower t d size below above z some (subst (λ (v : ℤ). 0 < above → gap v d (level size (top below)) ≤ gap v d (level size (bottom above))) e h)

pub passed_higher : (t u : ℤ) (d size below above : ℕ) → u ≡ t → IsZigzag t d size below above
    → 0 < above → (0 < below → gap u d (level size (bottom above)) < gap u d (level size (top below)))
    → Gives t d size below above (level size (bottom above)) below (above - 2 ^ bottom above)
passed_higher t u d size below above e z some h =
    gives_higher t d size below above z some (subst (λ (v : ℤ). 0 < below → gap v d (level size (bottom above)) < gap v d (level size (top below))) e h)

-- a walk that gave the level at a place goes on with what is left
takes_at : (t : ℤ) (d size low high l h low' high' at place : ℕ) {now : List ℤ} → nearest_first (gap t d) (both size low high) ≡ now
    → Gives t d size low high (level size place) l h → low' ≡ l → high' ≡ h → at ≡ place
    → IsZigzag t d size low' high' × ((x : ℤ) → x ≡ level size at → now ≡ x ∷ nearest_first (gap t d) (both size low' high'))
takes_at t d size low high l h low' high' at place view given e f same =
    let left : both size l h ≡ both size low' high' = ap (λ (m : ℕ). both size m h) (sym e) ∙ ap (λ (m : ℕ). both size low' m) (sym f) in (
      subst (λ (m : ℕ). IsZigzag t d size low' m) (sym f) (subst (λ (m : ℕ). IsZigzag t d size m h) (sym e) given.0),
      λ x is. sym view ∙ given.1 ∙ ap (λ (y : ℤ). y ∷ nearest_first (gap t d) (both size l h)) (sym (is ∙ ap (level size) same))
          ∙ ap (λ (ys : List ℤ). x ∷ nearest_first (gap t d) ys) left,
    )

pub takes_lower : (z : Fields) {u : ℤ} {at left : ℕ} {now : List ℤ} → u ≡ z.target → nearest_first (gap z.target z.d) (both z.size z.below z.above) ≡ now
    → IsZigzag z.target z.d z.size z.below z.above → 0 < z.below
    → (0 < z.above → gap u z.d (level z.size (top z.below)) ≤ gap u z.d (level z.size (bottom z.above))) → left ≡ z.below - 2 ^ at → at ≡ top z.below
    → IsZigzag z.target z.d z.size left z.above × ((x : ℤ) → x ≡ level z.size at → now ≡ x ∷ nearest_first (gap z.target z.d) (both z.size left z.above))
takes_lower z {u} {at} {left} shows view is some near is_left place =
    takes_at z.target z.d z.size z.below z.above (z.below - 2 ^ top z.below) z.above left z.above at (top z.below) view
    (passed_lower z.target u z.d z.size z.below z.above shows is some near) (less_place z.below at (top z.below) left is_left place) refl place

pub takes_higher : (z : Fields) {u : ℤ} {at left : ℕ} {now : List ℤ} → u ≡ z.target → nearest_first (gap z.target z.d) (both z.size z.below z.above) ≡ now
    → IsZigzag z.target z.d z.size z.below z.above → 0 < z.above
    → (0 < z.below → gap u z.d (level z.size (bottom z.above)) < gap u z.d (level z.size (top z.below))) → left ≡ z.above - 2 ^ at → at ≡ bottom z.above
    → IsZigzag z.target z.d z.size z.below left × ((x : ℤ) → x ≡ level z.size at → now ≡ x ∷ nearest_first (gap z.target z.d) (both z.size z.below left))
takes_higher z {u} {at} {left} shows view is some far is_left place =
    takes_at z.target z.d z.size z.below z.above z.below (z.above - 2 ^ bottom z.above) z.below left at (bottom z.above) view
    (passed_higher z.target u z.d z.size z.below z.above shows is some far) refl (less_place z.above at (bottom z.above) left is_left place) place

-- an allowed level that is the nearest of all levels is the first
pub nearest_at : (t : ℤ) (d size mask at : ℕ) → IsSize size → 0 < mask → mask < 2 ^ size → 0 < d → at < size
    → (0 < at → (pos d *ℤ (level size at -ℤ pos 1)) <ℤ t) → (at + 1 < size → t ≤ℤ (pos d *ℤ (level size at +ℤ pos 1)))
    → (bit_at mask at == 1) ≡ true → level size at ≡ get_or (nearest_first (gap t d) (levels_in size mask)) 0 (pos 0)
nearest_at t d size mask at is some within diagonal below under_it over_it set =
    let p = parts size mask at is some within below in
    let low = lower_part mask at in
    let high = mask - low in
    let start = starts t d size mask at low is some within diagonal below under_it over_it refl in
    let place = p.highest set in
    let last : level size (top low) ≡ level size at = ap (level size) place.1 in
    let near_it : 0 < high → gap t d (level size (top low)) ≤ gap t d (level size (bottom high)) =
    λ more.
    let e = ends size high is more start.0.above_within in
    let up : at < bottom high = p.above more in
    rw last (lower_near t d (level size at) (level size (bottom high)) (over_it (omega (arith, e.bottom_within))) (omega (arith, ints))) in
    let given = gives_lower t d size low high start.0 place.0 near_it in
    sym last ∙ shown_first (ap (nearest_first (gap t d)) (sym start.1)) given.1
  where
    lower_near : (t : ℤ) (d : ℕ) (c y : ℤ) → t ≤ℤ (pos d *ℤ (c +ℤ pos 1)) → (c +ℤ pos 1) <ℤ y → gap t d c ≤ gap t d y
    lower_near t d c y middle q =
        let m = times_most d ((c +ℤ pos 1) +ℤ (c +ℤ pos 1)) (c +ℤ y) (omega (arith, ints)) in
        let s = times_sum d (c +ℤ pos 1) (c +ℤ pos 1) in
        near t d c y (omega (arith, ints)) (omega (arith, ints))

-- the same of a ladder, where calls were passed its parts
pub nearest_of : (l : Rungs) (t u : ℤ) (d size mask at : ℕ) → IsLadder l → size ≡ l.size → mask ≡ l.mask → u ≡ t → 0 < d → at < size
    → (0 < at → (pos d *ℤ (level size at -ℤ pos 1)) <ℤ u) → (at + 1 < size → u ≤ℤ (pos d *ℤ (level size at +ℤ pos 1)))
    → (bit_at mask at == 1) ≡ true → level size at ≡ get_or (nearest_first (gap t d) (levels l)) 0 (pos 0)
nearest_of l t u d size mask at ladder e f same diagonal below under_it over_it set =
    let is : IsSize size = subst IsSize (sym e) ladder.size in
    let within : mask < 2 ^ size = subst (λ (n : ℕ). mask < 2 ^ n) (sym e) (subst (λ (m : ℕ). m < 2 ^ l.size) (sym f) ladder.within) in
    subst (λ (v : ℤ). level size at ≡ get_or (nearest_first (gap v d) (levels_in size mask)) 0 (pos 0)) same
    (nearest_at u d size mask at is (subst (λ (m : ℕ). 0 < m) (sym f) ladder.some) within diagonal below under_it over_it set)
    ∙ ap (λ (n : ℕ). get_or (nearest_first (gap t d) (levels_in n mask)) 0 (pos 0)) e
    ∙ ap (λ (m : ℕ). get_or (nearest_first (gap t d) (levels_in l.size m)) 0 (pos 0)) f

-- the first two of a walk: what is behind the first one, if anything is
pub second_of : (r s : Option ℤ) (now xs ys zs : List ℤ) → xs ≡ now → 0 < length now → MatchOption r ((xs ≡ []) × (ys ≡ [])) (λ x. xs ≡ x ∷ ys)
    → MatchOption s ((ys ≡ []) × (zs ≡ [])) (λ x. ys ≡ x ∷ zs) → MatchOption s (length now ≡ 1) (λ x. now ≡ get_or now 0 (pos 0) ∷ x ∷ drop 2 now)
second_of None s now xs ys zs same some first next = absurd (omega (arith, some, ap length (sym same ∙ first.0)))
second_of (Some x) None now xs ys zs same some first next = ap length (sym same ∙ first ∙ ap (λ (l : List ℤ). x ∷ l) next.0)
second_of (Some x) (Some z) now xs ys zs same some first next =
    let all : x ∷ z ∷ zs ≡ now = sym (sym same ∙ first ∙ ap (λ (l : List ℤ). x ∷ l) next) in
    subst (λ (l : List ℤ). l ≡ get_or l 0 (pos 0) ∷ z ∷ drop 2 l) all refl
