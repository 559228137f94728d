-- How much more the other levels of a coordinate cost than its nearest one.
use Rattle.std.proofs.Common.{◌≡◌, ◌⊎◌, ℕ, zero, suc, ◌+◌, ◌-◌, ◌*◌, ◌≤◌, ℤ, pos, ◌+ℤ◌, ◌-ℤ◌, ◌*ℤ◌, List, [], ◌∷◌}
use Rattle.std.proofs.Common.{◌++◌, get_or, Bool, true, false, unsigned_abs, length, drop, arith, refl, inl, inr, ap, sym, ◌∙◌, subst}
use Rattle.std.specs.Prelude.{◌==◌, if◌then◌else◌}
use Rattle.std.specs.Int.{bit_at}
use Rattle.std.specs.Int.Signed.{◌<ℤ◌, ◌≤ℤ◌}
use Rattle.std.proofs.Math.Nat.{mul-le-mul, mul-add, add-mul, mul_comm, mul_assoc, mul-zero}
use Rattle.std.proofs.lemmas.Bool.{cases_lt}
use Rattle.std.proofs.lemmas.Int.{ints}
use Rattle.ht_nearest.proofs.Bests as bests
use Rattle.ht_pam.specs.Ladders.{Rungs, IsLadder, level, lowest, levels}
use Rattle.ht_pam.specs.Zigzags.{gap, nearest_first, From, Ascending}
use Rattle.ht_pam.proofs.EndLemmas.{times_less}
use Rattle.ht_pam.proofs.ZigzagLemmas.{ascending}
use Rattle.ht_metric.specs.Distance.{square}
use Rattle.ht_sphere.specs.Coordinates.{first_of, IsMargin}
use Rattle.ht_sphere.proofs.Bests.{walk_some}
use Rattle.ht_sphere.proofs.Paths.{in_order, has_sorted, first_among}

-- an allowed level is the level at a place
in_both : (xs : List ℤ) (y x : ℤ) → bests.Among (xs ++ y ∷ []) x → bests.Among xs x ⊎ (x ≡ y)
in_both [] y x g = elim g [ inl e ↦ inr (sym e) | inr none ↦ absurd none ]
in_both (z ∷ zs) y x g = elim g [ inl e ↦ inl (inl e) | inr rest ↦ elim (in_both zs y x rest) [ inl there ↦ inl (inr there) | inr e ↦ inr e ] ]

in_one_more : (b : Bool) (xs : List ℤ) (y x : ℤ) → bests.Among (if b then xs ++ y ∷ [] else xs) x → bests.Among xs x ⊎ (x ≡ y)
in_one_more true xs y x g = in_both xs y x g
in_one_more false xs y x g = inl g

in_lowest : (l : Rungs) (j : ℕ) (x : ℤ) → bests.Among (lowest l j) x → (i : ℕ) × (x ≡ level l.size i)
in_lowest l zero x h = absurd h
in_lowest l (suc j) x h = elim (in_one_more (bit_at l.mask j == 1) (lowest l j) (level l.size j) x h) [
  | inl there ↦ in_lowest l j x there
  | inr e ↦ (j, e)
]

-- two levels of a ladder are the same, or two apart
two_apart : (size i j : ℕ) (x y : ℤ) → x ≡ level size i → y ≡ level size j → (x ≡ y) ⊎ (((x +ℤ pos 1) <ℤ y) ⊎ ((y +ℤ pos 1) <ℤ x))
two_apart size i j x y e f = elim (cases_lt i j) [
  | inl less ↦ inr (inl (omega (arith, ints)))
  | inr more ↦ elim (cases_lt j i) [
    | inl less ↦ inr (inr (omega (arith, ints)))
    | inr same ↦ let s : i ≡ j = omega arith in inl (e ∙ ap (level size) s ∙ sym f)
  ]
]

-- so one of them is far where the other one is near
far_up : (t : ℤ) (d : ℕ) (x y : ℤ) → (x +ℤ pos 1) <ℤ y → 2 * d - gap t d x ≤ gap t d y
far_up t d x y h =
    let a = times_less d x (x +ℤ pos 1) (omega (arith, ints)) in
    let b = times_less d (x +ℤ pos 1) y h in
    apart t d (pos d *ℤ x) (pos d *ℤ y) (omega (arith, ints))
  where
    apart : (t : ℤ) (d : ℕ) (a b : ℤ) → (a +ℤ pos (2 * d)) ≤ℤ b → 2 * d - unsigned_abs (t -ℤ a) ≤ unsigned_abs (t -ℤ b)
    apart t d a b h = omega (arith, ints)

far_down : (t : ℤ) (d : ℕ) (x y : ℤ) → (y +ℤ pos 1) <ℤ x → 2 * d - gap t d x ≤ gap t d y
far_down t d x y h = let e = far_up t d y x h in omega arith

-- a cost of what was passed
pub squares : (d : ℕ) (u t z x : ℤ) → u ≡ t → z ≡ x → square (u -ℤ (pos d *ℤ z)) ≡ square (t -ℤ (pos d *ℤ x))
squares d u t z x e f = ap (λ (r : ℤ). square (r -ℤ (pos d *ℤ z))) e ∙ ap (λ (y : ℤ). square (t -ℤ (pos d *ℤ y))) f

-- a walk of what was passed
pub sorted_of : (l : Rungs) (t u : ℤ) (d n : ℕ) (walk : List ℤ) → walk ≡ nearest_first (gap u n) (levels l) → u ≡ t → n ≡ d
    → walk ≡ nearest_first (gap t d) (levels l)
sorted_of l t u d n walk is e f = is ∙ ap (λ (r : ℤ). nearest_first (gap r n) (levels l)) e ∙ ap (λ (m : ℕ). nearest_first (gap t m) (levels l)) f

-- a walk by its first levels
pub of_two : (all walk : List ℤ) (x z : ℤ) → walk ≡ all → x ≡ get_or walk 0 (pos 0) → walk ≡ get_or walk 0 (pos 0) ∷ z ∷ drop 2 walk → all ≡ x ∷ z ∷ drop 2 walk
of_two all walk x z same first both = sym same ∙ both ∙ ap (λ (y : ℤ). y ∷ z ∷ drop 2 walk) (sym first)

pub of_one : (all walk : List ℤ) (x : ℤ) → walk ≡ all → x ≡ get_or walk 0 (pos 0) → length walk ≡ 1 → all ≡ x ∷ []
of_one all walk x same first one = sym same ∙ alone walk one ∙ ap (λ (y : ℤ). y ∷ []) (sym first)
  where
    alone : (walk : List ℤ) → length walk ≡ 1 → walk ≡ get_or walk 0 (pos 0) ∷ []
    alone [] e = absurd (omega (arith, e))
    alone (y ∷ []) e = refl
    alone (y ∷ z ∷ rest) e = absurd (omega (arith, e))

-- none costs less than the first of an ascending order
pub least_of : (f : ℤ → ℕ) (n : ℕ) (xs : List ℤ) (y : ℤ) → From f n xs → bests.Among xs y → n ≤ f y
least_of f n [] y h g = absurd g
least_of f n (x ∷ xs) y h g = elim g [
  | inl e ↦ subst (λ (z : ℤ). n ≤ f z) e h.0
  | inr rest ↦ least_of f n xs y h.1 rest
]

pub least_first : (f : ℤ → ℕ) (xs : List ℤ) (y : ℤ) → Ascending f xs → bests.Among xs y → f (get_or xs 0 (pos 0)) ≤ f y
least_first f [] y h g = absurd g
least_first f (x ∷ xs) y h g = elim g [
  | inl e ↦ subst (λ (z : ℤ). f x ≤ f z) e (omega arith)
  | inr rest ↦ least_of f (f x) xs y h.0 rest
]

-- (g + 2e)^2 is g^2 + 4(g + e)e
wider_by : (g e h m : ℕ) → m ≡ 4 * (g + e) * e → g + 2 * e ≤ h → g * g + m ≤ h * h
wider_by g e h m is far =
    let all = mul-le-mul far far in
    let k = 2 * e in
    omega (
      arith,
      all,
      is,
      add-mul g k (g + k),
      mul-add g g k,
      mul-add k g k,
      mul_comm g k,
      mul_assoc 2 e g,
      mul_assoc 2 e k,
      mul_comm e k,
      mul_assoc 2 e e,
      mul_assoc 4 (g + e) e,
      add-mul g e e,
      mul_comm g e,
    )

wider : (g h d m : ℕ) → g ≤ h → 2 * d - g ≤ h → m ≡ 4 * d * (d - g) → g * g + m ≤ h * h
wider g h d m more far is = elim (cases_lt g d) [
  | inl less ↦
      let e : g + (d - g) ≡ d = omega arith in
      wider_by g (d - g) h m (is ∙ ap (λ (n : ℕ). 4 * n * (d - g)) (sym e)) (omega (arith, e))
  | inr near ↦
      let none : d - g ≡ 0 = omega arith in
      let nothing : m ≡ 0 = is ∙ ap (λ (n : ℕ). 4 * d * n) none ∙ mul-zero (4 * d) in
      let all = mul-le-mul more more in omega (arith, all, nothing)
]

-- what one look tells: two levels are twice the diagonal apart
pub margin_at_one : (l : Rungs) (t : ℤ) (d : ℕ) (x : ℤ) (m : ℕ) → IsLadder l → x ≡ first_of l t d → m ≡ 4 * d * (d - gap t d x) → IsMargin l t d x m
margin_at_one l t d x m ladder e f y h =
    let walk = nearest_first (gap t d) (levels l) in
    let one = subst (bests.Among walk) (sym e) (first_among walk (walk_some l (gap t d) ladder)) in
    let other = has_sorted l (gap t d) y h in
    let least : gap t d x ≤ gap t d y = subst (λ (z : ℤ). gap t d z ≤ gap t d y) (sym e)
    (least_first (gap t d) walk y (ascending (gap t d) (levels l)) other) in
    let a = in_lowest l l.size x (in_order (gap t d) (levels l) x one) in
    let b = in_lowest l l.size y (in_order (gap t d) (levels l) y other) in
    elim (two_apart l.size a.0 b.0 x y a.1 b.1) [
      | inl same ↦ inl (sym same)
      | inr rest ↦ elim rest [
        | inl up ↦ inr (wider (gap t d x) (gap t d y) d m least (far_up t d x y up) f)
        | inr below ↦ inr (wider (gap t d x) (gap t d y) d m least (far_down t d x y below) f)
      ]
    ]

-- what two looks tell: none behind the second level is nearer than it
pub margin_at_two : (l : Rungs) (t : ℤ) (d : ℕ) (x z : ℤ) (rest : List ℤ) (m : ℕ) → nearest_first (gap t d) (levels l) ≡ x ∷ z ∷ rest
    → square (t -ℤ (pos d *ℤ x)) + m ≤ square (t -ℤ (pos d *ℤ z)) → IsMargin l t d x m
margin_at_two l t d x z rest m walk more y h =
    let other : bests.Among (x ∷ z ∷ rest) y = subst (λ (xs : List ℤ). bests.Among xs y) walk (has_sorted l (gap t d) y h) in
    let sorted : Ascending (gap t d) (x ∷ z ∷ rest) = subst (Ascending (gap t d)) walk (ascending (gap t d) (levels l)) in
    elim other [
      | inl e ↦ inl (sym e)
      | inr behind ↦ let least = least_first (gap t d) (z ∷ rest) y sorted.1 behind in let all = mul-le-mul least least in inr (omega (arith, all, more))
    ]

pub second_costs : (l : Rungs) (t : ℤ) (d : ℕ) (x z : ℤ) (rest : List ℤ) → nearest_first (gap t d) (levels l) ≡ x ∷ z ∷ rest
    → square (t -ℤ (pos d *ℤ x)) ≤ square (t -ℤ (pos d *ℤ z))
second_costs l t d x z rest walk =
    let sorted : Ascending (gap t d) (x ∷ z ∷ rest) = subst (Ascending (gap t d)) walk (ascending (gap t d) (levels l)) in
    mul-le-mul sorted.0.0 sorted.0.0

-- one level has no others
pub margin_of_one : (l : Rungs) (t : ℤ) (d : ℕ) (x : ℤ) (m : ℕ) → nearest_first (gap t d) (levels l) ≡ x ∷ [] → IsMargin l t d x m
margin_of_one l t d x m walk y h =
    let other : bests.Among (x ∷ []) y = subst (λ (xs : List ℤ). bests.Among xs y) walk (has_sorted l (gap t d) y h) in
    elim other [ inl e ↦ inl (sym e) | inr none ↦ absurd none ]
