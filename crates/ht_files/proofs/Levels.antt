-- The octets of a point that fits its subcarrier give the point back.
use Rattle.std.proofs.Common.{◌≡◌, ℕ, zero, suc, ◌+◌, ◌%◌, ℤ, pos, negsuc, [], ◌∷◌, Bool, true, false, is_some, if◌then◌else◌, Option, None, Some}
use Rattle.std.proofs.Common.{refl, sym, ap, subst, ◌∙◌, arith, rules, w8, to_z, of_z, unsigned_abs, neg_ℤ, List, length, ◌^◌, ◌<◌, ◌&&◌, nat_eq, FitsSigned}
use Rattle.std.specs.Ordering.{int_eq}
use Rattle.std.proofs.lemmas.Bool.{and_parts, eqb-true}
use Rattle.std.proofs.lemmas.Bool.Decides.{Decides-int_eq, nat_tests}
use Rattle.std.proofs.lemmas.Int.{of_z-to_z, to_z-of_z}
use Rattle.ht_fields.specs.Tests.{AreBytes}
use Rattle.ht_fields.proofs.Choices.{when_false}
use Rattle.ht_rate.specs.declared.kinds.Carrier.{Carrier}
use Rattle.ht_rate.specs.declared.kinds.Carrier.TheVariants.{Data, Pilot}
use Rattle.ht_rate.specs.declared.kinds.Modulation.{Modulation}
use Rattle.ht_rate.specs.declared.kinds.Modulation.TheVariants.{Bpsk, Qpsk, Qam16, Qam64}
use Rattle.ht_rate.specs.declared.rates.Rate.{Rate}
use Rattle.ht_rate.specs.Rates.{modulation_of}
use Rattle.ht_scramble.specs.Sequence.{polarity_at}
use Rattle.ht_scramble.proofs.Signs.{unsigned_abs-polarity_at}
use Rattle.ht_pam.specs.declared.point.Point.{Point}
use Rattle.ht_map.specs.Gray.{Axis, bits_at, i_axis, joined, label_of, q_axis, q_levels}
use Rattle.ht_pilot.specs.Pilots.{is_negated, pilot_of}
use Rattle.ht_tx.specs.Symbols.{Fits, pilot_point}
use Rattle.ht_files.specs.Points.{fits_carrier, misfits, point_in, point_octets}

-- the number of an octet in two's complement gives it back
abbrev pub IsSmall : ℤ → Type 0
IsSmall x = to_z w8 (of_z w8 x) ≡ x

abbrev AreSmall : Axis → Type 0
AreSmall [] = Unit {0}
AreSmall (step ∷ axis) = IsSmall step.1 × AreSmall axis

here_or_later : (t : Bool) (x y : ℤ) (n : ℕ) (rest : Option ℕ) → (t ≡ true → x ≡ y) → IsSmall x → (is_some rest ≡ true → IsSmall y)
    → is_some (if t then Some n else rest) ≡ true → IsSmall y
here_or_later true x y n rest same small later e = subst IsSmall (same refl) small
here_or_later false x y n rest same small later e = later e

-- a level that bits name
level_small : (axis : Axis) (level : ℤ) → AreSmall axis → is_some (bits_at axis level) ≡ true → IsSmall level
unfolding bits_at
level_small [] level small e = absurd cc
level_small (step ∷ axis) level small e =
    here_or_later (int_eq step.1 level) step.1 level step.0 (bits_at axis level) ((Decides-int_eq step.1 level).0) small.0
    (level_small axis level small.1) e

i_small : (m : Modulation) → AreSmall (i_axis m)
i_small Bpsk = (refl, (refl, tt))
i_small Qpsk = (refl, (refl, tt))
i_small Qam16 = (refl, (refl, (refl, (refl, tt))))
i_small Qam64 = (refl, (refl, (refl, (refl, (refl, (refl, (refl, (refl, tt))))))))

q_small : (m : Modulation) → AreSmall (q_axis m)
q_small Bpsk = (refl, tt)
q_small Qpsk = (refl, (refl, tt))
q_small Qam16 = (refl, (refl, (refl, (refl, tt))))
q_small Qam64 = (refl, (refl, (refl, (refl, (refl, (refl, (refl, (refl, tt))))))))

both_named : (levels : ℕ) (a b : Option ℕ) → is_some (joined levels a b) ≡ true → (is_some a ≡ true) × (is_some b ≡ true)
both_named levels None b e = absurd cc
both_named levels (Some i) None e = absurd cc
both_named levels (Some i) (Some q) e = (refl, refl)

unit_small : (v : ℤ) → unsigned_abs v ≡ 1 → IsSmall v × IsSmall (neg_ℤ v)
unit_small (pos zero) e = absurd (omega arith)
unit_small (pos (suc zero)) e = (refl, refl)
unit_small (pos (suc (suc n))) e = absurd (omega arith)
unit_small (negsuc zero) e = (refl, refl)
unit_small (negsuc (suc n)) e = absurd (omega arith)

either_small : (b : Bool) (x y : ℤ) → IsSmall x → IsSmall y → IsSmall (if b then x else y)
either_small true x y a b = a
either_small false x y a b = b

pilot_small : (r : Rate) (symbol k stream : ℕ) → IsSmall (pilot_of r symbol k stream)
unfolding pilot_of
pilot_small r symbol k stream =
    let v = polarity_at ((symbol + 3) % 127) in
    let small = unit_small v (unsigned_abs-polarity_at ((symbol + 3) % 127)) in
    either_small (is_negated r symbol k stream) (neg_ℤ v) v small.1 small.0

-- a point from its parts
from_parts : (p : Point) → IsSmall p.i → IsSmall p.q → point_in (point_octets p) ≡ p
unfolding point_in
from_parts p i q =
    ap (λ (v : ℤ). let r : Point = record { i = v; q = to_z w8 (of_z w8 p.q) } in r) i
    ∙ ap (λ (v : ℤ). let r : Point = record { i = p.i; q = v } in r) q

-- the octets of a point that fits
pub point_back : (r : Rate) (symbol : ℕ) (carrier : Carrier) (stream : ℕ) (p : Point) → Fits r symbol carrier stream p → point_in (point_octets p) ≡ p
unfolding label_of pilot_point
point_back r symbol (Data m) stream p fits =
    let scheme = modulation_of r in
    let named = both_named (q_levels scheme) (bits_at (i_axis scheme) p.i) (bits_at (q_axis scheme) p.q) fits in
    from_parts p (level_small (i_axis scheme) p.i (i_small scheme) named.0) (level_small (q_axis scheme) p.q (q_small scheme) named.1)
point_back r symbol (Pilot k) stream p fits =
    let i : p.i ≡ pilot_of r symbol k stream = ap (λ (z : Point). z.i) fits in
    let q : p.q ≡ pos 0 = ap (λ (z : Point). z.q) fits in
    from_parts p (subst IsSmall (sym i) (pilot_small r symbol k stream)) (subst IsSmall (sym q) refl)

-- octets give the point that they are read as
pub octets_back : (octets : List ℕ) → length octets ≡ 2 → AreBytes octets → point_octets (point_in octets) ≡ octets
unfolding point_in
octets_back [] two bytes = absurd (omega (arith, two))
octets_back (a ∷ []) two bytes = absurd (omega (arith, two))
octets_back (a ∷ (b ∷ [])) two bytes =
    let low : a < 2 ^ 8 = omega (arith, bytes 0) in
    let high : b < 2 ^ 8 = omega (arith, bytes 1) in
    ap (λ (x : ℕ). x ∷ of_z w8 (to_z w8 b) ∷ []) (of_z-to_z w8 a low) ∙ ap (λ (x : ℕ). a ∷ x ∷ []) (of_z-to_z w8 b high)
octets_back (a ∷ (b ∷ (c ∷ more))) two bytes = absurd (omega (arith, two))

same_tests : (a b : Bool) → (a ≡ true → b ≡ true) → (b ≡ true → a ≡ true) → a ≡ b
same_tests true b f g = sym (f refl)
same_tests false true f g = g refl
same_tests false false f g = refl

-- signed numbers are compared by their octets
equal_test : (a b : ℤ) → FitsSigned w8 a → FitsSigned w8 b → nat_eq (of_z w8 a) (of_z w8 b) ≡ int_eq a b
equal_test a b f g =
    same_tests (nat_eq (of_z w8 a) (of_z w8 b)) (int_eq a b)
    (λ e. (Decides-int_eq a b).1 (sym (to_z-of_z w8 a f) ∙ (ap (to_z w8) (eqb-true (of_z w8 a) (of_z w8 b) e) ∙ to_z-of_z w8 b g)))
    (λ e. let same : of_z w8 a ≡ of_z w8 b = ap (of_z w8) ((Decides-int_eq a b).0 e) in grind (arith, nat_tests))

yes_and : (a b : Bool) → a ≡ true → b ≡ (a && b)
yes_and true b e = refl
yes_and false b e = absurd cc

no_and : (a b : Bool) → a ≡ false → a ≡ (a && b)
no_and true b e = absurd cc
no_and false b e = refl

-- a pilot's real part is the wanted one
pub pilot_yes : (r : Rate) (symbol : ℕ) (carrier : Carrier) (k stream : ℕ) (p : Point) (v : ℤ) → carrier ≡ Pilot k → v ≡ pilot_of r symbol k stream
    → FitsSigned w8 p.i → FitsSigned w8 p.q → FitsSigned w8 v → of_z w8 p.i ≡ of_z w8 v
    → nat_eq (of_z w8 p.q) 0 ≡ fits_carrier r symbol carrier stream p
unfolding pilot_point
pilot_yes r symbol carrier k stream p v is same f g h equal =
    let test : nat_eq (of_z w8 p.i) (of_z w8 v) ≡ true = grind (arith, nat_tests) in
    let zero_fits : FitsSigned w8 (pos 0) = search rules in
    let first : int_eq p.i (pilot_of r symbol k stream) ≡ true = ap (λ (x : ℤ). int_eq p.i x) (sym same) ∙ (sym (equal_test p.i v f h) ∙ test) in
    let second : nat_eq (of_z w8 p.q) 0 ≡ int_eq p.q (pos 0) = equal_test p.q (pos 0) g zero_fits in
    second ∙ (yes_and (int_eq p.i (pilot_of r symbol k stream)) (int_eq p.q (pos 0)) first ∙ ap (λ (c : Carrier). fits_carrier r symbol c stream p) (sym is))

-- it is another one
pub pilot_no : (r : Rate) (symbol : ℕ) (carrier : Carrier) (k stream : ℕ) (p : Point) (v : ℤ) → carrier ≡ Pilot k → v ≡ pilot_of r symbol k stream
    → FitsSigned w8 p.i → FitsSigned w8 v → (of_z w8 p.i ≡ of_z w8 v → ⊥)
    → nat_eq (of_z w8 p.i) (of_z w8 v) ≡ fits_carrier r symbol carrier stream p
unfolding pilot_point
pilot_no r symbol carrier k stream p v is same f h differ =
    let test : nat_eq (of_z w8 p.i) (of_z w8 v) ≡ false = grind (arith, nat_tests) in
    let first : nat_eq (of_z w8 p.i) (of_z w8 v) ≡ int_eq p.i (pilot_of r symbol k stream) = equal_test p.i v f h ∙ ap (λ (x : ℤ). int_eq p.i x) same in
    first ∙ (no_and (int_eq p.i (pilot_of r symbol k stream)) (int_eq p.q (pos 0)) (sym first ∙ test)
    ∙ ap (λ (c : Carrier). fits_carrier r symbol c stream p) (sym is))

-- what fits is no fault, and what doesn't is one
pub fits_true : (r : Rate) (symbol : ℕ) (carrier : Carrier) (stream : ℕ) (p : Point) → fits_carrier r symbol carrier stream p ≡ true
    → Fits r symbol carrier stream p
fits_true r symbol (Data m) stream p e = e
fits_true r symbol (Pilot k) stream p e =
    let v = pilot_point r symbol k stream in
    let parts = and_parts (int_eq p.i v.i) (int_eq p.q v.q) e in
    ap (λ (x : ℤ). let z : Point = record { i = x; q = p.q } in z) ((Decides-int_eq p.i v.i).0 parts.0)
    ∙ ap (λ (x : ℤ). let z : Point = record { i = v.i; q = x } in z) ((Decides-int_eq p.q v.q).0 parts.1)

pub misfit : (r : Rate) (symbol : ℕ) (carrier : Carrier) (stream : ℕ) (octets : List ℕ) (p : Point) → p ≡ point_in octets
    → fits_carrier r symbol carrier stream p ≡ false → misfits r symbol carrier stream octets ≡ true
unfolding misfits
misfit r symbol carrier stream octets p is unfit =
    when_false _ _ _ (ap (λ (z : Point). fits_carrier r symbol carrier stream z) (sym is) ∙ unfit)
