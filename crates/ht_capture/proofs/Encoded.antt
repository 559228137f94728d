-- Octets that were read are those of what was read.
use Rattle.std.proofs.Common.{◌≡◌, ℕ, zero, suc, ◌+◌, ◌*◌, ◌-◌, ◌<◌, ◌≤◌, ◌^◌, ◌/◌, ◌%◌, List, [], ◌∷◌, ◌++◌, length, drop, get_or, flat_map}
use Rattle.std.proofs.Common.{refl, sym, ap, subst, ◌∙◌, append_assoc, arith, w16, w32, FitsSigned, Bool, true, false, ◌&&◌, ◌||◌, nat_eq, nat_lt}
use mir.Syntax.{Width}
use Rattle.std.proofs.lemmas.Bool.Decides.{nat_tests}
use Rattle.ht_rate.specs.Rates.{carriers_of}
use Rattle.ht_capture.proofs.Grids.{length-legs_at}
use Rattle.ht_capture.specs.declared.items.FrameHead.{FrameHead}
use Rattle.ht_capture.specs.Fields.{bad_flag}
use Rattle.std.proofs.lemmas.Int.{of_z-to_z, ints}
use Rattle.std.proofs.lemmas.List.{append-nil, drop_more, drop_all, get_or-drop}
use Rattle.std.proofs.lemmas.Grind.{flat_map-append}
use Rattle.std.specs.Int.{cast_signed, cast_unsigned}
use Rattle.byteorder.specs.Endian.{big_number, big_bytes}
use Rattle.ht_metric.specs.declared.sample.Sample.{Sample}
use Rattle.ht_metric.specs.Rows.{Leg}
use Rattle.ht_capture.specs.Numbers.{tap_at, sample_at}
use Rattle.ht_capture.specs.Systems.{samples_at, taps_at, legs_at, triangle_of, triangle_octets}
use Rattle.ht_capture.specs.Files.{tap_octets, sample_octets, taps_octets, leg_octets, legs_octets}
use Rattle.ht_capture.specs.Contents.{AreTaps, AreSamples, AreLegs}
use Rattle.ht_fields.specs.Tests.{AreBytes}

-- two octets, and then the rest
two_more : (octets : List ℕ) (at : ℕ) → at + 2 ≤ length octets → drop at octets ≡ get_or octets at 0 ∷ get_or octets (at + 1) 0 ∷ drop (at + 2) octets
two_more octets at enough =
    let e : at + 1 + 1 ≡ at + 2 = omega arith in
    drop_more octets at 0 (omega (arith, enough))
    ∙ ap (λ (xs : List ℕ). get_or octets at 0 ∷ xs) (drop_more octets (at + 1) 0 (omega (arith, enough)) ∙ ap (λ n. get_or octets (at + 1) 0 ∷ drop n octets) e)

pair_number : (x y : ℕ) (rest : List ℕ) → big_number 2 (x ∷ y ∷ rest) ≡ x * 256 + y
pair_number x y rest = omega arith

pub pair_small : (x y : ℕ) (rest : List ℕ) → x < 256 → y < 256 → big_number 2 (x ∷ y ∷ rest) < 2 ^ 16
pair_small x y rest f g = omega (arith, pair_number x y rest, f, g)

pub pair_back : (x y : ℕ) (rest : List ℕ) → x < 256 → y < 256 → big_bytes 2 (big_number 2 (x ∷ y ∷ rest)) ≡ x ∷ y ∷ []
pair_back x y rest f g =
    let n = big_number 2 (x ∷ y ∷ rest) in
    let is : n ≡ x * 256 + y = pair_number x y rest in
    let high : n / 256 % 256 ≡ x = omega (arith, is, f, g) in
    let low : n % 256 ≡ y = omega (arith, is, g) in
    ap (λ (z : ℕ). z ∷ n % 256 ∷ []) high ∙ ap (λ (z : ℕ). x ∷ z ∷ []) low

-- the two octets at a place
pub unsigned_back : (octets : List ℕ) (at : ℕ) → at + 2 ≤ length octets → AreBytes octets
    → (big_number 2 (drop at octets) < 2 ^ 16) × (big_bytes 2 (big_number 2 (drop at octets)) ++ drop (at + 2) octets ≡ drop at octets)
unsigned_back octets at enough bytes =
    let x = get_or octets at 0 in
    let y = get_or octets (at + 1) 0 in
    let more = two_more octets at enough in (
      subst (λ (o : List ℕ). big_number 2 o < 2 ^ 16) (sym more) (pair_small x y (drop (at + 2) octets) (bytes at) (bytes (at + 1))),
      ap (λ (o : List ℕ). big_bytes 2 (big_number 2 o) ++ drop (at + 2) octets) more
          ∙ (ap (λ (z : List ℕ). z ++ drop (at + 2) octets) (pair_back x y (drop (at + 2) octets) (bytes at) (bytes (at + 1))) ∙ sym more),
    )

-- two parts of octets, one behind the other
pub fronts_joined : (first second octets : List ℕ) (a b c d : ℕ) → first ++ drop b octets ≡ drop a octets
    → second ++ drop c octets ≡ drop b octets → c ≡ d → (first ++ second) ++ drop d octets ≡ drop a octets
fronts_joined first second octets a b c d one two e =
    append_assoc first second (drop d octets) ∙ (ap (λ (z : List ℕ). first ++ z) (ap (λ k. second ++ drop k octets) (sym e) ∙ two) ∙ one)

-- the number of these octets at a place is what it is written as
abbrev IsBack : Width → ℕ → List ℕ → ℕ → Type 0
IsBack w n octets at = FitsSigned w (cast_signed w (big_number n (drop at octets)))
    × (big_bytes n (cast_unsigned w (cast_signed w (big_number n (drop at octets)))) ++ drop (at + n) octets ≡ drop at octets)

-- two such numbers, one behind the other
both_back : (w : Width) (n : ℕ) (octets : List ℕ) (at : ℕ) → IsBack w n octets at → IsBack w n octets (at + n)
    → FitsSigned w (cast_signed w (big_number n (drop at octets))) × FitsSigned w (cast_signed w (big_number n (drop (at + n) octets)))
    × ((big_bytes n (cast_unsigned w (cast_signed w (big_number n (drop at octets))))
    ++ big_bytes n (cast_unsigned w (cast_signed w (big_number n (drop (at + n) octets))))) ++ drop (at + (n + n)) octets ≡ drop at octets)
both_back w n octets at re im =
    let first : List ℕ = big_bytes n (cast_unsigned w (cast_signed w (big_number n (drop at octets)))) in
    let second : List ℕ = big_bytes n (cast_unsigned w (cast_signed w (big_number n (drop (at + n) octets)))) in
    (re.0, im.0, fronts_joined first second octets at (at + n) (at + n + n) (at + (n + n)) re.1 im.1 (omega arith))

signed_fits : (n : ℕ) → n < 2 ^ 16 → FitsSigned w16 (cast_signed w16 n)
signed_fits n small = omega (arith, ints, small)

-- a signed number of two octets
signed_back : (octets : List ℕ) (at : ℕ) → at + 2 ≤ length octets → AreBytes octets → IsBack w16 2 octets at
signed_back octets at enough bytes =
    let u = unsigned_back octets at enough bytes in
    (signed_fits (big_number 2 (drop at octets)) u.0, ap (λ n. big_bytes 2 n ++ drop (at + 2) octets) (of_z-to_z w16 (big_number 2 (drop at octets)) u.0) ∙ u.1)

-- an entry of a triangle
tap_back : (octets : List ℕ) (at : ℕ) → at + 4 ≤ length octets → AreBytes octets
    → FitsSigned w16 (tap_at octets at).re × FitsSigned w16 (tap_at octets at).im × (tap_octets (tap_at octets at) ++ drop (at + 4) octets ≡ drop at octets)
unfolding tap_at
tap_back octets at enough bytes =
    both_back w16 2 octets at (signed_back octets at (omega (arith, enough)) bytes) (signed_back octets (at + 2) (omega (arith, enough)) bytes)

taps_back : (n : ℕ) (octets : List ℕ) (at : ℕ) → at + 4 * n ≤ length octets → AreBytes octets
    → AreTaps (taps_at n octets at) × (length (taps_at n octets at) ≡ n) × (taps_octets n (taps_at n octets at) ++ drop (at + 4 * n) octets ≡ drop at octets)
taps_back zero octets at enough bytes = let e : at + 4 * 0 ≡ at = omega arith in (tt, refl, ap (λ n. drop n octets) e)
taps_back (suc n) octets at enough bytes =
    let t = tap_back octets at (omega (arith, enough)) bytes in
    let ts = taps_back n octets (at + 4) (omega (arith, enough)) bytes in
    let e : at + 4 * suc n ≡ at + 4 + 4 * n = omega arith in
    let first = tap_octets (tap_at octets at) in (
      (t.0, t.1, ts.0),
      ap suc ts.1,
      append_assoc first (taps_octets n (taps_at n octets (at + 4))) (drop (at + 4 * suc n) octets)
          ∙ (ap (λ (z : List ℕ). first ++ z) (ap (λ k. taps_octets n (taps_at n octets (at + 4)) ++ drop k octets) e ∙ ts.2) ∙ t.2),
    )

pub legs_back : (n : ℕ) (octets : List ℕ) (at : ℕ) → at + 2 * (n * n) ≤ length octets → AreBytes octets
    → AreLegs (legs_at n octets at) × (legs_octets (legs_at n octets at) ++ drop (at + 2 * (n * n)) octets ≡ drop at octets)
legs_back zero octets at enough bytes = let e : at + 2 * (0 * 0) ≡ at = omega arith in (tt, ap (λ n. drop n octets) e)
legs_back (suc n) octets at enough bytes =
    let square : 2 * (suc n * suc n) ≡ 2 + 4 * n + 2 * (n * n) = omega arith in
    let d = unsigned_back octets at (omega (arith, enough, square)) bytes in
    let ts = taps_back n octets (at + 2) (omega (arith, enough, square)) bytes in
    let rest = legs_back n octets (at + 2 + 4 * n) (omega (arith, enough, square)) bytes in
    let size = length-legs_at n octets (at + 2 + 4 * n) in
    let e : at + 2 * (suc n * suc n) ≡ at + 2 + 4 * n + 2 * (n * n) = omega (arith, square) in
    let dd : List ℕ = big_bytes 2 (big_number 2 (drop at octets)) in
    let tt : List ℕ = taps_octets n (taps_at n octets (at + 2)) in
    let ll : List ℕ = legs_octets (legs_at n octets (at + 2 + 4 * n)) in
    let tail : List ℕ = drop (at + 2 * (suc n * suc n)) octets in
    let below : ll ++ tail ≡ drop (at + 2 + 4 * n) octets = ap (λ k. ll ++ drop k octets) e ∙ rest.1 in
    let row : (dd ++ tt) ++ (ll ++ tail) ≡ drop at octets =
    append_assoc dd tt (ll ++ tail) ∙ (ap (λ (z : List ℕ). dd ++ (tt ++ z)) below ∙ (ap (λ (z : List ℕ). dd ++ z) ts.2 ∙ d.1)) in (
      (d.0, ts.1 ∙ sym size, ts.0, rest.0),
      append_assoc (leg_octets (length (legs_at n octets (at + 2 + 4 * n)))
          (record { diagonal = big_number 2 (drop at octets); right = taps_at n octets (at + 2) })) ll tail
          ∙ (ap (λ k. leg_octets k (let l : Leg = record { diagonal = big_number 2 (drop at octets); right = taps_at n octets (at + 2) } in l)
          ++ (ll ++ tail)) size ∙ row),
    )

-- the octets of a triangle
pub triangle_back : (n : ℕ) (octets : List ℕ) → length octets ≡ triangle_octets n
    → AreBytes octets → AreLegs (triangle_of n octets) × (legs_octets (triangle_of n octets) ≡ octets)
unfolding triangle_of
triangle_back n octets size bytes =
    let all = legs_back n octets 0 (omega (arith, size)) bytes in
    let none : drop (0 + 2 * (n * n)) octets ≡ [] = drop_all (0 + 2 * (n * n)) octets (omega (arith, size)) in
    (all.0, sym (append-nil _) ∙ (ap (λ (z : List ℕ). legs_octets (legs_at n octets 0) ++ z) (sym none) ∙ all.1))

or_false : (a b : Bool) → false ≡ (a || b) → a ≡ false
or_false true b e = absurd cc
or_false false b e = refl

-- a flag that is good and not 0
pub only_one : (head : FrameHead) (carrier count flag : ℕ) → false ≡ bad_flag head carrier count flag → 1 ≤ flag → flag ≡ 1
unfolding bad_flag
only_one head carrier count flag good some =
    let low : nat_lt 1 flag ≡ false = or_false (nat_lt 1 flag) (nat_eq carrier (carriers_of head.rate - 1) && nat_eq count 0) good in
    let few : flag ≤ 1 = grind (arith, nat_tests) in omega (arith, few, some)

-- four octets, and then the rest
quad_number : (a b c d : ℕ) (rest : List ℕ) → big_number 4 (a ∷ b ∷ c ∷ d ∷ rest) ≡ a * 16777216 + b * 65536 + c * 256 + d
quad_number a b c d rest = omega arith

quad_back : (a b c d : ℕ) (rest : List ℕ) → a < 256 → b < 256 → c < 256 → d < 256
    → (big_number 4 (a ∷ b ∷ c ∷ d ∷ rest) < 2 ^ 32) × (big_bytes 4 (big_number 4 (a ∷ b ∷ c ∷ d ∷ rest)) ≡ a ∷ b ∷ c ∷ d ∷ [])
quad_back a b c d rest fa fb fc fd =
    let n = big_number 4 (a ∷ b ∷ c ∷ d ∷ rest) in
    let is : n ≡ a * 16777216 + b * 65536 + c * 256 + d = quad_number a b c d rest in
    let ia : n / 16777216 % 256 ≡ a = omega (arith, is, fa, fb, fc, fd) in
    let ib : n / 65536 % 256 ≡ b = omega (arith, is, fa, fb, fc, fd) in
    let ic : n / 256 % 256 ≡ c = omega (arith, is, fa, fb, fc, fd) in
    let id : n % 256 ≡ d = omega (arith, is, fa, fb, fc, fd) in (
      omega (arith, is, fa, fb, fc, fd),
      ap (λ (z : ℕ). z ∷ n / 65536 % 256 ∷ n / 256 % 256 ∷ n % 256 ∷ []) ia
          ∙ (ap (λ (z : ℕ). a ∷ z ∷ n / 256 % 256 ∷ n % 256 ∷ []) ib ∙ (ap (λ (z : ℕ). a ∷ b ∷ z ∷ n % 256 ∷ []) ic ∙ ap (λ (z : ℕ). a ∷ b ∷ c ∷ z ∷ []) id)),
    )

four_more : (octets : List ℕ) (at : ℕ) → at + 4 ≤ length octets
    → drop at octets ≡ get_or octets at 0 ∷ get_or octets (at + 1) 0 ∷ get_or octets (at + 2) 0 ∷ get_or octets (at + 2 + 1) 0 ∷ drop (at + 4) octets
four_more octets at enough =
    let e : at + 2 + 2 ≡ at + 4 = omega arith in
    two_more octets at (omega (arith, enough))
    ∙ ap (λ (xs : List ℕ). get_or octets at 0 ∷ get_or octets (at + 1) 0 ∷ xs) (two_more octets (at + 2) (omega (arith, enough))
    ∙ ap (λ n. get_or octets (at + 2) 0 ∷ get_or octets (at + 2 + 1) 0 ∷ drop n octets) e)

wide_fits : (n : ℕ) → n < 2 ^ 32 → FitsSigned w32 (cast_signed w32 n)
wide_fits n small = omega (arith, ints, small)

-- a signed number of four octets
wide_back : (octets : List ℕ) (at : ℕ) → at + 4 ≤ length octets → AreBytes octets → IsBack w32 4 octets at
wide_back octets at enough bytes =
    let more = four_more octets at enough in
    let quad = quad_back (get_or octets at 0) (get_or octets (at + 1) 0) (get_or octets (at + 2) 0)
    (get_or octets (at + 2 + 1) 0) (drop (at + 4) octets) (bytes at) (bytes (at + 1)) (bytes (at + 2)) (bytes (at + 2 + 1)) in
    let small : big_number 4 (drop at octets) < 2 ^ 32 = subst (λ (o : List ℕ). big_number 4 o < 2 ^ 32) (sym more) quad.0 in (
      wide_fits (big_number 4 (drop at octets)) small,
      ap (λ n. big_bytes 4 n ++ drop (at + 4) octets) (of_z-to_z w32 (big_number 4 (drop at octets)) small)
          ∙ (ap (λ (o : List ℕ). big_bytes 4 (big_number 4 o) ++ drop (at + 4) octets) more
          ∙ (ap (λ (z : List ℕ). z ++ drop (at + 4) octets) quad.1 ∙ sym more)),
    )

-- a sample at a place
pub sample_back : (octets : List ℕ) (at : ℕ) → at + 8 ≤ length octets → AreBytes octets
    → FitsSigned w32 (sample_at octets at).re × FitsSigned w32 (sample_at octets at).im
    × (sample_octets (sample_at octets at) ++ drop (at + 8) octets ≡ drop at octets)
unfolding sample_at
sample_back octets at enough bytes =
    both_back w32 4 octets at (wide_back octets at (omega (arith, enough)) bytes) (wide_back octets (at + 4) (omega (arith, enough)) bytes)

-- Values of one width, one behind another: where each is what its octets are written as, all are.
module _ {A : Type 0} (octets_of : A → List ℕ) (width : ℕ) (octets : List ℕ) (value_at : ℕ → A) (values_at : ℕ → ℕ → List A)
    (none : (at : ℕ) → values_at 0 at ≡ []) (next : (n at : ℕ) → values_at (suc n) at ≡ value_at at ∷ values_at n (at + width))
    (AreTyped : List A → Type 0) (typed_none : AreTyped []) where
  pub values_back : (one : (at : ℕ) (later : List A) → at + width ≤ length octets → AreTyped later
      → AreTyped (value_at at ∷ later) × (octets_of (value_at at) ++ drop (at + width) octets ≡ drop at octets))
      → (n at : ℕ) → at + width * n ≤ length octets
      → AreTyped (values_at n at) × (flat_map octets_of (values_at n at) ++ drop (at + width * n) octets ≡ drop at octets)
  values_back one zero at enough =
      let e : at + width * 0 ≡ at = omega arith in (
        subst AreTyped (sym (none at)) typed_none,
        ap (λ (vs : List A). flat_map octets_of vs ++ drop (at + width * 0) octets) (none at) ∙ ap (λ k. drop k octets) e,
      )
  values_back one (suc n) at enough =
      let e : at + width + width * n ≡ at + width * suc n = omega arith in
      let rest = values_back one n (at + width) (omega (arith, enough, e)) in
      let first = one at (values_at n (at + width)) (omega (arith, enough, e)) rest.0 in (
        subst AreTyped (sym (next n at)) first.0,
        ap (λ (vs : List A). flat_map octets_of vs ++ drop (at + width * suc n) octets) (next n at)
            ∙ fronts_joined (octets_of (value_at at)) (flat_map octets_of (values_at n (at + width))) octets at (at + width)
            (at + width + width * n) (at + width * suc n) first.1 rest.1 e,
      )

-- samples, one behind another
pub length-samples_at : (n : ℕ) (octets : List ℕ) (at : ℕ) → length (samples_at n octets at) ≡ n
length-samples_at zero octets at = refl
length-samples_at (suc n) octets at = ap suc (length-samples_at n octets (at + 8))

pub samples_back : (n : ℕ) (octets : List ℕ) (at : ℕ) → at + 8 * n ≤ length octets → AreBytes octets
    → AreSamples (samples_at n octets at) × (flat_map sample_octets (samples_at n octets at) ++ drop (at + 8 * n) octets ≡ drop at octets)
samples_back n octets at enough bytes =
    values_back sample_octets 8 octets (λ k. sample_at octets k) (λ m k. samples_at m octets k) (λ k. refl) (λ m k. refl) AreSamples tt
    (λ k later le typed. let s = sample_back octets k le bytes in ((s.0, s.1, typed), s.2)) n at enough

-- octets that are octets, from a place on, and up to one
pub bytes_drop : (n : ℕ) (octets : List ℕ) → AreBytes octets → AreBytes (drop n octets)
bytes_drop n octets bytes i = subst (λ x. x < 256) (sym (get_or-drop n octets i 0)) (bytes (n + i))

-- one sample more
pub samples_more : (xs : List Sample) (s : Sample) → AreSamples xs → FitsSigned w32 s.re → FitsSigned w32 s.im → AreSamples (xs ++ s ∷ [])
samples_more [] s typed f g = (f, g, tt)
samples_more (x ∷ xs) s typed f g = (typed.0, typed.1, samples_more xs s typed.2 f g)

pub sample_step : (old new later : List Sample) (octets : List ℕ) (k : ℕ) (s : Sample) → (more : List Sample) → old ≡ later ++ more
    → new ≡ old ++ s ∷ [] → s ≡ sample_at octets (8 * k) → AreSamples more → flat_map sample_octets more ++ drop (8 * k) octets ≡ octets
    → 8 * (k + 1) ≤ length octets → AreBytes octets
    → (next : List Sample) × (new ≡ later ++ next) × AreSamples next × (flat_map sample_octets next ++ drop (8 * (k + 1)) octets ≡ octets)
sample_step old new later octets k s more was is read typed front enough bytes =
    let e : 8 * k + 8 ≡ 8 * (k + 1) = omega arith in
    let back = sample_back octets (8 * k) (omega (arith, enough)) bytes in
    let same : List Sample → List Sample = λ z. z in (
      more ++ s ∷ [],
      is ∙ (ap (λ (z : List Sample). z ++ s ∷ []) was ∙ append_assoc later more (s ∷ [])),
      samples_more more s typed (subst (λ (z : Sample). FitsSigned w32 z.re) (sym read) back.0) (subst (λ (z : Sample). FitsSigned w32 z.im) (sym read) back.1),
      ap (λ (z : List ℕ). z ++ drop (8 * (k + 1)) octets) (flat_map-append sample_octets more (s ∷ []))
          ∙ (append_assoc (flat_map sample_octets more) (sample_octets s) (drop (8 * (k + 1)) octets)
          ∙ (ap (λ (z : List ℕ). flat_map sample_octets more ++ z)
          (ap (λ (z : Sample). sample_octets z ++ drop (8 * (k + 1)) octets) read
          ∙ (ap (λ n. sample_octets (sample_at octets (8 * k)) ++ drop n octets) (sym e) ∙ back.2)) ∙ front)),
    )
