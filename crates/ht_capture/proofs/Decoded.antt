-- What octets that were written read as.
use Rattle.std.proofs.Common.{◌≡◌, ℕ, ℤ, pos, negsuc, ◌+◌, ◌*◌, ◌<◌, ◌≤◌, ◌^◌, List, [], ◌∷◌, ◌++◌, length}
use Rattle.std.proofs.Common.{drop, flat_map, refl, sym, ap, ◌∙◌, append_assoc, arith, w16, w32, FitsSigned}
use mir.Syntax.{Width}
use Rattle.std.proofs.lemmas.Int.{to_z-of_z}
use Rattle.std.proofs.lemmas.List.{append-nil, drop-drop}
use Rattle.std.proofs.Math.Seq.{drop-append_seam}
use Rattle.std.specs.Int.{cast_signed, cast_unsigned}
use Rattle.byteorder.specs.Endian.{big_number, big_bytes}
use Rattle.byteorder.specs.Numbers.{big_number-reads_back, length-bytes_high_first}
use Rattle.ht_metric.specs.declared.tap.Tap.{Tap}
use Rattle.ht_metric.specs.declared.sample.Sample.{Sample}
use Rattle.ht_metric.specs.Rows.{Leg, Row, rows_of}
use Rattle.ht_capture.specs.Numbers.{unsigned_at, tap_at, sample_at}
use Rattle.ht_capture.specs.Systems.{taps_at, legs_at, triangle_of, samples_at}
use Rattle.ht_capture.specs.Files.{tap_octets, sample_octets, taps_octets, leg_octets, legs_octets}
use Rattle.ht_capture.specs.Contents.{AreTaps, AreSamples, AreLegs}
use Rattle.ht_capture.proofs.Written.{length-leg}

-- the rest of octets behind a front
pub behind_front : (x rest : List ℕ) (n : ℕ) → length x ≡ n → drop n (x ++ rest) ≡ rest
behind_front x rest n is = ap (λ k. drop k (x ++ rest)) (sym is) ∙ drop-append_seam x rest

pub behind_more : (octets x rest : List ℕ) (at n : ℕ) → drop at octets ≡ x ++ rest → length x ≡ n → drop (at + n) octets ≡ rest
behind_more octets x rest at n is len = sym (drop-drop n at octets) ∙ (ap (drop n) is ∙ behind_front x rest n len)

unsigned_fits : (z : ℤ) → FitsSigned w16 z → cast_unsigned w16 z < 256 ^ 2
unsigned_fits (pos n) f = omega (arith, f)
unsigned_fits (negsuc n) f = omega (arith, f)

wide_fits : (z : ℤ) → FitsSigned w32 z → cast_unsigned w32 z < 256 ^ 4
wide_fits (pos n) f = omega (arith, f)
wide_fits (negsuc n) f = omega (arith, f)

-- two signed numbers of this many octets, one behind the other
both_read : (w : Width) (n : ℕ) (octets rest : List ℕ) (at : ℕ) (a b : ℤ)
    → drop at octets ≡ (big_bytes n (cast_unsigned w a) ++ big_bytes n (cast_unsigned w b)) ++ rest → FitsSigned w a → FitsSigned w b
    → cast_unsigned w a < 256 ^ n → cast_unsigned w b < 256 ^ n
    → (cast_signed w (big_number n (drop at octets)) ≡ a) × (cast_signed w (big_number n (drop (at + n) octets)) ≡ b)
both_read w n octets rest at a b is f g few small =
    let x : List ℕ = big_bytes n (cast_unsigned w a) in
    let y : List ℕ = big_bytes n (cast_unsigned w b) in
    let first : drop at octets ≡ x ++ (y ++ rest) = is ∙ append_assoc x y rest in
    let second : drop (at + n) octets ≡ y ++ rest = behind_more octets x (y ++ rest) at n first (length-bytes_high_first n (cast_unsigned w a)) in (
      ap (λ o. cast_signed w (big_number n o)) first
          ∙ (ap (cast_signed w) (big_number-reads_back n (cast_unsigned w a) (y ++ rest) few) ∙ to_z-of_z w a f),
      ap (λ o. cast_signed w (big_number n o)) second
          ∙ (ap (cast_signed w) (big_number-reads_back n (cast_unsigned w b) rest small) ∙ to_z-of_z w b g),
    )

tap_made : (tap : Tap) (re im : ℤ) → re ≡ tap.re → im ≡ tap.im → (let t : Tap = record { re = re; im = im } in t) ≡ tap
tap_made tap re im p q = ap (λ (a : ℤ). let t : Tap = record { re = a; im = im } in t) p ∙ ap (λ (b : ℤ). let t : Tap = record { re = tap.re; im = b } in t) q

pub tap_read : (octets rest : List ℕ) (at : ℕ) (tap : Tap) → drop at octets ≡ tap_octets tap ++ rest
    → FitsSigned w16 tap.re → FitsSigned w16 tap.im → tap_at octets at ≡ tap
unfolding tap_at
tap_read octets rest at tap is f g =
    let both = both_read w16 2 octets rest at tap.re tap.im is f g (unsigned_fits tap.re f) (unsigned_fits tap.im g) in tap_made tap _ _ both.0 both.1

sample_made : (s : Sample) (re im : ℤ) → re ≡ s.re → im ≡ s.im → (let t : Sample = record { re = re; im = im } in t) ≡ s
sample_made s re im p q =
    ap (λ (a : ℤ). let t : Sample = record { re = a; im = im } in t) p ∙ ap (λ (b : ℤ). let t : Sample = record { re = s.re; im = b } in t) q

pub sample_read : (octets rest : List ℕ) (at : ℕ) (s : Sample) → drop at octets ≡ sample_octets s ++ rest
    → FitsSigned w32 s.re → FitsSigned w32 s.im → sample_at octets at ≡ s
unfolding sample_at
sample_read octets rest at s is f g =
    let both = both_read w32 4 octets rest at s.re s.im is f g (wide_fits s.re f) (wide_fits s.im g) in sample_made s _ _ both.0 both.1

-- this many entries that were written
taps_read : (right : List Tap) (octets rest : List ℕ) (at : ℕ)
    → drop at octets ≡ taps_octets (length right) right ++ rest → AreTaps right → taps_at (length right) octets at ≡ right
taps_read [] octets rest at is typed = refl
taps_read (t ∷ ts) octets rest at is typed =
    let first : drop at octets ≡ tap_octets t ++ (taps_octets (length ts) ts ++ rest) = is ∙ append_assoc (tap_octets t) (taps_octets (length ts) ts) rest in
    let next : drop (at + 4) octets ≡ taps_octets (length ts) ts ++ rest =
    behind_more octets (tap_octets t) (taps_octets (length ts) ts ++ rest) at 4 first refl in
    ap (λ (x : Tap). x ∷ taps_at (length ts) octets (at + 4)) (tap_read octets _ at t first typed.0 typed.1)
    ∙ ap (λ (xs : List Tap). t ∷ xs) (taps_read ts octets rest (at + 4) next typed.2)

leg_made : (leg : Leg) (d : ℕ) (right : List Tap) → d ≡ leg.diagonal → right ≡ leg.right → (let l : Leg = record { diagonal = d; right = right } in l) ≡ leg
leg_made leg d right p q = ap (λ (a : ℕ). let l : Leg = record { diagonal = a; right = right } in l) p
    ∙ ap (λ (b : List Tap). let l : Leg = record { diagonal = leg.diagonal; right = b } in l) q

leg_read : (n : ℕ) (leg : Leg) (octets rest : List ℕ) (at : ℕ) → drop at octets ≡ leg_octets n leg ++ rest
    → leg.diagonal < 2 ^ 16 → length leg.right ≡ n → AreTaps leg.right
    → (let l : Leg = record { diagonal = unsigned_at octets at; right = taps_at n octets (at + 2) } in l) ≡ leg
leg_read n leg octets rest at is small len typed =
    let d : List ℕ = big_bytes 2 leg.diagonal in
    let first : drop at octets ≡ d ++ (taps_octets n leg.right ++ rest) = is in
    let next : drop (at + 2) octets ≡ taps_octets (length leg.right) leg.right ++ rest =
    behind_more octets d (taps_octets n leg.right ++ rest) at 2 first refl ∙ ap (λ k. taps_octets k leg.right ++ rest) (sym len) in
    leg_made leg _ _ (ap (big_number 2) first ∙ big_number-reads_back 2 leg.diagonal (taps_octets n leg.right ++ rest) small)
    (ap (λ k. taps_at k octets (at + 2)) (sym len) ∙ taps_read leg.right octets rest (at + 2) next typed)

pub legs_read : (legs : List Leg) (octets rest : List ℕ) (at : ℕ)
    → drop at octets ≡ legs_octets legs ++ rest → AreLegs legs → legs_at (length legs) octets at ≡ legs
legs_read [] octets rest at is typed = refl
legs_read (leg ∷ legs) octets rest at is typed =
    let n = length legs in
    let first : drop at octets ≡ leg_octets n leg ++ (legs_octets legs ++ rest) = is ∙ append_assoc (leg_octets n leg) (legs_octets legs) rest in
    let place : at + (2 + 4 * n) ≡ at + 2 + 4 * n = omega arith in
    let next : drop (at + 2 + 4 * n) octets ≡ legs_octets legs ++ rest =
    ap (λ k. drop k octets) (sym place) ∙ behind_more octets (leg_octets n leg) (legs_octets legs ++ rest) at (2 + 4 * n) first (length-leg n leg) in
    ap (λ (x : Leg). x ∷ legs_at n octets (at + 2 + 4 * n)) (leg_read n leg octets _ at first typed.0 typed.1 typed.2)
    ∙ ap (λ (xs : List Leg). leg ∷ xs) (legs_read legs octets rest (at + 2 + 4 * n) next typed.3)

-- a triangle that was written
pub triangle_read : (legs : List Leg) → AreLegs legs → triangle_of (length legs) (legs_octets legs) ≡ legs
unfolding triangle_of
triangle_read legs typed = legs_read legs (legs_octets legs) [] 0 (sym (append-nil (legs_octets legs))) typed

-- the octets of samples
pub length-samples : (samples : List Sample) → length (flat_map sample_octets samples) ≡ 8 * length samples
length-samples [] = refl
length-samples (s ∷ ss) = omega (arith, length-samples ss)

-- the rows of a system, of samples that were written
pub rows_read : (legs : List Leg) (samples : List Sample) (octets rest : List ℕ) (at : ℕ)
    → length legs ≤ length samples → drop at octets ≡ flat_map sample_octets samples ++ rest → AreSamples samples
    → rows_of legs (samples_at (length legs) octets at) ≡ rows_of legs samples
rows_read [] samples octets rest at few is typed = refl
rows_read (leg ∷ legs) [] octets rest at few is typed = absurd (omega (arith, few))
rows_read (leg ∷ legs) (s ∷ ss) octets rest at few is typed =
    let first : drop at octets ≡ sample_octets s ++ (flat_map sample_octets ss ++ rest) =
    is ∙ append_assoc (sample_octets s) (flat_map sample_octets ss) rest in
    let next : drop (at + 8) octets ≡ flat_map sample_octets ss ++ rest =
    behind_more octets (sample_octets s) (flat_map sample_octets ss ++ rest) at 8 first refl in
    let row : Sample → List Row → List Row = λ y more. record { diagonal = leg.diagonal; right = leg.right; sample = y } ∷ more in
    ap (λ (y : Sample). row y (rows_of legs (samples_at (length legs) octets (at + 8)))) (sample_read octets _ at s first typed.0 typed.1)
    ∙ ap (λ (more : List Row). row s more) (rows_read legs ss octets rest (at + 8) (omega (arith, few)) next typed.2)
