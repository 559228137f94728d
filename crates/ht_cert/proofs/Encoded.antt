-- The octets of a record that was read are those that are written of it.
use Rattle.std.proofs.Common.{◌≡◌, ℕ, zero, suc, ◌+◌, ◌*◌, ◌<◌, ◌≤◌, ◌^◌, List, ◌∷◌, ◌++◌, length, drop, flat_map, slice_index}
use Rattle.std.proofs.Common.{refl, sym, ap, subst, ◌∙◌, arith, w8, FitsSigned}
use Rattle.std.proofs.lemmas.Int.{of_z-to_z, ints}
use Rattle.std.proofs.lemmas.List.{drop_more, length-drop, take_all}
use Rattle.std.specs.Int.{cast_signed, cast_unsigned}
use Rattle.byteorder.specs.Endian.{big_number, big_bytes}
use Rattle.byteorder.specs.Numbers.{big_from-lt}
use Rattle.ht_fields.specs.Tests.{AreBytes}
use Rattle.ht_heads.proofs.Counts.{bytes_back_as}
use Rattle.ht_rate.specs.declared.kinds.Modulation.{Modulation}
use Rattle.ht_metric.specs.declared.sample.Sample.{Sample}
use Rattle.ht_metric.specs.Rows.{Leg, rows_of}
use Rattle.ht_metric.specs.Arrays.{legs, samples, legs-rows_of, samples-rows_of}
use Rattle.ht_metric.proofs.RowLemmas.{length-rows_of}
use Rattle.ht_capture.specs.Systems.{samples_at, triangle_of}
use Rattle.ht_capture.specs.Files.{legs_octets, sample_octets}
use Rattle.ht_capture.specs.Contents.{AreLegs, AreSamples}
use Rattle.ht_capture.proofs.Encoded.{bytes_drop, legs_back, length-samples_at, samples_back, values_back}
use Rattle.ht_capture.proofs.Grids.{length-legs_at}
use Rattle.ht_cert.specs.Records.{claim_width, claimed, distance_begins, full_grid, point_at, points_at, points_begin, samples_begin}
use Rattle.ht_cert.specs.Files.{ArePoints, IsRecord, claim_octets, point_octets}

-- points
small_fits : (n : ℕ) → n < 2 ^ 8 → FitsSigned w8 (cast_signed w8 n)
small_fits n small = omega (arith, ints, small)

point_back : (octets : List ℕ) (at : ℕ) → at + 2 ≤ length octets → AreBytes octets
    → FitsSigned w8 (point_at octets at).i × FitsSigned w8 (point_at octets at).q × (point_octets (point_at octets at) ++ drop (at + 2) octets ≡ drop at octets)
unfolding point_at
point_back octets at enough bytes =
    let a = slice_index octets at in
    let b = slice_index octets (at + 1) in
    let e : at + 1 + 1 ≡ at + 2 = omega arith in
    let two : drop at octets ≡ a ∷ b ∷ drop (at + 2) octets =
    drop_more octets at 0 (omega (arith, enough))
    ∙ ap (λ (xs : List ℕ). a ∷ xs) (drop_more octets (at + 1) 0 (omega (arith, enough)) ∙ ap (λ n. b ∷ drop n octets) e) in (
      small_fits a (bytes at),
      small_fits b (bytes (at + 1)),
      ap (λ x. x ∷ cast_unsigned w8 (cast_signed w8 b) ∷ drop (at + 2) octets) (of_z-to_z w8 a (bytes at))
          ∙ (ap (λ x. a ∷ x ∷ drop (at + 2) octets) (of_z-to_z w8 b (bytes (at + 1))) ∙ sym two),
    )

pub length-points_at : (n : ℕ) (octets : List ℕ) (at : ℕ) → length (points_at n octets at) ≡ n
length-points_at zero octets at = refl
length-points_at (suc n) octets at = ap suc (length-points_at n octets (at + 2))

points_back : (n : ℕ) (octets : List ℕ) (at : ℕ) → at + 2 * n ≤ length octets → AreBytes octets
    → ArePoints (points_at n octets at) × (flat_map point_octets (points_at n octets at) ++ drop (at + 2 * n) octets ≡ drop at octets)
points_back n octets at enough bytes =
    values_back point_octets 2 octets (λ k. point_at octets k) (λ m k. points_at m octets k) (λ k. refl) (λ m k. refl) ArePoints tt
    (λ k later le typed. let p = point_back octets k le bytes in ((p.0, p.1, typed), p.2)) n at enough

-- what was read of such octets is a record, and has these octets
pub claim_encoded : (number : ℕ) (m : Modulation) (streams : ℕ) (x : List ℕ) → 1 ≤ streams → streams ≤ 4 → length x ≡ claim_width streams → AreBytes x
    → IsRecord number (claimed number m streams x) × (length (claimed number m streams x).job.system ≡ streams)
    × (claim_octets (claimed number m streams x) ≡ x)
unfolding claimed claim_octets triangle_of
claim_encoded number m streams x some few wide bytes =
    let t = triangle_of streams x in
    let s = samples_at streams x (samples_begin streams) in
    let rows = rows_of t s in
    let p = points_at streams x (points_begin streams) in
    let rest = drop (distance_begins streams) x in
    let d = big_number 16 rest in
    let t_n : length t ≡ streams = length-legs_at streams x 0 in
    let s_n : length s ≡ streams = length-samples_at streams x (samples_begin streams) in
    let n_is : length rows ≡ streams = length-rows_of t s ∙ t_n in
    let t_is : legs rows ≡ t = legs-rows_of t s in
    let s_is : samples rows ≡ s =
    samples-rows_of t s (omega (arith, t_n, s_n)) ∙ take_all (length t) s (omega (arith, t_n, s_n)) in
    let t_back = legs_back streams x 0 (omega (arith, wide)) bytes in
    let s_back = samples_back streams x (samples_begin streams) (omega (arith, wide)) bytes in
    let p_back = points_back streams x (points_begin streams) (omega (arith, wide)) bytes in
    let left : length rest ≡ 16 = omega (arith, length-drop (distance_begins streams) x, wide) in
    let d_back : big_bytes 16 d ≡ rest = bytes_back_as rest 16 d left refl (bytes_drop (distance_begins streams) x bytes) in
    let begin : 0 + 2 * (streams * streams) ≡ samples_begin streams = omega arith in (
      record {
        number_is = refl;
        place = refl;
        grid = ap (λ n. full_grid m n) (sym n_is);
        some = omega (arith, n_is, some);
        few = omega (arith, n_is, few);
        legs_are = subst AreLegs (sym t_is) t_back.0;
        samples_are = subst AreSamples (sym s_is) s_back.0;
        points = length-points_at streams x (points_begin streams) ∙ sym n_is;
        points_are = p_back.0;
        distance = big_from-lt 0 16 rest (bytes_drop (distance_begins streams) x bytes);
        marks = omega arith;
      },
      n_is,
      ap (λ (z : List Leg). legs_octets z ++ (flat_map sample_octets (samples rows) ++ (flat_map point_octets p ++ big_bytes 16 d))) t_is
          ∙ (ap (λ (z : List Sample). legs_octets t ++ (flat_map sample_octets z ++ (flat_map point_octets p ++ big_bytes 16 d))) s_is
          ∙ (ap (λ (z : List ℕ). legs_octets t ++ (flat_map sample_octets s ++ (flat_map point_octets p ++ z))) d_back
          ∙ (ap (λ (z : List ℕ). legs_octets t ++ (flat_map sample_octets s ++ z)) p_back.1
          ∙ (ap (λ (z : List ℕ). legs_octets t ++ z) s_back.1
          ∙ (ap (λ k. legs_octets t ++ drop k x) (sym begin) ∙ t_back.1))))),
    )
