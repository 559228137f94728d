-- What the octets of a record that was written are read as.
use Rattle.std.proofs.Common.{◌≡◌, ℕ, ℤ, ◌+◌, ◌*◌, ◌≤◌, List, [], ◌∷◌, ◌++◌, length, drop, flat_map, slice_index, get_or}
use Rattle.std.proofs.Common.{refl, sym, ap, ◌∙◌, append_assoc, length-append, arith, w8, FitsSigned}
use Rattle.std.proofs.lemmas.Int.{to_z-of_z}
use Rattle.std.proofs.lemmas.List.{append-nil, get_or-drop, length-map}
use Rattle.std.specs.Int.{cast_signed, cast_unsigned}
use Rattle.byteorder.specs.Endian.{big_number, big_bytes}
use Rattle.byteorder.specs.Numbers.{big_number-reads_back, length-bytes_high_first}
use Rattle.ht_rate.specs.declared.kinds.Modulation.{Modulation}
use Rattle.ht_pam.specs.declared.axes.Axes.{Axes}
use Rattle.ht_pam.specs.declared.point.Point.{Point}
use Rattle.ht_metric.specs.declared.place.Place.{Place}
use Rattle.ht_metric.specs.Rows.{Leg, Row, rows_of}
use Rattle.ht_metric.specs.Arrays.{legs, samples}
use Rattle.ht_capture.specs.Files.{legs_octets, sample_octets}
use Rattle.ht_capture.specs.Systems.{triangle_of, samples_at}
use Rattle.ht_capture.proofs.Decoded.{behind_front, behind_more, legs_read, length-samples, rows_read}
use Rattle.ht_capture.proofs.Written.{length-legs}
use Rattle.ht_cert.specs.declared.record.Record.{Record}
use Rattle.ht_cert.specs.Records.{claim_width, claimed, distance_begins, full_grid, no_place, point_at, points_at, points_begin, samples_begin}
use Rattle.ht_cert.specs.Files.{ArePoints, IsRecord, claim_octets, point_octets}

-- rows from their parts
pub rows_again : (rows : List Row) → rows_of (legs rows) (samples rows) ≡ rows
rows_again [] = refl
rows_again (row ∷ rows) = ap (λ (rest : List Row). row ∷ rest) (rows_again rows)

-- an octet at a place
octet_at : (octets rest : List ℕ) (at a : ℕ) → drop at octets ≡ a ∷ rest → slice_index octets at ≡ a
octet_at octets rest at a is =
    let here : at ≡ at + 0 = omega arith in
    ap (λ n. get_or octets n 0) here ∙ (sym (get_or-drop at octets 0 0) ∙ ap (λ (o : List ℕ). get_or o 0 0) is)

-- points that were written
point_read : (octets rest : List ℕ) (at : ℕ) (p : Point) → drop at octets ≡ point_octets p ++ rest → FitsSigned w8 p.i → FitsSigned w8 p.q
    → point_at octets at ≡ p
unfolding point_at
point_read octets rest at p is f g =
    let next : drop (at + 1) octets ≡ cast_unsigned w8 p.q ∷ rest = behind_more octets (cast_unsigned w8 p.i ∷ []) (cast_unsigned w8 p.q ∷ rest) at 1 is refl in
    let i : cast_signed w8 (slice_index octets at) ≡ p.i = ap (cast_signed w8) (octet_at octets (cast_unsigned w8 p.q ∷ rest) at _ is) ∙ to_z-of_z w8 p.i f in
    let q : cast_signed w8 (slice_index octets (at + 1)) ≡ p.q = ap (cast_signed w8) (octet_at octets rest (at + 1) _ next) ∙ to_z-of_z w8 p.q g in
    ap (λ (a : ℤ). let r : Point = record { i = a; q = cast_signed w8 (slice_index octets (at + 1)) } in r) i
    ∙ ap (λ (b : ℤ). let r : Point = record { i = p.i; q = b } in r) q

points_read : (points : List Point) (octets rest : List ℕ) (at : ℕ) → drop at octets ≡ flat_map point_octets points ++ rest → ArePoints points
    → points_at (length points) octets at ≡ points
points_read [] octets rest at is fit = refl
points_read (p ∷ points) octets rest at is fit =
    let first : drop at octets ≡ point_octets p ++ (flat_map point_octets points ++ rest) = is
    ∙ append_assoc (point_octets p) (flat_map point_octets points) rest in
    let next : drop (at + 2) octets ≡ flat_map point_octets points ++ rest =
    behind_more octets (point_octets p) (flat_map point_octets points ++ rest) at 2 first refl in
    ap (λ (x : Point). x ∷ points_at (length points) octets (at + 2)) (point_read octets _ at p first fit.0 fit.1)
    ∙ ap (λ (xs : List Point). p ∷ xs) (points_read points octets rest (at + 2) next fit.2)

pub length-points : (points : List Point) → length (flat_map point_octets points) ≡ 2 * length points
length-points [] = refl
length-points (p ∷ points) = omega (arith, length-points points)

-- a record of these parts, without marks
abbrev pub made : Modulation → ℕ → Place → List Axes → List Row → List Point → ℕ → Record
made m number place grid system vector distance = record {
  modulation = m;
  job = record { number = number; place = place; grid = grid; system = system };
  certificate = record { vector = vector; distance = distance; marks = [] };
}

made_same : (m : Modulation) (number : ℕ) (place : Place) (grid : List Axes) (s t : List Row) (v w : List Point) (d e : ℕ) → s ≡ t → v ≡ w → d ≡ e
    → made m number place grid s v d ≡ made m number place grid t w e
made_same m number place grid s t v w d e p q r =
    ap (λ (x : List Row). made m number place grid x v d) p
    ∙ (ap (λ (x : List Point). made m number place grid t x d) q ∙ ap (λ x. made m number place grid t w x) r)

-- the record without its marks
abbrev pub bare : Record → Record
bare r = made r.modulation r.job.number r.job.place r.job.grid r.job.system r.certificate.vector r.certificate.distance

-- how many octets the numbers of a record have
pub claim_size : (number : ℕ) (r : Record) → IsRecord number r → length (claim_octets r) ≡ claim_width (length r.job.system)
unfolding claim_octets
claim_size number r fits =
    let rows = r.job.system in
    let a = legs_octets (legs rows) in
    let b = flat_map sample_octets (samples rows) in
    let c = flat_map point_octets r.certificate.vector in
    let d = big_bytes 16 r.certificate.distance in
    let n = length rows in
    let legs_n : length (legs rows) ≡ n = length-map rows _ in
    let samples_n : length (samples rows) ≡ n = length-map rows _ in
    let few : length (legs rows) ≤ 4 = omega (arith, legs_n, fits.few) in
    let square : length a ≡ 2 * (n * n) = length-legs (legs rows) few ∙ ap (λ k. 2 * (k * k)) legs_n in
    omega (
      arith,
      square,
      length-samples (samples rows),
      samples_n,
      length-points r.certificate.vector,
      fits.points,
      length-bytes_high_first 16 r.certificate.distance,
      length-append a (b ++ (c ++ d)),
      length-append b (c ++ d),
      length-append c d,
    )

-- they are read as the record without its marks
pub claim_back : (number : ℕ) (r : Record) → IsRecord number r → claimed number r.modulation (length r.job.system) (claim_octets r) ≡ bare r
unfolding claimed claim_octets triangle_of
claim_back number r fits =
    let rows = r.job.system in
    let m = r.modulation in
    let a = legs_octets (legs rows) in
    let b = flat_map sample_octets (samples rows) in
    let c = flat_map point_octets r.certificate.vector in
    let d = big_bytes 16 r.certificate.distance in
    let n = length rows in
    let x = a ++ (b ++ (c ++ d)) in
    let legs_n : length (legs rows) ≡ n = length-map rows _ in
    let samples_n : length (samples rows) ≡ n = length-map rows _ in
    let few : length (legs rows) ≤ 4 = omega (arith, legs_n, fits.few) in
    let square : length a ≡ 2 * (n * n) = length-legs (legs rows) few ∙ ap (λ k. 2 * (k * k)) legs_n in
    let at_b : drop (samples_begin n) x ≡ b ++ (c ++ d) = behind_front a (b ++ (c ++ d)) (samples_begin n) square in
    let size_b : length b ≡ 8 * n = length-samples (samples rows) ∙ ap (λ k. 8 * k) samples_n in
    let at_c : drop (points_begin n) x ≡ c ++ d = behind_more x b (c ++ d) (samples_begin n) (8 * n) at_b size_b in
    let size_c : length c ≡ 2 * n = length-points r.certificate.vector ∙ ap (λ k. 2 * k) fits.points in
    let at_d : drop (distance_begins n) x ≡ d = behind_more x c d (points_begin n) (2 * n) at_c size_c in
    let triangle : triangle_of n x ≡ legs rows =
    ap (λ k. triangle_of k x) (sym legs_n) ∙ legs_read (legs rows) x (b ++ (c ++ d)) 0 refl fits.legs_are in
    let system : rows_of (triangle_of n x) (samples_at n x (samples_begin n)) ≡ rows =
    ap (λ (t : List Leg). rows_of t (samples_at n x (samples_begin n))) triangle
    ∙ (ap (λ k. rows_of (legs rows) (samples_at k x (samples_begin n))) (sym legs_n)
    ∙ (rows_read (legs rows) (samples rows) x (c ++ d) (samples_begin n) (omega (arith, legs_n, samples_n)) at_b fits.samples_are ∙ rows_again rows)) in
    let vector : points_at n x (points_begin n) ≡ r.certificate.vector =
    ap (λ k. points_at k x (points_begin n)) (sym fits.points) ∙ points_read r.certificate.vector x d (points_begin n) at_c fits.points_are in
    let distance : big_number 16 (drop (distance_begins n) x) ≡ r.certificate.distance =
    ap (big_number 16) (at_d ∙ sym (append-nil d)) ∙ big_number-reads_back 16 r.certificate.distance [] fits.distance in
    made_same m number no_place (full_grid m n) _ rows _ r.certificate.vector _ r.certificate.distance system vector distance
    ∙ (ap (λ k. made m k no_place (full_grid m n) rows r.certificate.vector r.certificate.distance) (sym fits.number_is)
    ∙ (ap (λ (p : Place). made m r.job.number p (full_grid m n) rows r.certificate.vector r.certificate.distance) (sym fits.place)
    ∙ ap (λ (g : List Axes). made m r.job.number r.job.place g rows r.certificate.vector r.certificate.distance) (sym fits.grid)))
