-- Records that are put piece by piece.
use Rattle.std.proofs.Common.{◌≡◌, ℕ, suc, ◌+◌, ◌-◌, ◌<◌, ◌≤◌, List, [], ◌∷◌, ◌++◌, length, drop, map, flat_map, slice_index_or, refl, sym, ap, ◌∙◌}
use Rattle.std.proofs.Common.{append_assoc, arith, Bool}
use Rattle.std.proofs.lemmas.List.{append-nil, drop_all, length-drop, length-map}
use Rattle.std.proofs.Math.Seq.{drop-cons}
use Rattle.byteorder.specs.Endian.{big_bytes}
use Rattle.ht_metric.specs.declared.sample.Sample.{Sample}
use Rattle.ht_metric.specs.Arrays.{legs, samples}
use Rattle.ht_metric.specs.Rows.{Row, no_row}
use Rattle.ht_capture.specs.Files.{leg_octets, legs_octets, sample_octets}
use Rattle.ht_cert.specs.declared.record.Record.{Record}
use Rattle.ht_cert.specs.Records.{code_of}
use Rattle.ht_cert.specs.Files.{claim_octets, front_octets, leg_of, mark_octet, point_octets, record_octets}

-- the rows from one on
pub rows_next : (rows : List Row) (k : ℕ) → k < length rows
    → legs_octets (legs (drop k rows)) ≡ leg_octets (length rows - k - 1) (leg_of (slice_index_or rows k no_row)) ++ legs_octets (legs (drop (k + 1) rows))
rows_next rows k lt =
    let one : suc k ≡ k + 1 = omega arith in
    let rest = drop (k + 1) rows in
    let all : drop k rows ≡ slice_index_or rows k no_row ∷ rest = drop-cons rows k no_row lt ∙ ap (λ n. slice_index_or rows k no_row ∷ drop n rows) one in
    let size : length (legs rest) ≡ length rows - k - 1 = omega (arith, length-map rest leg_of, length-drop (k + 1) rows) in
    ap (λ (r : List Row). legs_octets (legs r)) all ∙ ap (λ n. leg_octets n (leg_of (slice_index_or rows k no_row)) ++ legs_octets (legs rest)) size

pub samples_next : (rows : List Row) (k : ℕ) → k < length rows
    → flat_map sample_octets (samples (drop k rows)) ≡ sample_octets (slice_index_or rows k no_row).sample
    ++ flat_map sample_octets (samples (drop (k + 1) rows))
samples_next rows k lt =
    let one : suc k ≡ k + 1 = omega arith in
    ap (λ (r : List Row). flat_map sample_octets (samples r))
    (drop-cons rows k no_row lt ∙ ap (λ n. slice_index_or rows k no_row ∷ drop n rows) one)

-- nothing is left
pub rows_done : (chunk old : List ℕ) (rows : List Row) (k : ℕ) → length rows ≤ k
    → chunk ++ legs_octets (legs (drop k rows)) ≡ old ++ legs_octets (legs rows) → chunk ≡ old ++ legs_octets (legs rows)
rows_done chunk old rows k over eq = sym (append-nil chunk) ∙ (ap (λ (r : List Row). chunk ++ legs_octets (legs r)) (sym (drop_all k rows over)) ∙ eq)

pub samples_done : (chunk old : List ℕ) (rows : List Row) (k : ℕ) → length rows ≤ k
    → chunk ++ flat_map sample_octets (samples (drop k rows)) ≡ old ++ flat_map sample_octets (samples rows)
    → chunk ≡ old ++ flat_map sample_octets (samples rows)
samples_done chunk old rows k over eq =
    sym (append-nil chunk) ∙ (ap (λ (r : List Row). chunk ++ flat_map sample_octets (samples r)) (sym (drop_all k rows over)) ∙ eq)

-- what stands in front of the marks
pub front_made : (r : Record) (a t s p d c : List ℕ) → a ≡ code_of r.modulation ∷ length r.job.system ∷ []
    → t ≡ a ++ legs_octets (legs r.job.system) → s ≡ t ++ flat_map sample_octets (samples r.job.system)
    → p ≡ s ++ flat_map point_octets r.certificate.vector → d ≡ p ++ big_bytes 16 r.certificate.distance
    → c ≡ d ++ big_bytes 4 (length r.certificate.marks) → c ≡ front_octets r
unfolding front_octets claim_octets
front_made r a t s p d c ea et es ep ed ec =
    let head : List ℕ = code_of r.modulation ∷ length r.job.system ∷ [] in
    let x1 = legs_octets (legs r.job.system) in
    let x2 = flat_map sample_octets (samples r.job.system) in
    let x3 = flat_map point_octets r.certificate.vector in
    let x4 = big_bytes 16 r.certificate.distance in
    let x5 = big_bytes 4 (length r.certificate.marks) in
    let e3 : p ≡ head ++ (x1 ++ (x2 ++ x3)) =
    ep ∙ (ap (λ z. z ++ x3) (es ∙ ap (λ z. z ++ x2) (et ∙ ap (λ z. z ++ x1) ea))
    ∙ (append_assoc (head ++ x1) x2 x3 ∙ append_assoc head x1 (x2 ++ x3))) in
    let e4 : d ≡ head ++ (x1 ++ (x2 ++ (x3 ++ x4))) =
    ed ∙ (ap (λ z. z ++ x4) e3 ∙ (append_assoc head (x1 ++ (x2 ++ x3)) x4
    ∙ ap (λ z. head ++ z) (append_assoc x1 (x2 ++ x3) x4 ∙ ap (λ z. x1 ++ z) (append_assoc x2 x3 x4)))) in
    ec ∙ (ap (λ z. z ++ x5) e4 ∙ append_assoc head (x1 ++ (x2 ++ (x3 ++ x4))) x5)

-- a sample more
pub sample_put : (chunk next old : List ℕ) (rows : List Row) (s : Sample) (k : ℕ) → k < length rows → s ≡ (slice_index_or rows k no_row).sample
    → next ≡ chunk ++ sample_octets s → chunk ++ flat_map sample_octets (samples (drop k rows)) ≡ old ++ flat_map sample_octets (samples rows)
    → next ++ flat_map sample_octets (samples (drop (k + 1) rows)) ≡ old ++ flat_map sample_octets (samples rows)
sample_put chunk next old rows s k lt is put eq =
    let rest = flat_map sample_octets (samples (drop (k + 1) rows)) in
    let here : flat_map sample_octets (samples (drop k rows)) ≡ sample_octets s ++ rest =
    samples_next rows k lt ∙ ap (λ (x : Sample). sample_octets x ++ rest) (sym is) in
    ap (λ z. z ++ rest) put ∙ (append_assoc chunk (sample_octets s) rest ∙ (ap (λ z. chunk ++ z) (sym here) ∙ eq))

-- each mark is one octet
each_mark : (marks : List Bool) → flat_map (λ (m : Bool). mark_octet m ∷ []) marks ≡ map mark_octet marks
each_mark [] = refl
each_mark (m ∷ marks) = ap (λ (z : List ℕ). mark_octet m ∷ z) (each_mark marks)

-- what is put of a record
pub record_put : (r : Record) (front : List ℕ) (marks : List Bool) → front ≡ front_octets r → marks ≡ r.certificate.marks
    → front ++ flat_map (λ (m : Bool). mark_octet m ∷ []) marks ≡ record_octets r
unfolding record_octets
record_put r front marks is same =
    ap (λ (z : List ℕ). front ++ z) (each_mark marks)
    ∙ (ap (λ (z : List ℕ). z ++ map mark_octet marks) is ∙ ap (λ (m : List Bool). front_octets r ++ map mark_octet m) same)
