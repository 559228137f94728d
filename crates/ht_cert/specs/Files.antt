-- The octets of a file of certificates. All numbers are big-endian, signed ones in two's complement.
use Rattle.std.specs.Prelude.{◌≡◌, ℕ, ◌+◌, ◌≤◌, ◌<◌, ◌^◌, List, [], ◌∷◌, ◌++◌, length, map, flat_map, Bool, true, false, FitsSigned}
use Rattle.std.specs.Int.{cast_unsigned, w8}
use Rattle.byteorder.specs.Endian.{big_bytes}
use Rattle.ht_pam.specs.declared.point.Point.{Point}
use Rattle.ht_metric.specs.Rows.{Leg, Row}
use Rattle.ht_metric.specs.Arrays.{legs, samples}
use Rattle.ht_capture.specs.Files.{legs_octets, sample_octets}
use Rattle.ht_capture.specs.Contents.{AreLegs, AreSamples}
use Rattle.ht_heads.specs.Starts.{started_octets}
use Rattle.ht_cert.specs.declared.record.Record.{Record}
use Rattle.ht_cert.specs.Records.{code_of, full_grid, no_place}
use Rattle.ht_cert.specs.Formats.{certificates_magic}

-- a row of the triangle of a system
abbrev pub leg_of : Row → Leg
leg_of row = record { diagonal = row.diagonal; right = row.right }

-- the two octets of a point, I and Q
abbrev pub point_octets : Point → List ℕ
point_octets p = cast_unsigned w8 p.i ∷ cast_unsigned w8 p.q ∷ []

-- the octet of a mark: 1 where the level is open, 0 where it is cut
abbrev pub mark_octet : Bool → ℕ
mark_octet true = 1
mark_octet false = 0

-- the triangle and the samples of the job, and the claimed points and distance
unfoldable pub claim_octets : Record → List ℕ
claim_octets r =
    legs_octets (legs r.job.system) ++ (flat_map sample_octets (samples r.job.system)
    ++ (flat_map point_octets r.certificate.vector ++ big_bytes 16 r.certificate.distance))

-- what stands in front of the marks: the modulation, the number of streams, these numbers, and the number of marks
unfoldable pub front_octets : Record → List ℕ
front_octets r = code_of r.modulation ∷ length r.job.system ∷ (claim_octets r ++ big_bytes 4 (length r.certificate.marks))

-- the octets of a record
unfoldable pub record_octets : Record → List ℕ
record_octets r = front_octets r ++ map mark_octet r.certificate.marks

-- what stands in front of a number of records
abbrev pub records_start : ℕ → List ℕ
records_start count = started_octets certificates_magic 8 count

-- the file of records
unfoldable pub certificates_file_of : List Record → List ℕ
certificates_file_of records = records_start (length records) ++ flat_map record_octets records

-- each part of a point is a number of eight bits
abbrev pub ArePoints : List Point → Type 0
ArePoints [] = Unit {0}
ArePoints (p ∷ points) = FitsSigned w8 p.i × FitsSigned w8 p.q × ArePoints points

-- A record of this number: its job has the full constellation, a row for each of one to four streams, and no place; a
-- point is claimed for each stream; there are at most 2^25 marks; and the numbers are those of their types.
pub record IsRecord (number : ℕ) (r : Record) : Type 0 where
  pub number_is : r.job.number ≡ number
  pub place : r.job.place ≡ no_place
  pub grid : r.job.grid ≡ full_grid r.modulation (length r.job.system)
  pub some : 1 ≤ length r.job.system
  pub few : length r.job.system ≤ 4
  pub legs_are : AreLegs (legs r.job.system)
  pub samples_are : AreSamples (samples r.job.system)
  pub points : length r.certificate.vector ≡ length r.job.system
  pub points_are : ArePoints r.certificate.vector
  pub distance : r.certificate.distance < 2 ^ 128
  pub marks : length r.certificate.marks ≤ 33554432

-- records that are numbered from a number on
abbrev pub AreNumbered : ℕ → List Record → Type 0
AreNumbered number [] = Unit {0}
AreNumbered number (r ∷ rs) = IsRecord number r × AreNumbered (number + 1) rs

-- records of which a file can be written: at most 2^37, numbered from 0
pub record AreRecords (records : List Record) : Type 0 where
  pub few : length records ≤ 137438953472
  pub numbered : AreNumbered 0 records
