-- What a record of a file of certificates has: the modulation, a job and its certificate.
use Rattle.std.specs.Prelude.{ℕ, zero, suc, ◌+◌, ◌*◌, List, [], ◌∷◌, ◌++◌, drop, replicate, slice_index, slice_index_or, Bool}
use Rattle.std.specs.Int.{cast_signed, w8}
use Rattle.byteorder.specs.Endian.{big_number}
use Rattle.ht_rate.specs.declared.kinds.Modulation.{Modulation}
use Rattle.ht_rate.specs.declared.kinds.Modulation.TheVariants.{Bpsk, Qpsk, Qam16, Qam64}
use Rattle.ht_pam.specs.declared.axes.Axes.{Axes}
use Rattle.ht_pam.specs.declared.point.Point.{Point}
use Rattle.ht_map.specs.Constellation.{axes_of}
use Rattle.ht_metric.specs.declared.place.Place.{Place}
use Rattle.ht_metric.specs.Rows.{rows_of}
use Rattle.ht_capture.specs.Systems.{triangle_of, triangle_octets, samples_at}
use Rattle.ht_cert.specs.declared.record.Record.{Record}

-- the modulations in the order of their codes, from 0 on
abbrev pub modulation_at : ℕ → Modulation
modulation_at code = slice_index_or (Bpsk ∷ Qpsk ∷ Qam16 ∷ Qam64 ∷ []) code Qam64

abbrev pub code_of : Modulation → ℕ
code_of Bpsk = 0
code_of Qpsk = 1
code_of Qam16 = 2
code_of Qam64 = 3

-- the full constellation on each of a number of streams
abbrev pub full_grid : Modulation → ℕ → List Axes
full_grid modulation streams = replicate streams (axes_of modulation)

-- a record says nothing of where in a capture its job comes from
abbrev pub no_place : Place
no_place = record { frame = 0; symbol = 0; carrier = 0 }

-- a claimed point: I and Q of one octet each, in two's complement
unfoldable pub point_at : List ℕ → ℕ → Point
point_at octets at = record {
  i = cast_signed w8 (slice_index octets at);
  q = cast_signed w8 (slice_index octets (at + 1));
}

-- a number of points, one after another
abbrev pub points_at : ℕ → List ℕ → ℕ → List Point
points_at zero octets at = []
points_at (suc n) octets at = point_at octets at ∷ points_at n octets (at + 2)

-- the triangle, the samples, the points and the distance stand one behind another: where the others begin, and the
-- octets of all four
abbrev pub samples_begin : ℕ → ℕ
samples_begin streams = triangle_octets streams

abbrev pub points_begin : ℕ → ℕ
points_begin streams = samples_begin streams + 8 * streams

abbrev pub distance_begins : ℕ → ℕ
distance_begins streams = points_begin streams + 2 * streams

abbrev pub claim_width : ℕ → ℕ
claim_width streams = distance_begins streams + 16

-- the record of these octets, without marks: a job of this number with the full constellation, and what is claimed for it
unfoldable pub claimed : ℕ → Modulation → ℕ → List ℕ → Record
claimed number modulation streams octets = record {
  modulation = modulation;
  job = record {
    number = number;
    place = no_place;
    grid = full_grid modulation streams;
    system = rows_of (triangle_of streams octets) (samples_at streams octets (samples_begin streams));
  };
  certificate = record {
    vector = points_at streams octets (points_begin streams);
    distance = big_number 16 (drop (distance_begins streams) octets);
    marks = [];
  };
}

-- the record with more marks
unfoldable pub with_marks : Record → List Bool → Record
with_marks r more = record {
  modulation = r.modulation;
  job = r.job;
  certificate = record {
    vector = r.certificate.vector;
    distance = r.certificate.distance;
    marks = r.certificate.marks ++ more;
  };
}
