-- Numbers in octets, big-endian, from a place on; signed ones are two's complement.
use Rattle.std.specs.Prelude.{ℕ, ◌+◌, List, drop}
use Rattle.std.specs.Int.{cast_signed, w16, w32}
use Rattle.byteorder.specs.Endian.{big_number}
use Rattle.ht_metric.specs.declared.tap.Tap.{Tap}
use Rattle.ht_metric.specs.declared.sample.Sample.{Sample}

-- an unsigned number of two octets
abbrev pub unsigned_at : List ℕ → ℕ → ℕ
unsigned_at octets at = big_number 2 (drop at octets)

-- an entry of a triangle: the real part and the imaginary part, of two octets each
unfoldable pub tap_at : List ℕ → ℕ → Tap
tap_at octets at = record {
  re = cast_signed w16 (big_number 2 (drop at octets));
  im = cast_signed w16 (big_number 2 (drop (at + 2) octets));
}

-- a sample: the real part and the imaginary part, of four octets each
unfoldable pub sample_at : List ℕ → ℕ → Sample
sample_at octets at = record {
  re = cast_signed w32 (big_number 4 (drop at octets));
  im = cast_signed w32 (big_number 4 (drop (at + 4) octets));
}
