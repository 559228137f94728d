-- Which subcarriers of a frame are erased.
use Rattle.std.specs.Prelude.{ℕ, zero, suc, ◌+◌, List, drop, nat_eq, if◌then◌else◌}
use Rattle.ht_fields.specs.Tests.{octet_of}

-- the octets behind a number of subcarriers of version 2: each has a flag and, where the flag is 0, a triangle of this width
abbrev pub octets_behind : ℕ → ℕ → List ℕ → List ℕ
octets_behind width zero octets = octets
octets_behind width (suc count) octets = octets_behind width count (drop (if nat_eq (octet_of octets) 0 then width + 1 else 1) octets)

-- the flag of a subcarrier, where the first octet is that of subcarrier 0
abbrev pub flag_at : ℕ → ℕ → List ℕ → ℕ
flag_at width carrier octets = octet_of (octets_behind width carrier octets)
