-- What the frames of files have behind their heads: the seed, and the octets of the PSDU.
use Rattle.std.specs.Prelude.{◌≡◌, ◌⊎◌, ℕ, List, nat_eq, nat_lt, Bool, ◌||◌}
use Rattle.ht_io.specs.Devices.{Device}
use Rattle.ht_io.specs.declared.faults.InFault.{InFault}
use Rattle.ht_io.specs.declared.faults.InFault.TheVariants.{NoMemory}
use Rattle.ht_fields.specs.Lacking.{LacksField}
use Rattle.ht_fields.specs.Tests.{octet_of}

-- the octet is no seed
abbrev pub is_no_seed : List ℕ → Bool
is_no_seed octets = nat_eq (octet_of octets) 0 || nat_lt 127 (octet_of octets)

-- why this number of octets, which begin at the offset, was not read: there was no memory for them, or they did not come whole
abbrev pub LacksOctets : ℕ → ℕ → Device ℕ → Device ℕ → InFault → Type 0
LacksOctets count at before after fault = (fault ≡ NoMemory) ⊎ LacksField count at before after fault
