-- The names of the kinds of fault.
use Rattle.std.specs.Prelude.{ℕ, List, codes}
use Rattle.ht_io.specs.declared.faults.Kind.{Kind}
use Rattle.ht_io.specs.declared.faults.Kind.TheVariants.{BadMagic, BadVersion, BadBandwidth, BadMcs, BadLength, Truncated, Trailing}
use Rattle.ht_io.specs.declared.faults.Kind.TheVariants.{BadSeed, BadPoint, BadPilot, BadErased, BadModulation, BadStreams, BadMark, BadCount}

-- the name of a kind, letter for letter
abbrev pub name_of : Kind → List ℕ
name_of BadMagic = codes "BadMagic"
name_of BadVersion = codes "BadVersion"
name_of BadBandwidth = codes "BadBandwidth"
name_of BadMcs = codes "BadMcs"
name_of BadLength = codes "BadLength"
name_of Truncated = codes "Truncated"
name_of Trailing = codes "Trailing"
name_of BadSeed = codes "BadSeed"
name_of BadPoint = codes "BadPoint"
name_of BadPilot = codes "BadPilot"
name_of BadErased = codes "BadErased"
name_of BadModulation = codes "BadModulation"
name_of BadStreams = codes "BadStreams"
name_of BadMark = codes "BadMark"
name_of BadCount = codes "BadCount"

-- the number of a kind
abbrev pub number_of : Kind → ℕ
number_of BadMagic = 1
number_of BadVersion = 2
number_of BadBandwidth = 3
number_of BadMcs = 4
number_of BadLength = 5
number_of Truncated = 6
number_of Trailing = 7
number_of BadSeed = 8
number_of BadPoint = 9
number_of BadPilot = 10
number_of BadErased = 11
number_of BadModulation = 12
number_of BadStreams = 13
number_of BadMark = 14
number_of BadCount = 15
