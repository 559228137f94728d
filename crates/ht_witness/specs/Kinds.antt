-- The kinds of fault of a certificate.
use Rattle.std.specs.Prelude.{ℕ, List, codes}
use Rattle.ht_witness.specs.declared.check_fault.CheckFault.{CheckFault}
use Rattle.ht_witness.specs.declared.check_fault.CheckFault.TheVariants.{OffGrid, WrongDistance, Early, Better, Short, Long}

-- the name of a kind, letter for letter
abbrev pub name_of : CheckFault → List ℕ
name_of (OffGrid n) = codes "OffGrid"
name_of (WrongDistance n) = codes "WrongDistance"
name_of (Early n) = codes "Early"
name_of (Better n) = codes "Better"
name_of (Short n) = codes "Short"
name_of (Long n) = codes "Long"

-- the number of a kind
abbrev pub number_of : CheckFault → ℕ
number_of (OffGrid n) = 1
number_of (WrongDistance n) = 2
number_of (Early n) = 3
number_of (Better n) = 4
number_of (Short n) = 5
number_of (Long n) = 6

-- the number that a fault carries
abbrev pub carried_by : CheckFault → ℕ
carried_by (OffGrid n) = n
carried_by (WrongDistance n) = n
carried_by (Early n) = n
carried_by (Better n) = n
carried_by (Short n) = n
carried_by (Long n) = n
