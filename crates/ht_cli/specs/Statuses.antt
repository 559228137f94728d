-- The number of a status.
use Rattle.std.specs.Prelude.{ℕ}
use Rattle.ht_cli.specs.declared.status.Status.{Status}
use Rattle.ht_cli.specs.declared.status.Status.TheVariants.{Done, Refused, Usage, ReadFault, WriteFault, NoMemory}

abbrev pub number_of : Status → ℕ
number_of Done = 0
number_of Refused = 1
number_of Usage = 2
number_of ReadFault = 3
number_of WriteFault = 4
number_of NoMemory = 5
