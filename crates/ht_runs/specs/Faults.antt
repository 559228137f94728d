-- The fault of a reading as the fault of a run.
use Rattle.ht_io.specs.declared.faults.InFault.{InFault}
use Rattle.ht_io.specs.declared.faults.InFault.TheVariants.{Format as InFormat, Read as InRead, NoMemory as InMemory}
use Rattle.ht_runs.specs.declared.faults.RunFault.{RunFault}
use Rattle.ht_runs.specs.declared.faults.RunFault.TheVariants.{Format, Read, NoMemory}

abbrev pub fault_of_reading : InFault → RunFault
fault_of_reading (InFormat fault) = Format fault
fault_of_reading InRead = Read
fault_of_reading InMemory = NoMemory
