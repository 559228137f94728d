-- How a run ends once its call has answered.
use Rattle.std.specs.Prelude.{◌≡◌, ℕ, Result, Ok, Err}
use Rattle.ht_io.specs.Devices.{Device}
use Rattle.ht_runs.specs.declared.faults.RunFault.{RunFault}
use Rattle.ht_runs.specs.declared.faults.RunFault.TheVariants.{Format, Read, Write, NoMemory}
use Rattle.ht_receive.specs.Endings.{PutsLast}
use Rattle.ht_cli.specs.declared.status.Status.{Status}
use Rattle.ht_cli.specs.declared.status.Status.TheVariants.{Done, Refused, ReadFault, WriteFault, NoMemory as OutOfMemory}

-- the status of a run that has put its last line, and then answers so
abbrev pub status_of : Result ℕ RunFault → Status
status_of (Ok frames) = Done
status_of (Err (Format fault)) = Refused
status_of (Err Read) = ReadFault
status_of (Err Write) = WriteFault
status_of (Err NoMemory) = OutOfMemory

-- the line of the input's first fault was put as its last one; where the call answered otherwise there is nothing more to put
abbrev pub Settles : {A : Type 0} → Result A RunFault → Device ℕ → Device ℕ → Status → Type 0
Settles (Ok answer) sink sink' status = (status ≡ Done) × (sink' ≡ sink)
Settles (Err fault) sink sink' status = (last : Result ℕ RunFault) × (status ≡ status_of last) × PutsLast (Err fault) sink sink' last
