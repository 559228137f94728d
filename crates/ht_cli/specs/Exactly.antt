-- What a run comes to where no device failed, of octets that are all known.
use Rattle.std.specs.Prelude.{◌≡◌, ◌⊎◌, ℕ, List, Some}
use Rattle.ht_io.specs.Devices.{Device, Grows}
use Rattle.ht_io.specs.Writing.{Fitting, known_of}
use Rattle.ht_cli.specs.declared.status.Status.{Status}
use Rattle.ht_cli.specs.declared.status.Status.TheVariants.{Done, Refused}
use Rattle.ht_cli.specs.Commands.{Command, IsWritten, Reads, Converts, Makes, MakesText}

-- the run is done where the octets are a whole input, and refused where they aren't
abbrev pub Judges : (List ℕ → Type 0) → List ℕ → Status → Type 0
Judges IsInput all status = ((status ≡ Done) × IsInput all) ⊎ ((status ≡ Refused) × (IsInput all → ⊥))

-- the reference text of all octets was put, and no other: of a command that reads nothing, a text that it makes
abbrev pub WritesExactly : Command → List ℕ → Device ℕ → Device ℕ → Status → Type 0
WritesExactly (Reads f) all sink sink' status = Judges f.IsInput all status × Grows sink sink' (f.text all)
WritesExactly (Converts f) all sink sink' status =
    Judges f.IsInput all status × ((text : List ℕ) × IsWritten f all text × Grows sink sink' text)
WritesExactly (Makes IsText) all sink sink' status = (status ≡ Done) × MakesText IsText sink sink'

-- a source in memory that never fails, of these octets, as a device
abbrev pub sure_source : List ℕ → Device ℕ
sure_source octets = record { known = Some octets; faults = 0; borrow = 0 }

-- a sink in memory that never fails, as a device: its octets are known while all fitted
abbrev pub sure_sink : Fitting → Device ℕ
sure_sink held = record { known = known_of held; faults = 0; borrow = 0 }
