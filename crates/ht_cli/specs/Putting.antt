-- What a line that is put comes to.
use Rattle.std.specs.Prelude.{ℕ, List}
use Rattle.ht_io.specs.Devices.{Device}
use Rattle.ht_receive.specs.Endings.{PutsText}
use Rattle.ht_cli.specs.declared.status.Status.{Status}
use Rattle.ht_cli.specs.declared.status.Status.TheVariants.{WriteFault, NoMemory}

-- the line was put, and the run ends as it then must; or a part of it was put, by a sink that failed; or nothing, without
-- memory for it
abbrev pub PutsLine : List ℕ → Status → Device ℕ → Device ℕ → Status → Type 0
PutsLine line then sink sink' status = PutsText then WriteFault NoMemory line sink sink' status
