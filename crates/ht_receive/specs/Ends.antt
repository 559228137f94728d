-- What receivers of frames promise that put their lines and the end line into a sink.
use Rattle.std.specs.Prelude.{◌≡◌, ◌≢◌, ℕ, List, Result, Err}
use Rattle.ht_io.specs.Devices.{Device, IsLater}
use Rattle.ht_runs.specs.Filters.{Filter}
use Rattle.ht_runs.specs.Streamed.{Streamed}
use Rattle.ht_runs.specs.declared.faults.RunFault.{RunFault}
use Rattle.ht_runs.specs.declared.faults.RunFault.TheVariants.{Write}

-- The text of a whole input is put while it is read: the source and the sink, before and after, and the answer, of which this
-- is said where it is good.
pub record StreamsText (f : Filter) (Says : ℕ → List ℕ → Type 0) (source source' sink sink' : Device ℕ) (result : Result ℕ RunFault) : Type 0 where
  -- what was read, and what was put of it
  pub streams : Streamed f source source' sink sink' Says result
  -- where the sink failed the answer is `Write`, whatever else failed
  pub writes : result ≢ Err Write → sink'.faults ≡ sink.faults
  -- however it ends, the source is the same, and takes back no fault
  pub reads_later : IsLater source source'
  -- the sink is the same, too, and takes back none
  pub puts_later : IsLater sink sink'
