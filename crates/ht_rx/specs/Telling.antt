-- What the reading of a capture comes to, for a device that its jobs or frames are put into.
use Rattle.std.specs.Prelude.{◌≡◌, ◌≢◌, ℕ, List, Result, Err, MatchResult}
use Rattle.ht_io.specs.Devices.{Device, IsLater}
use Rattle.ht_runs.specs.declared.faults.RunFault.{RunFault}
use Rattle.ht_runs.specs.declared.faults.RunFault.TheVariants.{Write}
use Rattle.ht_feed.specs.declared.ended.Ended.{Ended}
use Rattle.ht_rx.specs.Outcomes.{StopsBy, TellsTo}

-- these pieces are put of a list of octets; the source and the device, before and after, and the answer
pub record TellsCapture {P : Type 0} (pieces : List ℕ → List P) (source source' : Device ℕ) (device device' : Device P)
    (result : Result Ended RunFault) : Type 0 where
  -- what was taken from the source, and what was put of it
  pub tells : MatchResult result (TellsTo pieces source source' device device') (StopsBy pieces source source' device device')
  -- where the device failed the answer is `Write`, whatever else failed
  pub writes : result ≢ Err Write → device'.faults ≡ device.faults
  -- however it ends, the source is the same, and takes back no fault
  pub reads_later : IsLater source source'
  -- the device is the same, too, and takes back none
  pub puts_later : IsLater device device'
