-- What it comes to that a capture is read and its hits are taken: what was taken from the source, and what was put.
use Rattle.std.specs.Prelude.{◌≡◌, ℕ, List, length}
use Rattle.ht_io.specs.Devices.{Device, Rose}
use Rattle.ht_capture.specs.Captures.{capture_of}
use Rattle.ht_capture.specs.Fields.{captures}
use Rattle.ht_results.specs.Texts.{HasFrames}
use Rattle.ht_runs.specs.Outcomes.{TellsBroken, TellsPieces, TellsRefused, TellsWhole}
use Rattle.ht_runs.specs.declared.faults.RunFault.{RunFault}
use Rattle.ht_runs.specs.declared.faults.RunFault.TheVariants.{Format, Read, Write, NoMemory}
use Rattle.ht_feed.specs.declared.ended.Ended.{Ended}
use Rattle.ht_results.specs.JobTexts.{jobs_of}

-- a capture has this number of frames and of jobs
pub record HasCounts (frames jobs : ℕ) (octets : List ℕ) : Type 0 where
  pub frames_are : HasFrames frames octets
  pub jobs_are : jobs ≡ length (jobs_of (capture_of octets).items)

-- these pieces are put of a list of octets; the source, and the device that they are put into, before and after
module _ {P : Type 0} (pieces : List ℕ → List P) (source source' : Device ℕ) (device device' : Device P) where
  -- what holds where a run answers so, of a whole capture
  abbrev pub TellsTo : Ended → Type 0
  TellsTo ended = TellsWhole captures pieces source source' device device' (HasCounts ended.frames ended.jobs)

  -- where it answers with a fault; a failed device has counted it; where the answer is Read all pieces were put, so no write failed before
  abbrev pub StopsBy : RunFault → Type 0
  StopsBy (Format fault) = TellsRefused captures pieces source source' device device' fault
  StopsBy Read = TellsBroken captures pieces source source' device device' × Rose source source'
  StopsBy Write = TellsPieces captures pieces source source' device device' × Rose device device'
  StopsBy NoMemory = TellsPieces captures pieces source source' device device'
