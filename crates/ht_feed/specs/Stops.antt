-- One fault as another, and how a whole reading ended.
use Rattle.std.specs.Prelude.{ℕ, Option, Some, None, Result, Ok, Err}
use Rattle.ht_io.specs.declared.faults.InFault.{InFault}
use Rattle.ht_io.specs.declared.faults.InFault.TheVariants.{Format, Read, NoMemory}
use Rattle.ht_runs.specs.declared.faults.RunFault.{RunFault}
use Rattle.ht_runs.specs.declared.faults.RunFault.TheVariants.{Format as RunFormat, Read as RunRead, Write as RunWrite, NoMemory as RunMemory}
use Rattle.ht_feed.specs.declared.stop.Stop.{Stop}
use Rattle.ht_feed.specs.declared.stop.Stop.TheVariants.{Whole, Refused, Broken, Lacking}
use Rattle.ht_feed.specs.declared.book_fault.BookFault.{BookFault}
use Rattle.ht_feed.specs.declared.book_fault.BookFault.TheVariants.{Failed as BookFailed, NoMemory as BookMemory}
use Rattle.ht_feed.specs.declared.ended.Ended.{Ended}
use Rattle.ht_feed.specs.declared.drive.DriveFault.{DriveFault}
use Rattle.ht_feed.specs.declared.drive.DriveFault.TheVariants.{Feed, NoMemory as DriveMemory, Work}

-- how the reading stops where a reader halts
abbrev pub stop_of : InFault → Stop
stop_of (Format fault) = Refused fault
stop_of Read = Broken
stop_of NoMemory = Lacking

-- why a run ends where its consumer can't go on
abbrev pub fault_of : BookFault → RunFault
fault_of BookFailed = RunWrite
fault_of BookMemory = RunMemory

-- why a run ends where its drive ended so
abbrev pub fault_of_drive : DriveFault BookFault → RunFault
fault_of_drive (Feed fault) = fault_of fault
fault_of_drive DriveMemory = RunMemory
fault_of_drive Work = RunMemory

-- how the reading ended that stopped so, behind this number of frames and of jobs; it has always stopped
abbrev pub ended_at : Option Stop → ℕ → ℕ → Result Ended RunFault
ended_at (Some Whole) frames jobs = Ok (record { frames = frames; jobs = jobs })
ended_at (Some (Refused fault)) frames jobs = Err (RunFormat fault)
ended_at (Some Broken) frames jobs = Err RunRead
ended_at (Some Lacking) frames jobs = Err RunMemory
ended_at None frames jobs = Err RunRead

-- how it ended, where its drive answered this
abbrev pub ended_by : {X : Type 0} → Option Stop → ℕ → ℕ → Result X (DriveFault BookFault) → Result Ended RunFault
ended_by stop frames jobs (Ok done) = ended_at stop frames jobs
ended_by stop frames jobs (Err fault) = Err (fault_of_drive fault)

-- what a call of the in-flight reader or of its consumer failed with, where the drive answered this
abbrev pub failed_by : {X : Type 0} → Result X (DriveFault BookFault) → Option BookFault
failed_by (Ok done) = None
failed_by (Err (Feed fault)) = Some fault
failed_by (Err DriveMemory) = None
failed_by (Err Work) = None
