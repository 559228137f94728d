-- A check of a file that is under way.
use Rattle.std.specs.Prelude.{◌≡◌, ℕ, List, ◌++◌, length}
use Rattle.ht_io.specs.Devices.{Device, Grows, IsLater}
use Rattle.ht_fields.specs.Readers.{ReaderView, Gives}
use Rattle.ht_cert.specs.declared.record.Record.{Record}
use Rattle.ht_cert.specs.Formats.{certificates}
use Rattle.ht_cert.specs.Readers.{here}
use Rattle.ht_certify.specs.declared.score.Score.{Score}
use Rattle.ht_certify.specs.Checks.{check_lines_of, yes_of}

-- Records came, and were counted; of their lines some were put, and these wait. The reader is where it is now, and so are the
-- source behind it and the sink.
pub record Checks (source sink : Device ℕ) (reader : ReaderView Record) (sink' : Device ℕ) (score : Score) (waiting : List ℕ) : Type 0 where
  pub records : List Record
  pub put : List ℕ
  pub gives : Gives (here certificates.start 0 source) reader records
  pub lines : check_lines_of records ≡ put ++ waiting
  pub grows : Grows sink sink' put
  pub jobs : score.jobs ≡ length records
  pub right : score.right ≡ yes_of records
  pub reads_later : IsLater source reader.source
  pub puts_later : IsLater sink sink'
  pub steady : sink'.faults ≡ sink.faults
