-- What a reader of certificates still gives.
use Rattle.std.specs.Prelude.{◌≡◌, ◌⊎◌, ⊤, ℕ, ◌+◌, ◌*◌, ◌<◌, ◌≤◌, List, [], ◌∷◌, ◌++◌, length, map, Bool, nat_eq, Option, Some, None, Result, Ok, Err}
use Rattle.std.specs.Prelude.{MatchResult}
use Rattle.ht_io.specs.Devices.{Device, Takes}
use Rattle.ht_io.specs.declared.faults.InFault.{InFault}
use Rattle.ht_io.specs.declared.faults.InFault.TheVariants.{Format, Read, NoMemory}
use Rattle.ht_io.specs.declared.faults.Kind.TheVariants.{BadMark}
use Rattle.ht_fields.specs.Lacking.{FailsAmong}
use Rattle.ht_fields.specs.Meanings.{Meaning, ended, refused, meaning}
use Rattle.ht_fields.specs.Readers.{ReaderView, reader_in, Gives, Completes}
use Rattle.ht_fields.specs.WholeFiles.{StopsWithCause}
use Rattle.ht_heads.specs.Starts.{StartState}
use Rattle.ht_cert.specs.declared.record.Record.{Record}
use Rattle.ht_cert.specs.declared.reader.RecordStep.{RecordStep}
use Rattle.ht_cert.specs.declared.reader.RecordStep.TheVariants.{Whole, End}
use Rattle.ht_cert.specs.declared.turn.Turn.{Turn}
use Rattle.ht_cert.specs.declared.turn.Stage.{Stage}
use Rattle.ht_cert.specs.declared.turn.Stage.TheVariants.{Begin, Next, Ended, Stopped}
use Rattle.ht_rate.specs.declared.kinds.Modulation.{Modulation}
use Rattle.ht_cert.specs.Formats.{RecordState, certificates, next_turn, records_due}
use Rattle.ht_cert.specs.Files.{mark_octet}
use Rattle.ht_cert.specs.Records.{claim_width, claimed}

-- a reader in a state, at an offset, over this source
abbrev pub here : StartState RecordState → ℕ → Device ℕ → ReaderView Record
here state at source = reader_in certificates state at source

-- triangle, samples, points and distance were taken, and the record has what they say, and no marks
abbrev pub ReadsClaim : ℕ → Modulation → ℕ → Record → Device ℕ → Device ℕ → Type 0
ReadsClaim number modulation streams r before after =
    (octets : List ℕ) × (length octets ≡ claim_width streams) × (r ≡ claimed number modulation streams octets) × Takes before after octets

-- octets were taken from the front of what was left
abbrev pub TakesSome : Device ℕ → Device ℕ → Type 0
TakesSome before after = (taken : List ℕ) × Takes before after taken

-- a mark of 1 is open, one of 0 is cut
abbrev pub is_open : ℕ → Bool
is_open octet = nat_eq octet 1

-- this number of marks was taken, and they were added
abbrev pub ReadsMarks : ℕ → List Bool → List Bool → Device ℕ → Device ℕ → Type 0
ReadsMarks count old new before after =
    (marks : List Bool) × (length marks ≡ count) × (new ≡ old ++ marks) × Takes before after (map mark_octet marks)

-- of this number of marks from the offset on, some were taken, and the next one was not read or is none; or memory ran out
abbrev pub FailsMarks : ℕ → ℕ → Device ℕ → Device ℕ → InFault → Type 0
FailsMarks count at before after fault =
    FailsAmong count 1 BadMark at before after fault ⊎ ((fault ≡ NoMemory) × TakesSome before after)

-- a reader stopped: at the first fault of the file, where its source failed, or for lack of memory, having taken some octets
abbrev pub Fails : ReaderView Record → Device ℕ → InFault → Type 0
Fails old after (Format fault) = StopsWithCause old after (Format fault)
Fails old after Read = StopsWithCause old after Read
Fails old after NoMemory = TakesSome old.source after

-- What a call comes to that reads on to the end of a record. Where the answer is Ok, this record is given, and what follows it
-- is due at the offset that is answered. Where it is a fault, the reading stopped on the way, before the record.
abbrev pub ReadsRecord : Result ℕ InFault → ReaderView Record → Turn → Record → Device ℕ → Type 0
ReadsRecord result old turn r after =
    MatchResult result (λ behind. Gives old (here (records_due (next_turn turn)) behind after) (r ∷ [])) (Fails old after)

-- a reader that stopped gives its fault again, and no record
abbrev pub stopped_means : InFault → List ℕ → Meaning Record
stopped_means (Format fault) rest = refused fault.kind fault.offset
stopped_means Read rest = ended
stopped_means NoMemory rest = ended

-- what a reader means in a stage, if exactly these octets are left
abbrev pub stage_means : Stage → ℕ → List ℕ → Meaning Record
stage_means Begin at = meaning certificates certificates.start at
stage_means (Next turn) at = meaning certificates (records_due turn) at
stage_means Ended at = λ rest. ended
stage_means (Stopped fault) at = stopped_means fault

-- how far a reader is: its stage, and the octets that it read
pub record Progress : Type 0 where
  pub stage : Stage
  pub at : ℕ

abbrev pub shown_by : Progress → Device ℕ → ReaderView Record
shown_by reader source = record { means = stage_means reader.stage reader.at; at = reader.at; source = source }

-- a point is claimed for each stream of the job
abbrev pub HasItsPoints : Record → Type 0
HasItsPoints r = length r.certificate.vector ≡ length r.job.system

-- a record was read, or the file ended
abbrev pub GivesRecord : ReaderView Record → ReaderView Record → RecordStep → Record → Type 0
GivesRecord old new Whole r = Gives old new (r ∷ [])
GivesRecord old new End r = Completes old new.source

-- What a call comes to that reads the next record, or sees that the file ends. Where it is a fault, the reading stopped on the
-- way, before any record.
abbrev pub ReadsNext : Result RecordStep InFault → ReaderView Record → ReaderView Record → Record → Type 0
ReadsNext result old new r = MatchResult result (λ came. GivesRecord old new came r) (Fails old new.source)

-- the answer that a reader gives again and again
abbrev pub finished_stage : Stage → Option (Result RecordStep InFault)
finished_stage Begin = None
finished_stage (Next turn) = None
finished_stage Ended = Some (Ok End)
finished_stage (Stopped fault) = Some (Err fault)

abbrev pub finished : Progress → Option (Result RecordStep InFault)
finished reader = finished_stage reader.stage

-- a number of a stage: at first, and while records are read; behind that it is 0
abbrev pub in_stage : ℕ → (Turn → ℕ) → Stage → ℕ
in_stage first of Begin = first
in_stage first of (Next turn) = of turn
in_stage first of Ended = 0
in_stage first of (Stopped fault) = 0

-- how many records may still come
abbrev pub more_at : Stage → ℕ
more_at stage = in_stage 137438953472 (λ turn. turn.left) stage

abbrev pub more : Progress → ℕ
more reader = more_at reader.stage

-- the number of the next record
abbrev pub number_at : Stage → ℕ
number_at stage = in_stage 0 (λ turn. turn.number) stage

abbrev pub number : Progress → ℕ
number reader = number_at reader.stage

-- behind each record the bound is less, and the number one more
abbrev pub Advances : Progress → Progress → RecordStep → Record → Type 0
Advances old new Whole r = (more new < more old) × (r.job.number ≡ number old) × (number new ≡ number old + 1) × (finished new ≡ None)
Advances old new End r = more new ≤ more old

-- the offset stays far below the end of its type: a record has at most 33,554,526 octets
abbrev pub StageFits : Stage → ℕ → Type 0
StageFits Begin at = at ≡ 0
StageFits (Next turn) at = (turn.number + turn.left ≤ 137438953472) × (at ≤ 13 + 33554526 * turn.number)
StageFits Ended at = ⊤
StageFits (Stopped fault) at = ⊤
