-- What a reader of captures still gives.
use Rattle.std.specs.Prelude.{◌≡◌, ℕ, ◌+◌, ◌-◌, ◌*◌, ◌^◌, ◌<◌, ◌≤◌, List, [], ◌∷◌, length, take, drop, nat_lt, if◌then◌else◌, Bool, true, false, Option, Some}
use Rattle.std.specs.Prelude.{None, Result, Ok, Err, MatchResult, IfOk, IfErr}
use Rattle.ht_io.specs.declared.faults.InFault.{InFault}
use Rattle.ht_io.specs.declared.faults.InFault.TheVariants.{Format, Read, NoMemory}
use Rattle.ht_fields.specs.Meanings.{Meaning, before, ended, refused, meaning}
use Rattle.ht_fields.specs.Readers.{ReaderView, Gives, Completes}
use Rattle.ht_fields.specs.WholeFiles.{StopsWithCause}
use Rattle.ht_io.specs.Devices.{Device, IsLater}
use Rattle.ht_rate.specs.Rates.{carriers_of, symbols_of}
use Rattle.ht_map.specs.Constellation.{grid_of}
use Rattle.ht_pam.specs.declared.axes.Axes.{Axes}
use Rattle.ht_metric.specs.Jobs.{JobView}
use Rattle.ht_capture.specs.declared.items.FrameHead.{FrameHead}
use Rattle.ht_capture.specs.declared.items.Item.{Item}
use Rattle.ht_capture.specs.declared.items.Item.TheVariants.{Frame, Job, Done}
use Rattle.ht_capture.specs.declared.places.Present.{Present}
use Rattle.ht_capture.specs.declared.places.Turn.{Turn}
use Rattle.ht_capture.specs.declared.places.SymbolTurn.{SymbolTurn}
use Rattle.ht_capture.specs.declared.stage.Stage.{Stage}
use Rattle.ht_capture.specs.declared.stage.Stage.TheVariants.{Begin, NextFrame, NextSymbol, Giving, Ended, Stopped}
use Rattle.ht_capture.specs.Frames.{carrier_octets, jobs_at}
use Rattle.ht_capture.specs.Fields.{Symbol, captures, capture_magic, capture_magic_due, turn_due, next_symbol, next_turn, symbol_due}
use Rattle.ht_capture.specs.Reading.{AreSeen}

-- the octets of a symbol
abbrev pub symbol_octets : SymbolTurn → ℕ
symbol_octets due = due.count * carrier_octets due.head.rate

-- a buffer holds the octets of any symbol, and this symbol has some and ends at an offset that fits
pub record HasRoom (due : SymbolTurn) (at : ℕ) (buffer : List ℕ) : Type 0 where
  pub bound : at + 3648 < 2 ^ 64
  pub space : length buffer ≡ 3648
  pub some : 1 ≤ due.count
  pub few : due.count ≤ 114

-- the jobs of a symbol from one on, out of the octets of all of them
unfoldable pub jobs_left : SymbolTurn → ℕ → List Present → List ℕ → List Item
jobs_left due k present octets = jobs_at due.head due.symbol (due.turn.number + k) (drop k present) octets (k * carrier_octets due.head.rate)

-- a reader that stopped gives its fault again, and no item
abbrev pub stopped_means : InFault → List ℕ → Meaning Item
stopped_means (Format fault) rest = refused fault.kind fault.offset
stopped_means Read rest = ended
stopped_means NoMemory rest = ended

-- what a reader means in a stage, if exactly these octets are left
abbrev pub stage_means : Stage → ℕ → List Present → List ℕ → List ℕ → Meaning Item
stage_means Begin at present samples = meaning captures (capture_magic_due capture_magic) at
stage_means (NextFrame turn) at present samples = meaning captures (turn_due turn) at
stage_means (NextSymbol due) at present samples = meaning captures (Symbol due (take due.count present)) at
stage_means (Giving due k) at present samples = λ rest.
    before (jobs_left due k (take due.count present) (take (symbol_octets due) samples))
    (meaning captures (symbol_due (next_symbol due) (take due.count present)) at rest)
stage_means Ended at present samples = λ rest. ended
stage_means (Stopped fault) at present samples = stopped_means fault

-- how far a reader is: its stage, the octets that it read, the subcarriers of its frame and the octets of its symbol's samples
pub record Progress : Type 0 where
  pub stage : Stage
  pub at : ℕ
  pub present : List Present
  pub samples : List ℕ

-- a reader over its source, by what it keeps
abbrev pub shown_at : Stage → ℕ → List Present → List ℕ → Device ℕ → ReaderView Item
shown_at stage at present samples source = record { means = stage_means stage at present samples; at = at; source = source }

abbrev pub shown_by : Progress → Device ℕ → ReaderView Item
shown_by reader source = shown_at reader.stage reader.at reader.present reader.samples source

-- the stage behind a symbol
abbrev pub stage_after : SymbolTurn → Stage
stage_after due =
    if nat_lt (due.symbol + 1) due.symbols then NextSymbol (next_symbol due) else NextFrame (next_turn (next_symbol due).turn)

-- the octets taken give the item, and Done says that the capture is whole
abbrev pub GivesItem : ReaderView Item → ReaderView Item → Item → Type 0
GivesItem old new (Frame head) = Gives old new (Frame head ∷ [])
GivesItem old new (Job job) = Gives old new (Job job ∷ [])
GivesItem old new Done = Completes old new.source

-- the answer that a reader gives again and again
abbrev pub finished_stage : Stage → Option (Result Item InFault)
finished_stage Ended = Some (Ok Done)
finished_stage (Stopped fault) = Some (Err fault)
finished_stage Begin = None
finished_stage (NextFrame turn) = None
finished_stage (NextSymbol due) = None
finished_stage (Giving due k) = None

abbrev pub finished : Progress → Option (Result Item InFault)
finished reader = finished_stage reader.stage

-- how many heads and how many jobs a reader has given
pub record Counts : Type 0 where
  pub frames : ℕ
  pub jobs : ℕ

abbrev pub counted : ℕ → ℕ → Counts
counted frames jobs = record { frames = frames; jobs = jobs }

-- while it goes on
abbrev pub counts_at : Stage → Counts
counts_at Begin = counted 0 0
counts_at (NextFrame turn) = counted turn.frame turn.number
counts_at (NextSymbol due) = counted (due.turn.frame + 1) due.turn.number
counts_at (Giving due k) = counted (due.turn.frame + 1) (due.turn.number + k)
counts_at Ended = counted 0 0
counts_at (Stopped fault) = counted 0 0

abbrev pub counts : Progress → Counts
counts reader = counts_at reader.stage

-- heads and jobs are numbered from 0 over the whole capture, which has at most 65535 frames
abbrev pub Counted : Counts → Counts → Item → Type 0
Counted old new (Frame head) = (head.frame ≡ old.frames) × (new ≡ counted (old.frames + 1) old.jobs) × (new.frames ≤ 65535)
Counted old new (Job job) = (job.number ≡ old.jobs) × (new ≡ counted old.frames (old.jobs + 1))
Counted old new Done = Unit {0}

-- while a frame is under way, the grid that is kept is that of its data subcarriers
abbrev pub KeepsGrid : Stage → List Axes → Type 0
KeepsGrid Begin grid = Unit {0}
KeepsGrid (NextFrame turn) grid = Unit {0}
KeepsGrid (NextSymbol due) grid = grid ≡ grid_of due.head.rate
KeepsGrid (Giving due k) grid = grid ≡ grid_of due.head.rate
KeepsGrid Ended grid = Unit {0}
KeepsGrid (Stopped fault) grid = Unit {0}

-- no symbol has to be read before the next item
abbrev pub IsReady : Stage → Type 0
IsReady Begin = Unit {0}
IsReady (NextFrame turn) = Unit {0}
IsReady (NextSymbol due) = ⊥
IsReady (Giving due k) = Unit {0}
IsReady Ended = Unit {0}
IsReady (Stopped fault) = Unit {0}

-- a symbol was read, and jobs of it are due
abbrev pub has_job : Stage → Bool
has_job Begin = false
has_job (NextFrame turn) = false
has_job (NextSymbol due) = false
has_job (Giving due k) = true
has_job Ended = false
has_job (Stopped fault) = false

-- the most heads and jobs of this number of frames: each has a head and at most 1,129,296 jobs
abbrev pub most_of : ℕ → ℕ
most_of frames = 1129297 * frames

-- the most heads and jobs that still come from a reader in a stage: those of its symbol, of the frame's later symbols, and of the later frames
abbrev pub more_at : Stage → ℕ
more_at Begin = most_of 65535
more_at (NextFrame turn) = most_of turn.left
more_at (NextSymbol due) = (due.symbols - due.symbol) * due.count + most_of (due.turn.left - 1)
more_at (Giving due k) = (due.count - k) + (due.symbols - due.symbol - 1) * due.count + most_of (due.turn.left - 1)
more_at Ended = 0
more_at (Stopped fault) = 0

abbrev pub more : Progress → ℕ
more reader = more_at reader.stage

-- the bound is less behind each head and job, and never rises
abbrev pub Falls : ℕ → ℕ → Result Item InFault → Type 0
Falls old new (Ok (Frame head)) = new < old
Falls old new (Ok (Job job)) = new < old
Falls old new (Ok Done) = new ≤ old
Falls old new (Err fault) = new ≤ old

-- behind a head or a job the reader goes on
abbrev pub GoesOn : Progress → Item → Type 0
GoesOn reader (Frame head) = finished reader ≡ None
GoesOn reader (Job job) = finished reader ≡ None
GoesOn reader Done = Unit {0}

-- the symbol whose jobs are due, while a frame is under way
abbrev pub symbol_at : Stage → Option SymbolTurn
symbol_at Begin = None
symbol_at (NextFrame turn) = None
symbol_at (NextSymbol due) = Some due
symbol_at (Giving due k) = Some due
symbol_at Ended = None
symbol_at (Stopped fault) = None

abbrev pub symbol_under_way : Progress → Option SymbolTurn
symbol_under_way reader = symbol_at reader.stage

-- a job of a symbol: it stands in the symbol's frame, on a subcarrier of its rate
pub record IsOfSymbol (due : SymbolTurn) (job : JobView) : Type 0 where
  pub frame : job.place.frame ≡ due.head.frame
  pub symbol : job.place.symbol ≡ due.symbol
  pub symbols : due.symbol < symbols_of due.head.rate due.head.length
  pub carrier : job.place.carrier < carriers_of due.head.rate

-- behind a job of a symbol a symbol of the same frame is due, the same or a later one, or the frame is over
abbrev pub StaysInFrame : SymbolTurn → Option SymbolTurn → Type 0
StaysInFrame due None = Unit {0}
StaysInFrame due (Some next) = (next.head ≡ due.head) × (due.symbol ≤ next.symbol)

-- behind a head its frame's first symbol is due, and a job is one of the symbol that was due
abbrev pub IsPlaced : Option SymbolTurn → Option SymbolTurn → Item → Type 0
IsPlaced old new (Frame head) = (due : SymbolTurn) × (new ≡ Some due) × (due.head ≡ head) × (due.symbol ≡ 0)
IsPlaced old new (Job job) = (due : SymbolTurn) × (old ≡ Some due) × IsOfSymbol due job × StaysInFrame due new
IsPlaced old new Done = Unit {0}

-- what a call that gives the next item does to a reader and to its source, whose device `shown` tells
pub record AnswersItem {S : Type 0} (shown : S → Device ℕ) (old new : Progress) (source source' : S) (result : Result Item InFault) : Type 0 where
  -- what the octets that this call took mean
  pub told : finished old ≡ None → MatchResult result
      (GivesItem (shown_by old (shown source)) (shown_by new (shown source')))
      (StopsWithCause (shown_by old (shown source)) (shown source'))
  -- heads and jobs are numbered from 0
  pub counted : IfOk result (Counted (counts old) (counts new))
  -- a job is one of the symbol that was due, on a subcarrier of its frame's rate
  pub placed : IfOk result (IsPlaced (symbol_under_way old) (symbol_under_way new))
  -- behind a head or a job the reader goes on
  pub going : IfOk result (GoesOn new)
  -- the device is the same, and takes back no fault
  pub later : IsLater (shown source) (shown source')
  -- a reader that finished answers the same again, and takes nothing
  pub again : (answer : Result Item InFault) → finished old ≡ Some answer → (result ≡ answer) × (new ≡ old) × (source' ≡ source)
  -- behind a fault and behind the end it has finished
  pub stopped : IfErr result (λ fault. finished new ≡ Some (Err fault))
  pub done : result ≡ Ok Done → finished new ≡ Some (Ok Done)
  -- how many heads and jobs still come, at most: over every source fewer behind each of them
  pub fewer : Falls (more old) (more new) result
  -- memory never lacks
  pub memory : result ≡ Err NoMemory → ⊥

-- what reading a frame's head or the end of the input does, where a reader meant `before`, over its source, had given the heads
-- and jobs that `given` counts, and had at most `most` of them still to give
pub record ReadsFrame (before : ReaderView Item) (given : Counts) (most : ℕ) (new : Progress) (after : Device ℕ) (result : Result Item InFault) : Type 0 where
  -- what the octets that this call took mean
  pub told : MatchResult result (GivesItem before (shown_by new after)) (StopsWithCause before after)
  -- behind a fault the reader has stopped, and behind the end it has ended
  pub stopped : IfErr result (λ fault. new.stage ≡ Stopped fault)
  pub done : result ≡ Ok Done → new.stage ≡ Ended
  -- memory never lacks
  pub memory : IfErr result (λ fault. fault ≡ NoMemory → ⊥)
  -- the head is numbered from 0, and its frame's first symbol is due
  pub counted : IfOk result (Counted given (counts new))
  pub placed : IfOk result (IsPlaced None (symbol_under_way new))
  -- behind a head the reader goes on, and fewer heads and jobs come
  pub on : IfOk result (GoesOn new)
  pub fewer : Falls most (more new) result
  -- the device is the same, and takes back no fault
  pub later : IsLater before.source after

-- what giving the next job of the symbol that was read does to a reader
pub record GivesJob (old new : Progress) (job : JobView) : Type 0 where
  -- the job is the next item
  pub told : (source : Device ℕ) → Gives (shown_by old source) (shown_by new source) (Job job ∷ [])
  -- it is numbered from 0, and is one of the symbol that was due
  pub counted : Counted (counts old) (counts new) (Job job)
  pub placed : IsPlaced (symbol_under_way old) (symbol_under_way new) (Job job)
  -- the reader goes on, and fewer heads and jobs come
  pub going : finished new ≡ None
  pub fewer : more new < more old

-- the offset and the numbers stay far below the ends of their types: a frame has at most 73,569,334 octets and 2,298,924 jobs
pub record TurnFits (turn : Turn) (at : ℕ) : Type 0 where
  pub frames : turn.frame + turn.left ≤ 65535
  pub place : at ≤ 7 + 73569334 * turn.frame
  pub number : turn.number ≤ 2298924 * turn.frame

-- what holds of a frame from its first symbol to its last
pub record FrameFits (frame frames_left : ℕ) (head : FrameHead) (last carriers : ℕ) (present : List Present) : Type 0 where
  pub frames : frame + frames_left ≤ 65535
  pub left : 1 ≤ frames_left
  pub count : 1 ≤ carriers
  pub few : carriers ≤ carriers_of head.rate
  pub places : carriers ≤ 114
  pub symbols : last ≤ 20166
  pub whole : last ≡ symbols_of head.rate head.length
  pub seen : AreSeen head.rate carriers present

-- in a frame, where the symbols before the one that is due and this number more were read
pub record SymbolFits (due : SymbolTurn) (more at : ℕ) (present : List Present) : Type 0 where
  pub frame : FrameFits due.turn.frame due.turn.left due.head due.symbols due.count present
  pub symbol : due.symbol < due.symbols
  pub place : at ≤ 7 + 73569334 * due.turn.frame + 3766 + 3648 * (due.symbol + more)
  pub number : due.turn.number ≤ 2298924 * due.turn.frame + 114 * due.symbol

-- the same of each stage, by the offset and the subcarriers that were read
abbrev pub StageFits : Stage → ℕ → List Present → Type 0
StageFits Begin at present = at ≡ 0
StageFits (NextFrame turn) at present = TurnFits turn at
StageFits (NextSymbol due) at present = SymbolFits due 0 at present
StageFits (Giving due k) at present = (k < due.count) × SymbolFits due 1 at present
StageFits Ended at present = Unit {0}
StageFits (Stopped fault) at present = fault ≡ NoMemory → ⊥

-- a reader has room for the triangles of a frame and the samples of a symbol
pub record IsSound (reader : Progress) : Type 0 where
  pub present : length reader.present ≡ 114
  pub samples : length reader.samples ≡ 3648
  pub stage : StageFits reader.stage reader.at reader.present
