-- What a reader of captures still gives.
use Rattle.std.specs.Prelude.{◌≡◌, ℕ, ◌+◌, ◌-◌, ◌*◌, ◌<◌, ◌≤◌, List, map, Bool, true, false, Result, IfOk, MatchResult}
use Rattle.ht_io.specs.Devices.{Device, IsLater}
use Rattle.ht_io.specs.declared.faults.InFault.{InFault}
use Rattle.ht_fields.specs.Meanings.{Meaning, before, meaning}
use Rattle.ht_fields.specs.Readers.{ReaderView, Gives}
use Rattle.ht_metric.specs.Jobs.{JobView}
use Rattle.ht_clause18.specs.Carriers.{carriers}
use Rattle.ht_heads.specs.Starts.{StartState}
use Rattle.ht_feed.specs.Items.{Item, One}
use Rattle.ht_feed.specs.Reading.{Counts, CountsCame, GivesCame, Halts, view}
use Rattle.ht_feed.specs.declared.came.Came.{Came}
use Rattle.ht_legacy_files.specs.CaptureFormats.{CaptureState, captures, symbols_due}
use Rattle.ht_legacy_blocks.specs.declared.head.LegacyFrameHead.{LegacyFrameHead}
use Rattle.ht_legacy_blocks.specs.declared.stage.Stage.{Stage}
use Rattle.ht_legacy_blocks.specs.declared.stage.Stage.TheVariants.{Start, Due}
use Rattle.ht_legacy_blocks.specs.Frames.{Course, mapped_from}
use Rattle.ht_legacy_blocks.specs.Jobs.{SymbolView, jobs_between}

-- how far a reader is: which field comes next, how many octets it read, where the next item comes, the symbol that was read
-- last, and on how many of its subcarriers the jobs weren't given yet
pub record Progress : Type 0 where
  pub stage : Stage
  pub at : ℕ
  pub course : Course
  pub symbol : SymbolView
  pub left : ℕ

abbrev pub progress : Stage → ℕ → ℕ → LegacyFrameHead → List ℕ → ℕ → ℕ → SymbolView → ℕ → Progress
progress stage at frames head diagonals symbols jobs symbol left = record {
  stage = stage;
  at = at;
  course = record { frames = frames; head = head; diagonals = diagonals; symbol = symbols; number = jobs };
  symbol = symbol;
  left = left;
}

-- what stands in front of the frames was read
abbrev pub has_begun : Stage → Bool
has_begun Start = false
has_begun (Due frames symbols) = true

-- the state of the format
abbrev pub state_of : Stage → StartState CaptureState
state_of Start = captures.start
state_of (Due frames symbols) = symbols_due (frames + 1) symbols

-- the first subcarrier whose job wasn't given
abbrev pub first_of : ℕ → ℕ
first_of left = carriers - left

-- the jobs that weren't given, and then what the octets mean
abbrev pub legacy_means : Progress → List ℕ → Meaning (Item LegacyFrameHead)
legacy_means r octets =
    before (map One (jobs_between r.symbol (first_of r.left) r.left)) (mapped_from r.course (meaning captures (state_of r.stage) r.at octets))

-- the number of octets that it read
abbrev pub legacy_at : Progress → ℕ
legacy_at r = r.at

-- the reader over its source
abbrev pub seen : Progress → Device ℕ → ReaderView (Item LegacyFrameHead)
seen = view legacy_means legacy_at

-- the most heads and jobs of this number of frames: each has a head, and at most 1366 symbols
abbrev pub most_of : ℕ → ℕ
most_of frames = 71033 * frames

-- those that still come at most behind the symbol that was read last
abbrev pub more_behind : Stage → ℕ
more_behind Start = most_of 65535
more_behind (Due frames symbols) = carriers * symbols + most_of frames

-- A reader can be asked again and again; what it says then of the octets that are left holds behind a fault too.
abbrev pub legacy_counts : Progress → Counts
legacy_counts r = record { given = r.course.number - r.left; more = r.left + more_behind r.stage; going = true }

-- Offset and numbers stay far below the ends of their types: a frame has at most 568,363 octets and 71,032 jobs.
pub record StageFits (frames_left symbols_left : ℕ) (r : Progress) : Type 0 where
  pub frames : r.course.frames + frames_left ≤ 65535
  pub symbols : r.course.symbol + symbols_left ≤ 1366
  pub place : r.at + 416 * symbols_left + 568363 * frames_left ≤ 7 + 568363 * 65535
  pub number : r.course.number + carriers * symbols_left + 71032 * frames_left ≤ 71032 * 65535

-- in front of the frames nothing came yet
pub record IsFresh (r : Progress) : Type 0 where
  pub place : r.at ≡ 0
  pub frames : r.course.frames ≡ 0
  pub symbol : r.course.symbol ≡ 0
  pub number : r.course.number ≡ 0

-- what holds of a reader in each stage
abbrev pub Fits : Stage → Progress → Type 0
Fits Start r = IsFresh r
Fits (Due frames symbols) r = StageFits frames symbols r

-- what holds of every reader
pub record IsSound (r : Progress) : Type 0 where
  pub stage : Fits r.stage r
  pub few : r.left ≤ carriers
  pub given : r.left ≤ r.course.number
  pub number : 0 < r.left → r.symbol.number + carriers ≡ r.course.number

-- What a call comes to that reads some fields. Where the answer is Ok, the octets taken give the items that go with it. Where it
-- is a fault, the reader gives no more, and none of them was given.
abbrev pub ReadsItems : {A : Type 0} → Result A InFault → ReaderView (Item LegacyFrameHead) → ReaderView (Item LegacyFrameHead)
    → (A → List (Item LegacyFrameHead)) → Type 0
ReadsItems result old new items = MatchResult result (λ answer. Gives old new (items answer)) (Halts old new.source)

-- what came when it was asked, or why it gives no more
pub record ReadsOn (most : ℕ) (old new : Progress) (source after : Device ℕ) (result : Result (Came LegacyFrameHead (List JobView)) InFault) : Type 0 where
  pub told : MatchResult result (GivesCame (λ (block : List JobView). block) (seen old source) (seen new after)) (Halts (seen old source) after)
  pub counted : IfOk result (CountsCame (λ (block : List JobView). block) most (legacy_counts old) (legacy_counts new))
  pub never_more : (legacy_counts new).more ≤ (legacy_counts old).more
  pub later : IsLater source after
