-- What a reader of captures does when it gives jobs in blocks.
use Rattle.std.specs.Prelude.{◌≡◌, ℕ, ◌+◌, ◌<◌, ◌≤◌, List, [], ◌∷◌, length, map, take, Option, Some, None, Result, Ok, Err, MatchResult, IfOk}
use Rattle.std.specs.Arc.{arc_value}
use Rattle.ht_io.specs.Devices.{Device, IsLater}
use Rattle.ht_io.specs.declared.faults.InFault.{InFault}
use Rattle.ht_io.specs.declared.faults.InFault.TheVariants.{Format, Read, NoMemory}
use Rattle.ht_fields.specs.Readers.{ReaderView, Gives, Completes}
use Rattle.ht_fields.specs.WholeFiles.{StopsWithCause}
use Rattle.ht_rate.specs.Rates.{symbols_of}
use Rattle.ht_capture.specs.declared.block_item.BlockItem.{BlockItem}
use Rattle.ht_capture.specs.declared.block_item.BlockItem.TheVariants.{Frame, Block, Done}
use Rattle.ht_capture.specs.declared.items.FrameHead.{FrameHead}
use Rattle.ht_capture.specs.declared.items.Item.{Item}
use Rattle.ht_capture.specs.declared.items.Item.TheVariants.{Frame as FrameItem, Job as JobItem, Done as DoneItem}
use Rattle.ht_capture.specs.declared.lent.Lent.{Lent}
use Rattle.ht_capture.specs.declared.lent.Lent.TheVariants.{Nothing, Before, Current}
use Rattle.ht_capture.specs.declared.places.Present.{Present}
use Rattle.ht_capture.specs.declared.places.SymbolTurn.{SymbolTurn}
use Rattle.ht_capture.specs.declared.stage.Stage.{Stage}
use Rattle.ht_capture.specs.declared.stage.Stage.TheVariants.{Begin, NextFrame, NextSymbol, Giving, Ended, Stopped}
use Rattle.ht_capture.specs.Parts.{SymbolPart, jobs_of, symbol_part}
use Rattle.ht_capture.specs.Reading.{AreSeen}
use Rattle.ht_capture.specs.Readers.{Counted, Counts, IsPlaced, Progress, StaysInFrame, counted, counts, finished, more, shown_by}
use Rattle.ht_capture.specs.Readers.{symbol_under_way}

-- the jobs of a part, as items
abbrev pub items_in : SymbolPart → List Item
items_in part = map (λ job. JobItem job) (jobs_of part)

-- the octets taken give the head, or each job of the block; Done says that the capture is whole
abbrev pub GivesBlockItem : ReaderView Item → ReaderView Item → BlockItem → Type 0
GivesBlockItem old new (Frame head) = Gives old new (FrameItem head ∷ [])
GivesBlockItem old new (Block part) = Gives old new (items_in part)
GivesBlockItem old new Done = Completes old new.source

-- the reading stopped; where memory lacked, no job is lost
abbrev pub StopsBlocks : ReaderView Item → ReaderView Item → InFault → Type 0
StopsBlocks old new (Format fault) = StopsWithCause old new.source (Format fault)
StopsBlocks old new Read = StopsWithCause old new.source Read
StopsBlocks old new NoMemory = Gives old new []

-- at least one job and at most this number, numbered on from those that were given
pub record CountsPart (most : ℕ) (old new : Counts) (part : SymbolPart) : Type 0 where
  pub some : 1 ≤ length part.present
  pub few : length part.present ≤ most
  pub number : part.number ≡ old.jobs
  pub given : new ≡ counted old.frames (old.jobs + length part.present)

-- the same of an answer: a head, a block or the end
abbrev pub CountsBlock : ℕ → Counts → Counts → BlockItem → Type 0
CountsBlock most old new (Frame head) = Counted old new (FrameItem head)
CountsBlock most old new (Block part) = CountsPart most old new part
CountsBlock most old new Done = Unit {0}

-- jobs of a symbol, on subcarriers of its rate
pub record IsPartOf (due : SymbolTurn) (part : SymbolPart) : Type 0 where
  pub head : part.head ≡ due.head
  pub symbol : part.symbol ≡ due.symbol
  pub symbols : due.symbol < symbols_of due.head.rate due.head.length
  pub carriers : AreSeen due.head.rate (length part.present) part.present

-- they are jobs of the symbol that was due, and behind them a symbol of the same frame is due, or the frame is over
abbrev pub PlacesPart : Option SymbolTurn → Option SymbolTurn → SymbolPart → Type 0
PlacesPart old new part = (due : SymbolTurn) × (old ≡ Some due) × IsPartOf due part × StaysInFrame due new

-- where the jobs of an answer stand, by the symbols that were due before and are due then
abbrev pub PlacesBlock : Option SymbolTurn → Option SymbolTurn → BlockItem → Type 0
PlacesBlock old new (Frame head) = IsPlaced old new (FrameItem head)
PlacesBlock old new (Block part) = PlacesPart old new part
PlacesBlock old new Done = Unit {0}

-- the bound on what still comes is less by each head and job
abbrev pub FallsBy : ℕ → ℕ → Result BlockItem InFault → Type 0
FallsBy old new (Ok (Frame head)) = new < old
FallsBy old new (Ok (Block part)) = new + length part.present ≤ old
FallsBy old new (Ok Done) = new ≤ old
FallsBy old new (Err fault) = new ≤ old

-- behind a head or a block the reader goes on, and where memory lacked; behind another fault it stopped
abbrev pub GoesOnBy : Progress → Result BlockItem InFault → Type 0
GoesOnBy reader (Ok (Frame head)) = finished reader ≡ None
GoesOnBy reader (Ok (Block part)) = finished reader ≡ None
GoesOnBy reader (Ok Done) = finished reader ≡ Some (Ok DoneItem)
GoesOnBy reader (Err (Format fault)) = finished reader ≡ Some (Err (Format fault))
GoesOnBy reader (Err Read) = finished reader ≡ Some (Err Read)
GoesOnBy reader (Err NoMemory) = finished reader ≡ None

-- the answer that a reader gives again and again
abbrev pub Repeats : Result Item InFault → Result BlockItem InFault → Type 0
Repeats (Ok (FrameItem head)) answer = Unit {0}
Repeats (Ok (JobItem job)) answer = Unit {0}
Repeats (Ok DoneItem) answer = answer ≡ Ok Done
Repeats (Err fault) answer = answer ≡ Err fault

-- what a call that gives the next head, the end or a block of at most `most` jobs does to a reader and to its source, whose
-- device `shown` tells
pub record AnswersBlock {S : Type 0} (shown : S → Device ℕ) (most : ℕ) (old new : Progress) (source source' : S)
    (result : Result BlockItem InFault) : Type 0 where
  -- what the octets that this call took mean
  pub told : finished old ≡ None → MatchResult result
      (GivesBlockItem (shown_by old (shown source)) (shown_by new (shown source')))
      (StopsBlocks (shown_by old (shown source)) (shown_by new (shown source')))
  -- heads and jobs are numbered from 0
  pub counted : IfOk result (CountsBlock most (counts old) (counts new))
  -- a block's jobs are some of the symbol that was due
  pub placed : IfOk result (PlacesBlock (symbol_under_way old) (symbol_under_way new))
  -- whether the reader goes on
  pub going : GoesOnBy new result
  -- the device is the same, and takes back no fault
  pub later : IsLater (shown source) (shown source')
  -- a reader that finished answers the same again, and takes nothing
  pub again : (answer : Result Item InFault) → finished old ≡ Some answer → Repeats answer result × (new ≡ old) × (source' ≡ source)
  -- how many heads and jobs still come, at most: over every source fewer behind each of them
  pub fewer : FallsBy (more old) (more new) result

-- what giving the next jobs of the symbol that was read, at most `most` of them, does to a reader
pub record GivesPart (most : ℕ) (old new : Progress) (part : SymbolPart) : Type 0 where
  -- the jobs are the next items
  pub told : (source : Device ℕ) → Gives (shown_by old source) (shown_by new source) (items_in part)
  -- they are numbered from 0, and are some of the symbol that was due
  pub counted : CountsPart most (counts old) (counts new) part
  pub placed : PlacesPart (symbol_under_way old) (symbol_under_way new) part
  -- the reader goes on, and fewer heads and jobs come
  pub going : finished new ≡ None
  pub fewer : more new + length part.present ≤ more old

-- a symbol of the frame with this head and these subcarriers
pub record IsOfFrame (frame : FrameHead) (subcarriers : List Present) (part : SymbolPart) : Type 0 where
  pub head : part.head ≡ frame
  pub present : part.present ≡ subcarriers

-- what was lent is of this frame
abbrev pub LendsFrame : FrameHead → List Present → Lent → Type 0
LendsFrame head present Nothing = Unit {0}
LendsFrame head present (Before symbol) = IsOfFrame head present (arc_value symbol)
LendsFrame head present (Current symbol) = IsOfFrame head present (arc_value symbol)

-- and the symbol that is lent as the current one is this
abbrev pub Lends : SymbolPart → Lent → Type 0
Lends part Nothing = Unit {0}
Lends part (Before symbol) = IsOfFrame part.head part.present (arc_value symbol)
Lends part (Current symbol) = arc_value symbol ≡ part

-- what a reader lent is of the frame under way
abbrev pub KeepsLent : Stage → List Present → List ℕ → Lent → Type 0
KeepsLent Begin present samples lent = Unit {0}
KeepsLent (NextFrame turn) present samples lent = Unit {0}
KeepsLent (NextSymbol due) present samples lent = LendsFrame due.head (take due.count present) lent
KeepsLent (Giving due k) present samples lent = Lends (symbol_part due present samples) lent
KeepsLent Ended present samples lent = Unit {0}
KeepsLent (Stopped fault) present samples lent = Unit {0}
