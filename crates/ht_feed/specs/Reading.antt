-- What a call of a reader of blocks does with the octets that it takes, and how far an input was read over several
-- calls.
use Rattle.std.specs.Prelude.{◌≡◌, ◌⊎◌, ℕ, ◌+◌, ◌-◌, ◌^◌, ◌<◌, ◌≤◌, List, [], ◌∷◌, map, length, Option, None, Some, Bool, true}
use Rattle.ht_io.specs.Devices.{Device, Takes, Rose, IsLater}
use Rattle.ht_io.specs.declared.faults.InFault.{InFault}
use Rattle.ht_io.specs.declared.faults.InFault.TheVariants.{Format, Read, NoMemory}
use Rattle.ht_fields.specs.Meanings.{Meaning}
use Rattle.ht_fields.specs.Readers.{ReaderView, Gives, Refuses, RunsOut, Breaks, Completes}
use Rattle.ht_metric.specs.Jobs.{JobView}
use Rattle.ht_feed.specs.declared.came.Came.{Came}
use Rattle.ht_feed.specs.declared.came.Came.TheVariants.{Head, Block, End}
use Rattle.ht_feed.specs.declared.stop.Stop.{Stop}
use Rattle.ht_feed.specs.declared.stop.Stop.TheVariants.{Whole, Refused, Broken, Lacking}
use Rattle.ht_feed.specs.Items.{Item, Begins, One, Headed, Numbered, headed, last_head, frames_of}

-- a reader over its source: what it still means if exactly some octets are left, and how many were read
abbrev pub view : {R H : Type 0} → (R → List ℕ → Meaning (Item H)) → (R → ℕ) → R → Device ℕ → ReaderView (Item H)
view means at reader source = record { means = means reader; at = at reader; source = source }

-- how many jobs a reader gave, a number of heads and jobs beyond which none comes, and whether it can be asked for more
pub record Counts : Type 0 where
  pub given : ℕ
  pub more : ℕ
  pub going : Bool

-- a reader that has given no job yet, can be asked for more, and gives fewer than 2^64 - 1 heads and jobs in all
pub record IsFreshReader (counts : Counts) : Type 0 where
  pub going : counts.going ≡ true
  pub fresh : counts.given ≡ 0
  pub bounded : counts.more < 2 ^ 64 - 1

-- a head came
pub record CountsHead (old new : Counts) : Type 0 where
  pub going : new.going ≡ true
  pub given : new.given ≡ old.given
  pub fewer : new.more < old.more

-- a block of these jobs came, at least one and at most this number
pub record CountsBlock (most : ℕ) (old new : Counts) (jobs : List JobView) : Type 0 where
  pub going : new.going ≡ true
  pub numbers : Numbered old.given jobs
  pub given : new.given ≡ old.given + length jobs
  pub some : 1 ≤ length jobs
  pub few : length jobs ≤ most
  pub fewer : new.more + length jobs ≤ old.more

-- memory lacked behind octets of which nothing is said
pub record Lacks {I : Type 0} (old : ReaderView I) (after : Device ℕ) : Type 0 where
  pub taken : List ℕ
  pub octets : Takes old.source after taken

-- the blocks of B stand for these jobs
module _ {H B : Type 0} (jobs : B → List JobView) where
  -- the octets taken give the head, or each job of the block; the end says that the input is whole
  abbrev pub GivesCame : ReaderView (Item H) → ReaderView (Item H) → Came H B → Type 0
  GivesCame old new (Head head) = Gives old new (Begins head ∷ [])
  GivesCame old new (Block block) = Gives old new (map One (jobs block))
  GivesCame old new End = Completes old new.source

  -- what the counts of a reader are behind what came
  abbrev pub CountsCame : ℕ → Counts → Counts → Came H B → Type 0
  CountsCame most old new (Head head) = CountsHead old new
  CountsCame most old new (Block block) = CountsBlock most old new (jobs block)
  CountsCame most old new End = Unit {0}

-- a reader gives no more: at the first fault, where its source failed, or for lack of memory
abbrev pub Halts : {I : Type 0} → ReaderView I → Device ℕ → InFault → Type 0
Halts old after (Format fault) = Refuses old after fault ⊎ RunsOut old after fault
Halts old after Read = Breaks old after × Rose old.source after
Halts old after NoMemory = Lacks old after

-- the reading stopped so
abbrev pub Closes : {I : Type 0} → ReaderView I → Device ℕ → Stop → Type 0
Closes old after Whole = Completes old after
Closes old after (Refused fault) = Refuses old after fault ⊎ RunsOut old after fault
Closes old after Broken = Breaks old after × Rose old.source after
Closes old after Lacking = Lacks old after

-- items came, and then the reading stopped so
pub record ClosesBehind {I : Type 0} (old : ReaderView I) (after : Device ℕ) (items : List I) (stop : Stop) : Type 0 where
  pub between : ReaderView I
  pub gives : Gives old between items
  pub later : IsLater old.source between.source
  pub closes : Closes between after stop

-- a reader over its source, and how the reading stopped, if it has
pub record Standing (I : Type 0) : Type 0 where
  pub reader : ReaderView I
  pub stop : Option Stop

-- from the one moment to the other these items came; where the reading has stopped none comes, and nothing is read
abbrev pub ReadsBy : {I : Type 0} → Option Stop → Option Stop → ReaderView I → ReaderView I → List I → Type 0
ReadsBy None None old new items = Gives old new items
ReadsBy None (Some stop) old new items = ClosesBehind old new.source items stop
ReadsBy (Some stop) None old new items = ⊥
ReadsBy (Some stop) (Some other) old new items = (stop ≡ other) × (items ≡ []) × (old.source ≡ new.source)

-- the same of a standing and a later one
abbrev pub ReadsOn : {I : Type 0} → Standing I → Standing I → List I → Type 0
ReadsOn old new items = ReadsBy old.stop new.stop old.reader new.reader items

-- the head that came last, and how many came
pub record Begun (H : Type 0) : Type 0 where
  pub head : H
  pub frames : ℕ

-- this head came last, of this number of heads
abbrev pub begun : {H : Type 0} → H → ℕ → Begun H
begun head frames = record { head = head; frames = frames }

-- these jobs came, behind the heads of frames that began
pub record Finds {H : Type 0} (old new : Standing (Item H)) (before after : Begun H) (came : List (Headed H)) : Type 0 where
  pub items : List (Item H)
  pub reads : ReadsOn old new items
  pub jobs : headed before.head items ≡ came
  pub head : after.head ≡ last_head before.head items
  pub frames : after.frames ≡ before.frames + frames_of items
  pub later : IsLater old.reader.source new.reader.source
