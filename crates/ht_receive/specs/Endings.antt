-- What the end of a run over blocks puts, and what such a run comes to.
use Rattle.std.specs.Prelude.{◌≡◌, ◌≢◌, ◌⊎◌, ℕ, List, Result, Ok, Err}
use Rattle.ht_io.specs.Devices.{Device, Grows, GrowsByPart, IsLater, Rose}
use Rattle.ht_fields.specs.Grammar.{Grammar}
use Rattle.ht_fields.specs.Meanings.{Meaning, meaning}
use Rattle.ht_text.specs.Lines.{end_text}
use Rattle.ht_runs.specs.Formats.{IsLined}
use Rattle.ht_runs.specs.Streamed.{line_of_fault}
use Rattle.ht_runs.specs.declared.faults.RunFault.{RunFault}
use Rattle.ht_runs.specs.declared.faults.RunFault.TheVariants.{Format, Read, Write, NoMemory}
use Rattle.ht_feed.specs.declared.ended.Ended.{Ended}
use Rattle.ht_feed.specs.Items.{Headed, Item, frames_of, headed}

-- This text was put, and the answer is the one for that; or a part of it, by a sink that failed; or nothing, without memory for
-- it. Each has an answer of its own, of whatever type.
abbrev pub PutsText : {A : Type 0} → A → A → A → List ℕ → Device ℕ → Device ℕ → A → Type 0
PutsText whole failed lacking text sink sink' answer =
    ((answer ≡ whole) × Grows sink sink' text)
    ⊎ ((answer ≡ failed) × GrowsByPart sink sink' text × Rose sink sink')
    ⊎ ((answer ≡ lacking) × (sink' ≡ sink))

-- The last line was put behind the lines of an input whose run ended so: `end N frames` of a whole one, or the line of its first
-- fault. Where a device failed or memory ran out nothing was.
abbrev pub PutsLast : Result Ended RunFault → Device ℕ → Device ℕ → Result ℕ RunFault → Type 0
PutsLast (Ok ended) sink sink' result = PutsText (Ok ended.frames) (Err Write) (Err NoMemory) (end_text ended.frames) sink sink' result
PutsLast (Err (Format fault)) sink sink' result = PutsText (Err (Format fault)) (Err Write) (Err NoMemory) (line_of_fault fault) sink sink' result
PutsLast (Err Read) sink sink' result = (result ≡ Err Read) × (sink' ≡ sink)
PutsLast (Err Write) sink sink' result = (result ≡ Err Write) × (sink' ≡ sink)
PutsLast (Err NoMemory) sink sink' result = (result ≡ Err NoMemory) × (sink' ≡ sink)

-- the end line was put behind the lines of a whole input; where these are not the lines of a whole one nothing was
abbrev pub PutsEnd : Result Ended RunFault → Device ℕ → Device ℕ → Result ℕ RunFault → Type 0
PutsEnd (Ok ended) sink sink' result = PutsLast (Ok ended) sink sink' result
PutsEnd (Err fault) sink sink' result = (result ≡ Err fault) × (sink' ≡ sink)

-- what the end line behind lines comes to, by how their run ended: the sink before and after, and the answer
pub record EndsLines (ended : Result Ended RunFault) (sink sink' : Device ℕ) (result : Result ℕ RunFault) : Type 0 where
  -- the end line of a whole input was put, and nothing behind other lines
  pub puts : PutsEnd ended sink sink' result
  -- where the sink failed the answer is `Write`, whatever else failed
  pub writes : result ≢ Err Write → sink'.faults ≡ sink.faults
  -- so it is where the sink had failed before
  pub failed : ended ≡ Err Write → result ≡ Err Write
  -- the sink is the same, and takes back no fault
  pub later : IsLater sink sink'

-- what octets mean to a reader of blocks that sees the items of a format so
abbrev pub seen_as : {I H : Type 0} → (List I → List (Item H)) → Meaning I → Meaning (Item H)
seen_as items_as m = record { items = items_as m.items; fault = m.fault }

module _ {S I H : Type 0} (f : Grammar S I) (items_as : List I → List (Item H)) where
  -- the line that ends the lines of a file with these items
  abbrev pub end_as : List I → List ℕ
  end_as items = end_text (frames_of (items_as items))

  -- a file of the format has this number of frames
  abbrev pub MeansFrames : ℕ → List ℕ → Type 0
  MeansFrames frames octets = frames ≡ frames_of (items_as (meaning f f.start 0 octets).items)

  -- The text and the lines of octets, where a consumer puts these pieces of the jobs that the reader sees, behind a head
  -- that stands for the one that came last.
  pub record IsTold (head : H) (pieces : List (Headed H) → List ℕ) (text lines : List ℕ → List ℕ) : Type 0 where
    pub lined : IsLined f text lines end_as
    pub are : (octets : List ℕ) → pieces (headed head (items_as (meaning f f.start 0 octets).items)) ≡ lines octets
