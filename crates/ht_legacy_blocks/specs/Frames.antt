-- A capture of clause 18 frames as heads and jobs. Frames and jobs are numbered from 0 over the capture.
use Rattle.std.specs.Prelude.{ℕ, ◌+◌, ◌*◌, List, [], ◌∷◌, ◌++◌, length, map, replicate, nat_eq, Bool}
use Rattle.std.specs.List.{filter}
use Rattle.ht_fields.specs.Meanings.{Meaning}
use Rattle.ht_metric.specs.declared.sample.Sample.{Sample}
use Rattle.ht_metric.specs.Jobs.{JobView}
use Rattle.ht_clause18.specs.declared.rates.LegacyRate.TheVariants.{Mbit6}
use Rattle.ht_clause18.specs.Carriers.{carriers}
use Rattle.ht_clause18.specs.Rates.{symbols_of}
use Rattle.ht_feed.specs.Items.{Item, Begins, One}
use Rattle.ht_legacy_files.specs.CaptureItems.{LegacyHead, LegacyItem, Begins as BeginsFrame, Symbol}
use Rattle.ht_legacy_blocks.specs.declared.head.LegacyFrameHead.{LegacyFrameHead}
use Rattle.ht_legacy_blocks.specs.Jobs.{SymbolView, jobs_of}

-- the head of the frame of this number
abbrev pub head_of : ℕ → LegacyHead → LegacyFrameHead
head_of frame h = record { frame = frame; rate = h.rate; length = h.length }

-- where in a capture the next item comes: how many frames began, the head and the diagonals of the last of them, how many
-- of its symbols came, and how many jobs came
pub record Course : Type 0 where
  pub frames : ℕ
  pub head : LegacyFrameHead
  pub diagonals : List ℕ
  pub symbol : ℕ
  pub number : ℕ

-- in front of the first frame; no symbol comes before a head, so any head stands for the last one
abbrev pub no_head : LegacyFrameHead
no_head = record { frame = 0; rate = Mbit6; length = 1 }

abbrev pub at_first : Course
at_first = record { frames = 0; head = no_head; diagonals = replicate carriers 0; symbol = 0; number = 0 }

abbrev pub behind_head : Course → LegacyHead → Course
behind_head c h =
    record { frames = c.frames + 1; head = head_of c.frames h; diagonals = h.diagonals; symbol = 0; number = c.number }

abbrev pub behind_symbol : Course → Course
behind_symbol c =
    record { frames = c.frames; head = c.head; diagonals = c.diagonals; symbol = c.symbol + 1; number = c.number + carriers }

-- the symbol of these samples
abbrev pub symbol_at : Course → List Sample → SymbolView
symbol_at c samples = record { head = c.head; diagonals = c.diagonals; symbol = c.symbol; number = c.number; samples = samples }

-- the heads and the jobs of items that come there
abbrev pub given_from : Course → List LegacyItem → List (Item LegacyFrameHead)
given_from c [] = []
given_from c (BeginsFrame h ∷ items) = Begins (head_of c.frames h) ∷ given_from (behind_head c h) items
given_from c (Symbol samples ∷ items) = map One (jobs_of (symbol_at c samples)) ++ given_from (behind_symbol c) items

abbrev pub mapped_from : Course → Meaning LegacyItem → Meaning (Item LegacyFrameHead)
mapped_from c m = record { items = given_from c m.items; fault = m.fault }

-- what octets of a capture mean, as heads and jobs
abbrev pub mapped : Meaning LegacyItem → Meaning (Item LegacyFrameHead)
mapped m = mapped_from at_first m

-- a frame as heads and jobs show it: its head, and the jobs up to the next head
pub record LegacyFrameJobs : Type 0 where
  pub head : LegacyFrameHead
  pub jobs : List JobView

-- the jobs in front of the next head
abbrev pub jobs_first : List (Item LegacyFrameHead) → List JobView
jobs_first [] = []
jobs_first (Begins head ∷ items) = []
jobs_first (One job ∷ items) = job ∷ jobs_first items

-- each head with its jobs
abbrev pub frames_in : List (Item LegacyFrameHead) → List LegacyFrameJobs
frames_in [] = []
frames_in (Begins head ∷ items) = record { head = head; jobs = jobs_first items } ∷ frames_in items
frames_in (One job ∷ items) = frames_in items

-- the number of a frame's symbols
abbrev pub symbols_in : LegacyFrameHead → ℕ
symbols_in head = symbols_of head.rate head.length

-- whether a frame has as many jobs as all its symbols have
abbrev pub has_all_jobs : LegacyFrameJobs → Bool
has_all_jobs f = nat_eq (length f.jobs) (symbols_in f.head * carriers)

-- the frames whose jobs all stand among the items
abbrev pub whole_frames : List (Item LegacyFrameHead) → List LegacyFrameJobs
whole_frames items = filter has_all_jobs (frames_in items)
