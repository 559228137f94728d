-- What it comes to that an input is read and its hits are taken: what was taken from the source, and what was put.
use Rattle.std.specs.Prelude.{◌≡◌, ◌⊎◌, ℕ, ◌+◌, List, length, None, Some, IfSome, Result, MatchResult}
use Rattle.ht_io.specs.Devices.{Device, Takes, TakesAll, Grows, GrowsByPart, Rose}
use Rattle.ht_io.specs.declared.faults.FormatFault.{FormatFault}
use Rattle.ht_io.specs.declared.faults.Kind.TheVariants.{Truncated}
use Rattle.ht_fields.specs.Readers.{ReaderView, EndsAt, IsEarly}
use Rattle.ht_runs.specs.declared.faults.RunFault.{RunFault}
use Rattle.ht_runs.specs.declared.faults.RunFault.TheVariants.{Format, Read, Write, NoMemory}
use Rattle.ht_feed.specs.declared.ended.Ended.{Ended}
use Rattle.ht_fields.specs.Meanings.{Meaning}
use Rattle.ht_feed.specs.Consumers.{Telling}
use Rattle.ht_feed.specs.Reading.{view}
use Rattle.ht_feed.specs.Items.{Item, Headed, headed, frames_of, jobs_of}

-- what is put in all of a list of octets, by a consumer that puts this of jobs, and a reader that means this
abbrev pub pieces_of : {H P : Type 0} → (List (Headed H) → List P) → H → ReaderView (Item H) → List ℕ → List P
pieces_of pieces head start octets = pieces (headed head (start.means octets).items)

-- the reader in front of an input, over its source; the source after; these pieces are put of a list of octets; and the
-- device that they are put into, before and after
module _ {H P : Type 0} (start : ReaderView (Item H)) (pieces : List ℕ → List P) (source' : Device ℕ) (device device' : Device P) where
  -- all octets that were left are a whole input with this number of frames and of jobs, and its pieces were put
  pub record EndsWhole (ended : Ended) : Type 0 where
    pub taken : List ℕ
    pub octets : TakesAll start.source source' taken
    pub whole : (start.means taken).fault ≡ None
    pub frames_are : ended.frames ≡ frames_of (start.means taken).items
    pub jobs_are : ended.jobs ≡ length (jobs_of (start.means taken).items)
    pub put : Grows device device' (pieces taken)

  -- the octets end with the field at fault, or are too few
  abbrev pub EndsWith : List ℕ → FormatFault → Type 0
  EndsWith taken fault = EndsAt start taken fault ⊎ (fault ≡ record { kind = Truncated; offset = start.at + length taken })

  -- the octets taken end with the first fault; the pieces of what is whole before it were put
  pub record EndsRefused (fault : FormatFault) : Type 0 where
    pub taken : List ℕ
    pub octets : Takes start.source source' taken
    pub refused : (start.means taken).fault ≡ Some fault
    pub ends : EndsWith taken fault
    pub comes : IfSome start.source.known (λ all. start.means all ≡ start.means taken)
    pub put : Grows device device' (pieces taken)

  -- the octets taken before the source failed are a whole input, or the front of one; the pieces of what is whole in
  -- them were put
  pub record EndsBroken : Type 0 where
    pub taken : List ℕ
    pub octets : Takes start.source source' taken
    pub front : IsEarly (start.at + length taken) (start.means taken).fault
    pub put : Grows device device' (pieces taken)

  -- a part of the pieces of what is whole in the octets taken was put
  pub record EndsPartly : Type 0 where
    pub taken : List ℕ
    pub octets : Takes start.source source' taken
    pub put : GrowsByPart device device' (pieces taken)
    pub of_all : IfSome start.source.known (λ all. GrowsByPart device device' (pieces all))

  -- what a run came to that answers with a fault; a failed device has counted it
  abbrev pub StopsAs : RunFault → Type 0
  StopsAs (Format fault) = EndsRefused fault
  StopsAs Read = EndsBroken × Rose start.source source'
  StopsAs Write = EndsPartly × Rose device device'
  StopsAs NoMemory = EndsPartly

-- What a run came to, from a reader that means this and the head that stands for the one that came last: the source and
-- the consumer, before and after, and the answer.
abbrev pub Comes : {R H P : Type 0} → (R → List ℕ → Meaning (Item H)) → (R → ℕ) → R → H → Device ℕ → Device ℕ → Telling H P → Telling H P
    → Result Ended RunFault → Type 0
Comes means at reader head source source' a b result =
    let start = view means at reader source in
    let pieces = pieces_of a.pieces head start in
    MatchResult result (EndsWhole start pieces source' a.device b.device) (StopsAs start pieces source' a.device b.device)
