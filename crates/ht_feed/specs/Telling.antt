-- What an in-flight reader between a source and a consumer does: what was read, which hits were taken, and what was put of them.
use Rattle.std.specs.Prelude.{◌≡◌, ℕ, ◌+◌, List, [], ◌++◌, Option, None, Some, is_some, true, length, Result, Err, OnOk}
use Rattle.ht_io.specs.Devices.{Device, Grows, Rose, IsLater}
use Rattle.ht_fields.specs.Meanings.{Meaning}
use Rattle.ht_feed.specs.declared.book_fault.BookFault.{BookFault}
use Rattle.ht_feed.specs.declared.book_fault.BookFault.TheVariants.{Failed, NoMemory}
use Rattle.ht_feed.specs.declared.drive.DriveFault.{DriveFault}
use Rattle.ht_feed.specs.declared.drive.DriveFault.TheVariants.{Feed, NoMemory as DriveMemory, Work}
use Rattle.ht_feed.specs.Items.{Item, Headed, headed, last_head, frames_of, jobs_of}
use Rattle.ht_feed.specs.Dues.{all_due, jobs_in}
use Rattle.ht_feed.specs.Reading.{Standing, ReadsOn}
use Rattle.ht_feed.specs.Consumers.{PutsFirst, PutsPartOf, Telling}
use Rattle.ht_feed.specs.InFlights.{InFlightView, standing}

-- what is seen of an in-flight reader between its devices: where its reader stands, the head that came last and how many came, the
-- jobs that are due and how many were given, and its consumer
pub record Seen (H P : Type 0) : Type 1 where
  pub standing : Standing (Item H)
  pub head : H
  pub frames : ℕ
  pub due : List (Headed H)
  pub count : ℕ
  pub consumer : Telling H P

abbrev pub seen_by : {R H P : Type 0} → (R → List ℕ → Meaning (Item H)) → (R → ℕ) → InFlightView R H → Device ℕ → Telling H P → Seen H P
seen_by means at in_flight source consumer = record {
  standing = standing means at in_flight.reader in_flight.stop source;
  head = in_flight.head;
  frames = in_flight.frames;
  due = all_due in_flight.due;
  count = in_flight.count;
  consumer = consumer;
}

module _ {H P : Type 0} where
  -- items were read, hits of jobs were taken in order, and of the pieces of those jobs the first were put; the
  -- consumer's device never failed
  pub record Tells (old new : Seen H P) : Type 0 where
    pub items : List (Item H)
    pub answered : List (Headed H)
    pub put : List P
    pub reads : ReadsOn old.standing new.standing items
    pub head : new.head ≡ last_head old.head items
    pub jobs : old.due ++ headed old.head items ≡ answered ++ new.due
    pub first : PutsFirst old.consumer.pieces new.consumer.pieces answered put
    pub grows : Grows old.consumer.device new.consumer.device put
    pub waits : old.consumer.Waits old.due → new.consumer.Waits new.due
    pub steady : new.consumer.device.faults ≡ old.consumer.device.faults
    pub frames : new.frames ≡ old.frames + frames_of items
    pub count : new.count ≡ old.count + length (jobs_of items)
    pub reads_later : IsLater old.standing.reader.source new.standing.reader.source
    pub puts_later : IsLater old.consumer.device new.consumer.device

  -- items were read, and a part of the pieces of some of their jobs was put; the consumer's device has counted it
  -- exactly where it failed
  pub record TellsPart (old new : Seen H P) (fault : BookFault) : Type 0 where
    pub items : List (Item H)
    pub answered : List (Headed H)
    pub rest : List (Headed H)
    pub reads : ReadsOn old.standing new.standing items
    pub jobs : old.due ++ headed old.head items ≡ answered ++ rest
    pub part : PutsPartOf old.consumer.device new.consumer.device old.consumer.pieces answered
    pub reads_later : IsLater old.standing.reader.source new.standing.reader.source
    pub puts_later : IsLater old.consumer.device new.consumer.device
    pub cause : fault ≡ Failed → Rose old.consumer.device new.consumer.device
    pub steady : fault ≡ NoMemory → new.consumer.device.faults ≡ old.consumer.device.faults

  -- nothing was read or put
  pub record RestsThen (old new : Seen H P) : Type 0 where
    pub standing : old.standing ≡ new.standing
    pub device : old.consumer.device ≡ new.consumer.device

  -- what was done by calls of which none failed, or one and then all; behind a failure nothing is done
  abbrev pub TellsBy : Option BookFault → Option BookFault → Seen H P → Seen H P → Type 0
  TellsBy None None old new = Tells old new
  TellsBy None (Some fault) old new = TellsPart old new fault
  TellsBy (Some fault) None old new = ⊥
  TellsBy (Some fault) (Some other) old new = (fault ≡ other) × RestsThen old new

-- What running the blocks of an in-flight reader does: what is seen of the in-flight reader between its devices, before and after; the in-flight reader
-- afterwards; the fault of the call that failed, of the in-flight reader or of its consumer, if one did, before and after; and the drive's answer.
pub record RunsInFlight {R H P T : Type 0} (before after : Seen H P) (in_flight : InFlightView R H) (failed failed' : Option BookFault)
    (driven : Result T (DriveFault BookFault)) : Type 0 where
  -- what was read and put
  pub tells : TellsBy failed failed' before after
  -- where all went well, the reading has stopped
  pub ended : OnOk driven (is_some in_flight.stop ≡ true)
  -- the answer to each block was taken
  pub none_due : OnOk driven (jobs_in in_flight.due ≡ [])
  -- and no call failed
  pub well : OnOk driven (failed' ≡ None)
  -- a fault is what a call failed with
  pub fault : (fault : BookFault) → driven ≡ Err (Feed fault) → failed' ≡ Some fault
  -- and where there was no memory, for the drive or for a block, no call failed
  pub memory : driven ≡ Err DriveMemory → failed' ≡ None
  pub work : driven ≡ Err Work → failed' ≡ None
