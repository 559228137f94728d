-- What is seen of an in-flight reader, and what its calls do.
use Rattle.std.specs.Prelude.{◌≡◌, ℕ, ◌+◌, ◌-◌, ◌^◌, ◌<◌, ◌≤◌, List, [], ◌∷◌, ◌++◌, length, Option, None, is_some, true}
use Rattle.ht_io.specs.Devices.{Device}
use Rattle.ht_fields.specs.Meanings.{Meaning}
use Rattle.ht_metric.specs.Jobs.{JobView}
use Rattle.ht_feed.specs.declared.stop.Stop.{Stop}
use Rattle.ht_feed.specs.declared.book_fault.BookFault.{BookFault}
use Rattle.ht_feed.specs.Items.{Item, Headed, Numbered}
use Rattle.ht_feed.specs.Dues.{Due, NoneEmpty, all_due, due_of, jobs_in}
use Rattle.ht_feed.specs.Reading.{Counts, Finds, Standing, begun, view}
use Rattle.ht_feed.specs.Feeds.{FeedView}

-- its reader and how the reading stopped, if it has; the head that came last and how many came; the blocks that are
-- due, and how many jobs were given
pub record InFlightView (R H : Type 0) : Type 0 where
  pub reader : R
  pub stop : Option Stop
  pub head : H
  pub frames : ℕ
  pub due : List (Due H)
  pub count : ℕ

abbrev pub in_flight_view : {R H : Type 0} → R → Option Stop → H → ℕ → List (Due H) → ℕ → InFlightView R H
in_flight_view reader stop head frames due count =
    record { reader = reader; stop = stop; head = head; frames = frames; due = due; count = count }

-- readers of R count so
module _ {R H : Type 0} (counts : R → Counts) where
  -- while the reading goes on, the reader can be asked and its jobs were all given; no count passes the end of its type
  pub record IsSoundInFlight (in_flight : InFlightView R H) : Type 0 where
    pub going : in_flight.stop ≡ None → (counts in_flight.reader).going ≡ true
    pub given : in_flight.stop ≡ None → (counts in_flight.reader).given ≡ in_flight.count
    pub bound : in_flight.count + in_flight.frames + (counts in_flight.reader).more < 2 ^ 64 - 1
    pub full : NoneEmpty (jobs_in in_flight.due)

  -- the in-flight reader as a feed, of which a call failed so, if one has; it doesn't know which jobs still come
  abbrev pub feed_view : InFlightView R H → Option BookFault → FeedView BookFault
  feed_view in_flight failed = record {
    count = in_flight.count;
    due = jobs_in in_flight.due;
    left = None;
    more = (counts in_flight.reader).more;
    ended = is_some in_flight.stop;
    failed = failed;
  }

  -- A block of these jobs was given, at least one and at most this number: it is due behind the others, under the head
  -- that came last.
  pub record AddsBlock (most : ℕ) (old new : InFlightView R H) (jobs : List JobView) : Type 0 where
    pub due : new.due ≡ old.due ++ due_of new.head jobs ∷ []
    pub numbers : Numbered old.count jobs
    pub count : new.count ≡ old.count + length jobs
    pub some : 1 ≤ length jobs
    pub few : length jobs ≤ most
    pub fewer : (counts new.reader).more + length jobs ≤ (counts old.reader).more
    pub going : new.stop ≡ None

-- the reading stopped, and no block was given
pub record AddsNone {R H : Type 0} (old new : InFlightView R H) : Type 0 where
  pub stopped : is_some new.stop ≡ true
  pub due : new.due ≡ old.due
  pub count : new.count ≡ old.count

-- what the readers of R still mean, and how many octets they read
module _ {R H : Type 0} (means : R → List ℕ → Meaning (Item H)) (at : R → ℕ) where
  abbrev pub standing : R → Option Stop → Device ℕ → Standing (Item H)
  standing reader stop source = record { reader = view means at reader source; stop = stop }

  -- jobs were found behind heads, and are due
  pub record ReadsMore (old new : InFlightView R H) (source source' : Device ℕ) : Type 0 where
    pub came : List (Headed H)
    pub finds : Finds (standing old.reader old.stop source) (standing new.reader new.stop source')
        (begun old.head old.frames) (begun new.head new.frames) came
    pub due : all_due new.due ≡ all_due old.due ++ came
    pub count : new.count ≡ old.count + length came
