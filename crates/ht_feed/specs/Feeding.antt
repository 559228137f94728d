-- A feed over its in-flight reader, its source and its consumer.
use Rattle.std.specs.Prelude.{◌≡◌, ℕ, List}
use Rattle.std.proofs.Common.{refl, ◌∙◌}
use Rattle.ht_io.specs.Devices.{Device}
use Rattle.ht_fields.specs.Meanings.{Meaning}
use Rattle.ht_feed.specs.declared.in_flight_feed.InFlightFeed.{InFlightFeed}
use Rattle.ht_feed.specs.declared.book_fault.BookFault.{BookFault}
use Rattle.ht_feed.specs.Items.{Item}
use Rattle.ht_feed.specs.Consumers.{Telling}
use Rattle.ht_feed.specs.InFlights.{InFlightView, feed_view}
use Rattle.ht_feed.specs.Feeds.{FeedView}
use Rattle.ht_feed.specs.Reading.{Counts}
use Rattle.ht_feed.specs.Telling.{Seen, TellsBy, seen_by}
use Rattle.ht_feed.specs.Leading.{tells_by-none, tells_by-on}

-- which borrows its in-flight reader, its source, its consumer and its failure are, and which lead to its consumer's device
pub record Names : Type 0 where
  pub in_flight : ℕ
  pub source : ℕ
  pub consumer : ℕ
  pub failed : ℕ
  pub device : List ℕ

abbrev pub names : ℕ → ℕ → ℕ → ℕ → List ℕ → Names
names in_flight source consumer failed device = record { in_flight = in_flight; source = source; consumer = consumer; failed = failed; device = device }

module _ {R D S A : Type 0} where
  abbrev pub names_of : (A → List ℕ) → InFlightFeed R D S A → Names
  names_of lent f = names f.in_flight.ghost_name f.source.ghost_name f.consumer.ghost_name f.failed.ghost_name (lent f.consumer.now)

  -- this is seen of an in-flight reader of D, whose reader counts so
  abbrev pub feed_of : {H : Type 0} → (D → InFlightView R H) → (R → Counts) → InFlightFeed R D S A → FeedView BookFault
  feed_of seen counts f = feed_view counts (seen f.in_flight.now) f.failed.now

-- this is seen of an in-flight reader of D, and its reader of R means this; a source of S shows these devices, and a consumer of A
-- tells this, to whose device these borrows lead
module _ {R D S A H P : Type 0} (seen : D → InFlightView R H) (means : R → List ℕ → Meaning (Item H)) (at : R → ℕ) (source : S → Device ℕ) (lent : A → List ℕ)
    (telling : A → Telling H P) where
  abbrev pub seen_of : InFlightFeed R D S A → Seen H P
  seen_of f = seen_by means at (seen f.in_flight.now) (source f.source.now) (telling f.consumer.now)

  -- it has the same in-flight reader, source and consumer, and went on
  abbrev pub FeedsOn : InFlightFeed R D S A → InFlightFeed R D S A → Type 0
  FeedsOn a b = (names_of lent a ≡ names_of lent b) × TellsBy a.failed.now b.failed.now (seen_of a) (seen_of b)

  pub feeds_on-none : (a : InFlightFeed R D S A) → FeedsOn a a
  feeds_on-none a = (refl, tells_by-none a.failed.now (seen_of a))

  pub feeds_on-more : (a b c : InFlightFeed R D S A) → FeedsOn a b → FeedsOn b c → FeedsOn a c
  feeds_on-more a b c first later =
      (first.0 ∙ later.0, tells_by-on a.failed.now b.failed.now c.failed.now (seen_of a) (seen_of b) (seen_of c) first.1 later.1)
