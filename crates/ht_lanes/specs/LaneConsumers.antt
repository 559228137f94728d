-- What a call of a consumer leaves.
use Rattle.std.specs.Prelude.{◌≡◌, List, [], drop, take, Result, OnErr, OnOk}
use Rattle.ht_io.specs.Devices.{Device}
use Rattle.ht_feed.specs.declared.book_fault.BookFault.{BookFault}
use Rattle.ht_feed.specs.Consumers.{BooksJobs}
use Rattle.ht_feed.specs.InFlights.{InFlightView}
use Rattle.ht_feed.specs.Dues.{all_due}
use Rattle.ht_feed.specs.Items.{Headed}

-- A call answered this that takes the answer to the first block due of an in-flight reader: the in-flight reader, the device behind the call and what is put
-- in all, before and after.
pub record BooksFirstDue {A R H P : Type 0} (result : Result A BookFault) (in_flight in_flight' : InFlightView R H) (before after : Device P)
    (old new : List (Headed H) → List P) : Type 0 where
  -- a consumer holds no borrow that leads to the device
  pub books : BooksJobs result before after old new (all_due (take 1 in_flight.due)) [] []
  -- the block is due no longer; where the call refuses, the in-flight reader stays as it was
  pub due : OnOk result (in_flight' ≡ record in_flight { due = drop 1 in_flight.due })
  pub stays : OnErr result (in_flight' ≡ in_flight)
