use Rattle.std.proofs.Common.{ap, refl, sym}
use Rattle.ht_feed.specs.Consumers.{telling_of}
use Rattle.ht_feed.specs.Feeding.{names}
use Rattle.ht_feed.proofs.Leads.{ill, tells_refused, tells_taken, well}
use Rattle.ht_feed.proofs.feeding.InFlightFeedBlockFeed.take.Goals as goal

pub returns-in-Ok-clause-leads : goal.returns-in-Ok-clause-leads
returns-in-Ok-clause-leads g c =
    let r = g.R.BlockReader in
    let told = telling_of g.A.Consumer.shown g.A.Consumer.pieces g.A.Consumer.waits in
    let f = c.args.self.now in
    let e = c.in-Ok.ensures in (
      ap (names _ _ _ _) (sym c.take.ensures.books.faults.same),
      well _ _ _ _ c.in_default.is refl
          (tells_taken r.means r.at (g.D.KeepsInFlight.seen f.in_flight.now) _ _ (told f.consumer.now) (told c.take.new.consumer) e.due e.books e.waits),
    )

pub returns-in-Err-clause-leads : goal.returns-in-Err-clause-leads
returns-in-Err-clause-leads g c =
    let r = g.R.BlockReader in
    let e = c.in-Err.ensures in (
      ap (names _ _ _ _) (sym c.take.ensures.books.faults.same),
      ill _ _ _ _ c.in_default.is (tells_refused r.means r.at _ _ _ _ _ _ e.stays e.books),
    )
