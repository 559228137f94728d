use Rattle.std.proofs.Common.{slice_get, ap, ◌∙◌}
use Rattle.ht_feed.specs.InFlights.{InFlightView}
use Rattle.ht_feed.proofs.Taking.{books_of, first_get, first_of}
use Rattle.ht_feed.proofs.in_flight.InFlightKeepsInFlight.take.Goals as goal

pub take-requires-clause-first : goal.take-requires-clause-first
take-requires-clause-first g c =
    ap (λ (d : InFlightView g.row.R.Denot g.row.R-Head.Denot). slice_get d.due 0) c.self.view_is
    ∙ first_get _ _ (first_of _ _ _ c.head.result.now _ c.self.view_is c.in-Some.ensures c.head.ensures c.requires.first)

pub returns-in-Ok-clause-books : goal.returns-in-Ok-clause-books
returns-in-Ok-clause-books g c =
    books_of _ _ (first_of _ _ _ c.head.result.now _ c.self.view_is c.in-Some.ensures c.head.ensures c.requires.first) c.in-Ok.ensures.books

pub returns-in-Err-clause-books : goal.returns-in-Err-clause-books
returns-in-Err-clause-books g c =
    books_of _ _ (first_of _ _ _ c.head.result.now _ c.self.view_is c.in-Some.ensures c.head.ensures c.requires.first) c.in-Err.ensures.books
