use Rattle.std.proofs.Common.{ap, rules}
use Rattle.ht_rx.proofs.Blocks.{lacks}
use Rattle.ht_rx.proofs.BlockListing.{listed}
use Rattle.ht_rx.proofs.listing.list_jobs_alone.Goals as goal

pub returns-in_err-reader : goal.returns-in_err-reader
returns-in_err-reader g c = lacks c.from_residual.ensures.0 c.from_residual.ensures.1

pub returns-in_err-work : goal.returns-in_err-work
returns-in_err-work g c = lacks c.from_residual-in_err-work.ensures.0 c.from_residual-in_err-work.ensures.1

pub returns : goal.returns
returns g c =
    search (rules, listed c.tell_alone.ensures (ap g.K.Sink.shown c.new-lister.ensures.sink) c.in_ok-reader.ensures.means c.in_ok-reader.ensures.at)
