use Rattle.ht_rx.proofs.BlockBooking.{received}
use Rattle.ht_rx.proofs.Blocks.{lacks}
use Rattle.ht_rx.proofs.receiving.receive.Goals as goal

pub returns-in_err-reader-clause-receives : goal.returns-in_err-reader-clause-receives
returns-in_err-reader-clause-receives g c = lacks c.from_residual.ensures.0 c.from_residual.ensures.1

pub returns-clause-receives : goal.returns-clause-receives
returns-clause-receives g c =
    received g.B.Book.booked c.new-under_way.result c.receive.ensures c.in_ok-reader.ensures.means c.in_ok-reader.ensures.at c.new-under_way.ensures
