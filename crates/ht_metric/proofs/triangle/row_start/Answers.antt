use Rattle.ht_metric.proofs.RowLemmas.{starts}
use Rattle.ht_metric.proofs.triangle.row_start.Goals as goal

pub returns : goal.returns
returns c = rw (c.from.ensures, c.from-2.ensures, c.from-above.ensures) (starts c.args.streams c.args.k c.requires.few c.requires.first c.requires.last)
