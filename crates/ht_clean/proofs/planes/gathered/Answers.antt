use Rattle.ht_clean.proofs.Flags.{traced-flags}
use Rattle.ht_clean.proofs.planes.gathered.Goals as goal

pub returns : goal.returns
returns c = λ place origin is.
    traced-flags c.args.layout.now c.args.bits c.drawn-by_one.result c.drawn-by_two.result c.drawn-by_four.result c.drawn-by_eight.result c.drawn.result
    place origin c.drawn-by_one.ensures c.drawn-by_two.ensures c.drawn-by_four.ensures c.drawn-by_eight.ensures c.drawn.ensures is
