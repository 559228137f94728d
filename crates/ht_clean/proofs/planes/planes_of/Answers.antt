use Rattle.ht_clean.proofs.Gathering.{planes-are}
use Rattle.ht_clean.proofs.planes.planes_of.Goals as goal

pub returns : goal.returns
returns c =
    planes-are c.args.pattern c.layout_of-layout.result.now c.args.word c.drawn.result c.drawn-2.result c.gathered.result c.gathered-2.result
    c.layout_of-layout.ensures c.drawn.ensures c.gathered.ensures c.drawn-2.ensures c.gathered-2.ensures
