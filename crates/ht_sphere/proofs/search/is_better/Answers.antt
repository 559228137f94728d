use Rattle.ht_sphere.proofs.Bests.{less_is_before, tied}
use Rattle.ht_sphere.proofs.search.is_better.Goals as goal

pub returns-then-near-far-2 : goal.returns-then-near-far-2
returns-then-near-far-2 c =
    tied c.args.near c.args.far c.args.left.now c.args.right.now c.lt.result c.if-near-far-2.true
    (less_is_before c.args.left.now c.args.right.now c.lt.result c.lt.ensures)
