use Rattle.std.proofs.Common.{arith}
use Rattle.ht_library.proofs.Answered.{summed-more, summed-whole}
use Rattle.ht_library.proofs.symbols.add_distance.Goals as goal

pub returns-then-under_way-each-clause-more : goal.returns-then-under_way-each-clause-more
returns-then-under_way-each-clause-more c = λ found at here are.
    summed-more found at c.args.each c.args.distance c.args.under_way.now c.args.sums.now here c.requires.below c.if-under_way-each.true are

pub returns-clause-more : goal.returns-clause-more
returns-clause-more c = λ found at here are.
    summed-whole found at c.args.each c.args.distance c.args.under_way.now c.args.sums.now c.put_sum.new.sums here (omega (arith, c.if-under_way-each.false))
    c.put_sum.ensures.length c.put_sum.ensures.sum c.put_sum.ensures.others are
