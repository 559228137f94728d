use Rattle.std.proofs.Common.{false, length, refl, true}
use Rattle.ht_soft.specs.Halves.{axis_named}
use Rattle.ht_soft.proofs.Tables.{entry}
use Rattle.ht_soft.proofs.halves.mask.Goals as goal

pub returns-then-value-clause-value : goal.returns-then-value-clause-value
returns-then-value-clause-value c =
    (entry true c.args.value c.args.count c.args.k c.from.result c.from-2.result (length (axis_named c.args.count))
    c.if-value.true c.requires.few c.requires.bit c.from.ensures c.from-2.ensures refl).value_is

pub returns-then-value-clause-within : goal.returns-then-value-clause-within
returns-then-value-clause-within c =
    (entry true c.args.value c.args.count c.args.k c.from.result c.from-2.result (length (axis_named c.args.count))
    c.if-value.true c.requires.few c.requires.bit c.from.ensures c.from-2.ensures refl).within

pub returns-else-value-clause-value : goal.returns-else-value-clause-value
returns-else-value-clause-value c =
    (entry false c.args.value c.args.count c.args.k c.from.result c.from-2.result c.levels.result c.if-value.false c.requires.few c.requires.bit
    c.from.ensures c.from-2.ensures c.levels.ensures.value).value_is
