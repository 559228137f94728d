use Rattle.std.proofs.Common.{arith, rules}
use Rattle.std.proofs.lemmas.Fmt.{length-decimal-le}
use Rattle.ht_rx.proofs.pieces.write_distance.Goals as goal

pub write_digits-requires : goal.write_digits-requires
write_digits-requires c = (omega (arith, length-decimal-le 20 c.args.distance (omega arith) (omega arith) (omega arith)), search rules)

pub returns-clause-start : goal.returns-clause-start
returns-clause-start c = (omega arith, omega (arith, length-decimal-le 20 c.args.distance (omega arith) (omega arith) (omega arith)))
