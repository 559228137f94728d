use Rattle.std.proofs.Common.{arith, rules}
use Rattle.std.proofs.lemmas.Fmt.{decimal_digit, length-decimal-le}
use Rattle.ht_rx.proofs.pieces.write_size.Goals as goal

pub write_digits-requires : goal.write_digits-requires
write_digits-requires c = (omega (arith, length-decimal-le 3 c.from.result (omega arith) (omega arith) (omega arith)), search rules)

pub returns-then-size-gt9-clause-start : goal.returns-then-size-gt9-clause-start
returns-then-size-gt9-clause-start c = (omega arith, omega (arith, length-decimal-le 3 c.from.result (omega arith) (omega arith) (omega arith)))

pub returns-clause-written : goal.returns-clause-written
returns-clause-written c = rw (decimal_digit c.args.size (omega arith)) (c.write_octet.ensures.written)
