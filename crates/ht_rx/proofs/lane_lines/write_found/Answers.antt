use Rattle.std.proofs.Common.{arith, rules}
use Rattle.std.proofs.lemmas.Fmt.{length-decimal-le}
use Rattle.ht_rx.proofs.lane_lines.write_found.Goals as goal

pub write_digits-at-requires : goal.write_digits-at-requires
write_digits-at-requires c = (omega (arith, length-decimal-le 10 c.from.result (omega arith) (omega arith) (omega arith)), search rules)

pub write-at-requires-clause-room : goal.write-at-requires-clause-room
write-at-requires-clause-room c = omega (arith, length-decimal-le 10 c.from.result (omega arith) (omega arith) (omega arith))

pub write-requires-clause-room : goal.write-requires-clause-room
write-requires-clause-room c = omega (arith, length-decimal-le 10 c.from.result (omega arith) (omega arith) (omega arith))

pub returns-clause-start : goal.returns-clause-start
returns-clause-start c = (omega arith, omega (arith, length-decimal-le 10 c.from.result (omega arith) (omega arith) (omega arith)))
