use Rattle.std.proofs.Common.{arith, rules}
use Rattle.std.proofs.lemmas.Fmt.{length-decimal-le}
use Rattle.ht_rx.proofs.line_start.LineStart.of.Goals as goal

pub write_digits-at-requires : goal.write_digits-at-requires
write_digits-at-requires c = (omega (arith, length-decimal-le 10 c.from.result (omega arith) (omega arith) (omega arith)), omega arith)

pub write_octet-at-requires-clause-room : goal.write_octet-at-requires-clause-room
write_octet-at-requires-clause-room c = omega (arith, length-decimal-le 10 c.from.result (omega arith) (omega arith) (omega arith))

pub write_digits-at-requires-2 : goal.write_digits-at-requires-2
write_digits-at-requires-2 c = (
  omega (
    arith,
    length-decimal-le 10 c.from.result (omega arith) (omega arith) (omega arith),
    length-decimal-le 5 c.from-2.result (omega arith)
        (omega arith) (omega arith),
  ),
  search rules,
)

pub write_octet-at-requires-2-clause-room : goal.write_octet-at-requires-2-clause-room
write_octet-at-requires-2-clause-room c =
    omega (
      arith,
      length-decimal-le 10 c.from.result (omega arith) (omega arith) (omega arith),
      length-decimal-le 5 c.from-2.result (omega arith)
          (omega arith) (omega arith),
    )

pub write_octet-at-requires-3-clause-room : goal.write_octet-at-requires-3-clause-room
write_octet-at-requires-3-clause-room c =
    omega (
      arith,
      length-decimal-le 10 c.from.result (omega arith) (omega arith) (omega arith),
      length-decimal-le 5 c.from-2.result (omega arith)
          (omega arith) (omega arith),
    )

pub write_octet-at-requires-4-clause-room : goal.write_octet-at-requires-4-clause-room
write_octet-at-requires-4-clause-room c =
    omega (
      arith,
      length-decimal-le 10 c.from.result (omega arith) (omega arith) (omega arith),
      length-decimal-le 5 c.from-2.result (omega arith)
          (omega arith) (omega arith),
    )

pub write_octet-start-requires-clause-room : goal.write_octet-start-requires-clause-room
write_octet-start-requires-clause-room c =
    omega (
      arith,
      length-decimal-le 10 c.from.result (omega arith) (omega arith) (omega arith),
      length-decimal-le 5 c.from-2.result (omega arith)
          (omega arith) (omega arith),
    )
