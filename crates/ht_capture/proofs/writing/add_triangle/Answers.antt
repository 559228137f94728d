use Rattle.std.proofs.Common.{◌≤◌, length, arith}
use Rattle.ht_capture.proofs.Written.{row_room, triangle_done, triangle_size}
use Rattle.ht_capture.proofs.writing.add_triangle.Goals as goal

pub add_row-requires-clause-room : goal.add_row-requires-clause-room
add_row-requires-clause-room c =
    let few = c.streams-row-end.ensures.few in
    row_room c.loop-row.chunk c.args.chunk.now c.args.triangle.now c.loop-row.row
    (omega (arith, c.loop-row-test.true, c.streams-row-end.ensures.number))
    (omega (arith, few, c.streams-row-end.ensures.number)) c.loop-row.invariant c.requires.room

pub returns-clause-size : goal.returns-clause-size
returns-clause-size c =
    let few = c.streams-row-end.ensures.few in
    let over : length c.args.triangle.now ≤ c.loop-row.row = omega (arith, c.loop-row-test.false, c.streams-row-end.ensures.number) in
    let size : length c.args.triangle.now ≤ 4 = omega (arith, few, c.streams-row-end.ensures.number) in
    triangle_size c.loop-row.chunk c.args.chunk.now c.args.triangle.now size
    (triangle_done c.loop-row.chunk c.args.chunk.now c.args.triangle.now c.loop-row.row over c.loop-row.invariant)
