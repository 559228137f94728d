use Rattle.std.proofs.Common.{◌≡◌, ◌+◌, ◌*◌, ◌≤◌, ◌++◌, drop, string_bytes, string_len, string_capacity}
use Rattle.ht_text.specs.Lines.{spaced}
use Rattle.ht_text.proofs.job.push_points.Given as goal

-- the text, and the numbers that are left, for which there is room
abbrev pub invariant-loop-point : goal.invariant-loop-point
invariant-loop-point l = record {
  text : string_bytes l.text ++ spaced (drop l.point-index l.points) ≡ string_bytes l.fn.text ++ spaced l.points;
  room : string_len l.text + string_capacity l.fn.text ≤ string_len l.fn.text + 5 * l.point-index + string_capacity l.text;
}
