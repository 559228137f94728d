use Rattle.std.proofs.Common.{◌≡◌, length}
use Rattle.ht_rx.specs.Tables.{ArePoints}
use Rattle.ht_rx.proofs.line_texts.points.Given as goal

-- the texts so far
abbrev pub invariant-loop-label : goal.invariant-loop-label
invariant-loop-label l = record { long : length l.texts.items ≡ l.label; are : ArePoints l.modulation l.texts.items }
