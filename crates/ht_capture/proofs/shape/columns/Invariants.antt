use Rattle.std.proofs.Common.{◌≡◌, take}
use Rattle.ht_rate.specs.Rates.{modulation_of, streams_of}
use Rattle.ht_capture.specs.InColumns.{HasColumns}
use Rattle.ht_capture.proofs.shape.columns.Given as goal

-- the first templates have their columns
abbrev pub invariant-loop-at : goal.invariant-loop-at
invariant-loop-at l = HasColumns l.head (take l.at l.templates) l.columns
