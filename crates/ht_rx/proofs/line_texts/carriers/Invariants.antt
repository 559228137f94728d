use Rattle.std.proofs.Common.{◌≡◌, length}
use Rattle.ht_rx.specs.Tables.{AreCarriers}
use Rattle.ht_rx.proofs.line_texts.carriers.Given as goal

-- the texts so far
abbrev pub invariant-loop-carrier : goal.invariant-loop-carrier
invariant-loop-carrier l = record { long : length l.texts.items ≡ l.carrier; are : AreCarriers l.texts.items }
