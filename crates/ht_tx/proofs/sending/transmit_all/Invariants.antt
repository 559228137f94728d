use Rattle.std.proofs.Common.{take}
use Rattle.ht_tx.specs.Transmitted.{AreTransmitted}
use Rattle.ht_tx.proofs.sending.transmit_all.Given as goal

-- the first frames were sent
abbrev pub invariant-loop-frame : goal.invariant-loop-frame
invariant-loop-frame l = AreTransmitted (take l.frame-index l.frames) l.sent.items
