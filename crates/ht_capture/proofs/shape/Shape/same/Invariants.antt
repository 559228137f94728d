use Rattle.std.proofs.Common.{◌≡◌, ◌↔◌, IsTrue, take, drop}
use Rattle.ht_capture.proofs.shape.Shape.same.Given as goal

-- the first subcarriers are the same, where the flag is set
abbrev pub invariant-loop-at : goal.invariant-loop-at
invariant-loop-at l = IsTrue l.same ↔ (take l.at (drop l.from l.self.present) ≡ take l.at (drop l.other_from l.other.present))
