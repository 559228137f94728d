use Rattle.std.proofs.Common.{◌≡◌, length, take}
use Rattle.ht_rounding.specs.Only.{AreOnly}
use Rattle.ht_rounding.proofs.only.only_vector.Given as goal

-- the streams so far have these points alone
abbrev pub invariant-loop-stream : goal.invariant-loop-stream
invariant-loop-stream l = AreOnly (take l.stream l.fn.grid) l.vector × (length l.vector ≡ l.stream)
