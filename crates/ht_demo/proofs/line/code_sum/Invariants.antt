use Rattle.std.proofs.Common.{◌≡◌, ◌*◌, ◌^◌, ◌≤◌, take}
use Rattle.ht_demo.specs.Demos.{code_in}
use Rattle.ht_demo.proofs.line.code_sum.Given as goal

-- the sum so far, to which each frame adds a number of 32 bits
abbrev pub invariant-loop-received : goal.invariant-loop-received
invariant-loop-received l = (l.sum ≡ code_in (take l.received-index l.results)) × (l.sum ≤ l.received-index * 2 ^ 32)
