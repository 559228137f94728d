use Rattle.std.proofs.Common.{◌≡◌, ◌-◌}
use Rattle.ht_sim.specs.Samples.{octet_drawn}
use Rattle.ht_sim.specs.Draws.{joined, several}
use Rattle.ht_sim.proofs.samples.octets.Given as goal

-- the octets so far and those that are left are all octets
abbrev pub invariant-loop-index : goal.invariant-loop-index
invariant-loop-index l = joined l.octets.items (several octet_drawn (l.count - l._index) l.words) ≡ several octet_drawn l.count l.fn.words
