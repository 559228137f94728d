use Rattle.std.proofs.Common.{◌≡◌, ◌-◌}
use Rattle.ht_sim.specs.Channel.{triangle_drawn}
use Rattle.ht_sim.specs.Draws.{joined, several}
use Rattle.ht_sim.proofs.triangles.triangles.Given as goal

-- the triangles so far and those that are left are all triangles
abbrev pub invariant-loop-carrier : goal.invariant-loop-carrier
invariant-loop-carrier l =
    joined l.triangles.items (several (triangle_drawn l.streams) (l.carriers - l._carrier) l.words) ≡ several (triangle_drawn l.streams) l.carriers l.fn.words
