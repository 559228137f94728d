use Rattle.std.proofs.Common.{◌≡◌, take}
use Rattle.std.specs.Bool.{Decides}
use Rattle.ht_pam.proofs.grid.Grid.same.Given as goal

abbrev pub invariant-loop-k : goal.invariant-loop-k
invariant-loop-k l =
    Decides l.same ((l.self-inside.streams ≡ l.other-inside.streams) × (take l.k l.self-inside.axes ≡ take l.k l.other-inside.axes))
