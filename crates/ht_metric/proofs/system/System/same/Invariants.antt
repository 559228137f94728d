use Rattle.std.proofs.Common.{◌≡◌, take}
use Rattle.std.specs.Bool.{Decides}
use Rattle.ht_metric.proofs.system.System.same.Given as goal

abbrev pub invariant-loop-k : goal.invariant-loop-k
invariant-loop-k l =
    Decides l.same ((l.self-inside.triangle ≡ l.other-inside.triangle) × (take l.k l.self-inside.y ≡ take l.k l.other-inside.y))
