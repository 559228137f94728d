use Rattle.std.proofs.Common.{◌≡◌, take}
use Rattle.std.specs.Bool.{Decides}
use Rattle.ht_metric.proofs.triangle.Triangle.same.Given as goal

abbrev pub invariant-loop-k : goal.invariant-loop-k
invariant-loop-k l =
    Decides l.same
    ((l.self-inside.streams ≡ l.other-inside.streams) × (take l.k l.self-inside.diagonal ≡ take l.k l.other-inside.diagonal))

abbrev pub invariant-loop-j : goal.invariant-loop-j
invariant-loop-j l =
    let fields : Type 0 =
    (l.self-inside.streams ≡ l.other-inside.streams) × (l.self-inside.diagonal ≡ l.other-inside.diagonal) in
    Decides l.same (fields × (take l.j l.self-inside.above ≡ take l.j l.other-inside.above))
