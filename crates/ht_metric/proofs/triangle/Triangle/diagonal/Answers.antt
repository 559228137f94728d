use Rattle.std.proofs.Common.{◌<◌, ◌-◌, arith, ap, length, sym}
use Rattle.ht_metric.specs.Arrays.{length-legs_of}
use Rattle.ht_metric.proofs.RowLemmas.{diagonal-at}
use Rattle.ht_metric.proofs.triangle.Triangle.diagonal.Goals as goal

pub bounds-self-inside-from : goal.bounds-self-inside-from
bounds-self-inside-from c =
    let t = c.self.inside in
    omega (arith, c.requires.last, ap length c.self.view_is, length-legs_of t.streams t.diagonal t.above)

pub returns : goal.returns
returns c =
    let t = c.self.inside in
    let k = c.args.k - 1 in
    let below : k < t.streams = omega (arith, c.requires.last, ap length c.self.view_is, length-legs_of t.streams t.diagonal t.above) in
    rw (c.from.ensures, ← c.self.view_is) (sym (diagonal-at t.streams k t.diagonal t.above below))
