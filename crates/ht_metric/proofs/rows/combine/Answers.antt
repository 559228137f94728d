use Rattle.std.proofs.Common.{◌<◌, ◌+◌, ◌*◌, ◌∙◌, ◌+ℤ◌, sym, drop, ap, arith, w64}
use Rattle.ht_metric.specs.Distance.{combined}
use Rattle.ht_metric.specs.declared.complex.Complex.{Complex}
use Rattle.ht_metric.specs.Rows.{no_tap}
use Rattle.ht_metric.specs.Vectors.{no_point}
use Rattle.ht_metric.proofs.Combining.{combined-drop}
use Rattle.ht_metric.proofs.Signs.{takes_one, adds_fits, adds_bound}
use Rattle.ht_metric.proofs.rows.combine.Goals as goal

pub overflow_add-total : goal.overflow_add-total
overflow_add-total c =
    let few : c.loop-k.k < 4 = omega arith in
    adds_fits w64 c.loop-k.total.re c.times-part.result.re (458752 * c.loop-k.k) 458752 c.loop-k.invariant.re_bound
    c.times-part.ensures.re_bound (omega arith)

pub overflow_add-total-in-loop-k : goal.overflow_add-total-in-loop-k
overflow_add-total-in-loop-k c =
    let few : c.loop-k.k < 4 = omega arith in
    adds_fits w64 c.loop-k.total.im c.times-part.result.im (458752 * c.loop-k.k) 458752 c.loop-k.invariant.im_bound
    c.times-part.ensures.im_bound (omega arith)

pub loop-k-preserved : goal.loop-k-preserved
loop-k-preserved c =
    let k = c.loop-k.k in
    let rest = combined (drop (k + 1) c.args.taps.now) (drop (k + 1) c.args.xs.now) in
    let here = combined-drop c.args.taps.now c.args.xs.now k no_tap no_point (omega arith) (omega arith) in
    let few : k < 4 = omega arith in
    record {
      re = takes_one w64 c.loop-k.total.re c.times-part.result.re (458752 * k) 458752 c.loop-k.invariant.re_bound c.times-part.ensures.re_bound
          (omega arith) _ rest.re _ c.loop-k.invariant.re
          (ap (λ (z : Complex). z.re) here ∙ ap (λ z. z +ℤ rest.re) (sym c.times-part.ensures.re));
      im = takes_one w64 c.loop-k.total.im c.times-part.result.im (458752 * k) 458752 c.loop-k.invariant.im_bound c.times-part.ensures.im_bound
          (omega arith) _ rest.im _ c.loop-k.invariant.im
          (ap (λ (z : Complex). z.im) here ∙ ap (λ z. z +ℤ rest.im) (sym c.times-part.ensures.im));
      re_bound = let sum = adds_bound w64 c.loop-k.total.re c.times-part.result.re (458752 * k) 458752 c.loop-k.invariant.re_bound
          c.times-part.ensures.re_bound (omega arith) in
          omega (arith, sum);
      im_bound = let sum = adds_bound w64 c.loop-k.total.im c.times-part.result.im (458752 * k) 458752 c.loop-k.invariant.im_bound
          c.times-part.ensures.im_bound (omega arith) in
          omega (arith, sum);
    }
