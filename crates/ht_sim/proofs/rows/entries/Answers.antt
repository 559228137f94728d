use Rattle.std.proofs.Common.{◌≡◌, ◌+◌, ◌<◌, ◌∙◌, ◌+ℤ◌, sym, drop, get_or, length, ap, arith, pos}
use Rattle.ht_metric.specs.Distance.{combined, times}
use Rattle.ht_metric.specs.Rows.{no_leg, no_tap}
use Rattle.ht_metric.specs.declared.complex.Complex.{Complex}
use Rattle.ht_metric.specs.declared.tap.Tap.{Tap}
use Rattle.ht_pam.specs.declared.point.Point.{Point}
use Rattle.ht_sim.proofs.Mixing.{combined-more, combined-end, entry_is}
use Rattle.ht_sim.proofs.Signs.{takes_none, takes_one, takes_one-bound}
use Rattle.ht_sim.proofs.rows.entries.Goals as goal

pub loop-k-preserved : goal.loop-k-preserved
loop-k-preserved c =
    let k = c.loop-k.k in
    let t = c.args.triangle.now in
    let taps = (get_or t c.args.row no_leg).right in
    let xs = c.args.behind.now in
    let point : Point = record { i = pos 0; q = pos 0 } in
    let below : k < length xs = omega arith in
    let few : k < 4 = omega arith in
    let here = combined-more taps xs k point below in
    let tap_is : c.above.result ≡ get_or taps k no_tap = entry_is t c.args.row k _ c.above.ensures in
    let part_re : c.product-part.result.re ≡ (times (get_or taps k no_tap) (get_or xs k point)).re =
    c.product-part.ensures.re ∙ ap (λ i. (times c.above.result (get_or xs i point)).re) c.from.ensures
    ∙ ap (λ (tap : Tap). (times tap (get_or xs k point)).re) tap_is in
    let part_im : c.product-part.result.im ≡ (times (get_or taps k no_tap) (get_or xs k point)).im =
    c.product-part.ensures.im ∙ ap (λ i. (times c.above.result (get_or xs i point)).im) c.from.ensures
    ∙ ap (λ (tap : Tap). (times tap (get_or xs k point)).im) tap_is in
    record {
      re = takes_one c.loop-k.total.re c.product-part.result.re _ (combined (drop (k + 1) taps) (drop (k + 1) xs)).re _ k few
          c.loop-k.invariant.re_bound c.product-part.ensures.re_bound
          c.loop-k.invariant.re (ap (λ (z : Complex). z.re) here ∙ ap (λ z. z +ℤ (combined (drop (k + 1) taps) (drop (k + 1) xs)).re) (sym part_re));
      im = takes_one c.loop-k.total.im c.product-part.result.im _ (combined (drop (k + 1) taps) (drop (k + 1) xs)).im _ k few
          c.loop-k.invariant.im_bound c.product-part.ensures.im_bound
          c.loop-k.invariant.im (ap (λ (z : Complex). z.im) here ∙ ap (λ z. z +ℤ (combined (drop (k + 1) taps) (drop (k + 1) xs)).im) (sym part_im));
      re_bound = takes_one-bound c.loop-k.total.re c.product-part.result.re k few c.loop-k.invariant.re_bound c.product-part.ensures.re_bound;
      im_bound = takes_one-bound c.loop-k.total.im c.product-part.result.im k few c.loop-k.invariant.im_bound c.product-part.ensures.im_bound;
    }

pub returns-clause-re : goal.returns-clause-re
returns-clause-re c =
    let taps = (get_or c.args.triangle.now c.args.row no_leg).right in
    let end = combined-end taps c.args.behind.now c.loop-k.k (omega arith) in
    takes_none c.loop-k.total.re _ _ (ap (λ (z : Complex). z.re) end) c.loop-k.invariant.re

pub returns-clause-im : goal.returns-clause-im
returns-clause-im c =
    let taps = (get_or c.args.triangle.now c.args.row no_leg).right in
    let end = combined-end taps c.args.behind.now c.loop-k.k (omega arith) in
    takes_none c.loop-k.total.im _ _ (ap (λ (z : Complex). z.im) end) c.loop-k.invariant.im
