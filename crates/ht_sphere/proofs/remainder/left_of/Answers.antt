use Rattle.std.proofs.Common.{rules, ◌≡◌, ◌∙◌, ◌+◌, ◌-◌, ◌*◌, ◌<◌, ◌≤◌, pos, List, drop, length, get_or, arith, ap, w8, w32, w64, SFits, to_z, to_z-of_z}
use Rattle.std.proofs.lemmas.Int.{ints}
use Rattle.ht_metric.specs.declared.sample.Sample.{Sample}
use Rattle.ht_metric.specs.declared.tap.Tap.{Tap}
use Rattle.ht_metric.specs.Rows.{no_row, no_tap}
use Rattle.ht_sphere.specs.Coordinates.{weighed, weights_of_i, weights_of_q}
use Rattle.ht_sphere.proofs.Heard.{heard_i, heard_q, from_own, less_by, less_bound, product_i, product_q, entry_of}
use Rattle.ht_sphere.proofs.remainder.left_of.Goals as goal

pub loop-l-init : goal.loop-l-init
loop-l-init c =
    let row = get_or c.args.system.now (c.args.k - 1) no_row in
    let xs = drop (2 * c.args.k) c.args.levels.now in
    let re_fits : SFits w32 c.sample-sample.result.re = search rules in
    let im_fits : SFits w32 c.sample-sample.result.im = search rules in
    let re_wide : SFits w64 c.from-re.result = search rules in
    let im_wide : SFits w64 c.from-im.result = search rules in
    let re = to_z-of_z re_wide ∙ c.from-re.ensures ∙ to_z-of_z re_fits ∙ ap (λ (s : Sample). s.re) c.sample-sample.ensures in
    let im = to_z-of_z im_wide ∙ c.from-im.ensures ∙ to_z-of_z im_fits ∙ ap (λ (s : Sample). s.im) c.sample-sample.ensures in
    record {
      re = from_own row.right (length c.args.system.now) (λ (rs : List Tap). weighed (weights_of_i rs) xs) _ _ c.args.k re;
      im = from_own row.right (length c.args.system.now) (λ (rs : List Tap). weighed (weights_of_q rs) xs) _ _ c.args.k im;
      re_bound = omega (arith, ints, c.from-re.ensures);
      im_bound = omega (arith, ints, c.from-im.ensures);
    }

pub overflow_sub-re : goal.overflow_sub-re
overflow_sub-re c = omega (arith, ints, c.streams-l-end.ensures.few, c.loop-l-test.true, c.loop-l.invariant.re_bound, c.times-part.ensures.re_bound)

pub overflow_sub-im : goal.overflow_sub-im
overflow_sub-im c = omega (arith, ints, c.streams-l-end.ensures.few, c.loop-l-test.true, c.loop-l.invariant.im_bound, c.times-part.ensures.im_bound)

pub loop-l-preserved : goal.loop-l-preserved
loop-l-preserved c =
    let n = length c.args.system.now in
    let row = get_or c.args.system.now (c.args.k - 1) no_row in
    let xs = c.args.levels.now in
    let l = c.loop-l.l in
    let k = c.args.k in
    let last : l < n = omega (arith, c.streams-l-end.ensures.number, c.loop-l-test.true) in
    let after : k ≤ l = omega arith in
    let few : l - k ≤ 3 = omega (arith, c.streams-l-end.ensures.few, c.loop-l-test.true) in
    let tap : c.above.result ≡ get_or row.right (l - k) no_tap = c.above.ensures ∙ entry_of row.right l k in
    let i_at : 2 * c.from-at.result ≡ 2 * l = omega (arith, c.from-at.ensures) in
    let i_fits : SFits w8 (get_or xs (2 * c.from-at.result) (pos 0)) = search rules in
    let q_fits : SFits w8 (get_or xs (2 * c.from-at.result + 1) (pos 0)) = search rules in
    let i = to_z-of_z i_fits ∙ ap (λ m. get_or xs m (pos 0)) i_at in
    let q = to_z-of_z q_fits ∙ ap (λ m. get_or xs (m + 1) (pos 0)) i_at in
    let re = c.times-part.ensures.re ∙ product_i c.above.result (get_or row.right (l - k) no_tap) _ _ _ _ tap i q in
    let im = c.times-part.ensures.im ∙ product_q c.above.result (get_or row.right (l - k) no_tap) _ _ _ _ tap i q in
    record {
      re = heard_i row.right xs n k l after last c.requires.size (to_z w64 c.loop-l.re-bits) _ c.times-part.result.re _ re
          (less_by (to_z w64 c.loop-l.re-bits) c.times-part.result.re (l - k) few c.loop-l.invariant.re_bound c.times-part.ensures.re_bound)
          c.loop-l.invariant.re;
      im = heard_q row.right xs n k l after last c.requires.size (to_z w64 c.loop-l.im-bits) _ c.times-part.result.im _ im
          (less_by (to_z w64 c.loop-l.im-bits) c.times-part.result.im (l - k) few c.loop-l.invariant.im_bound c.times-part.ensures.im_bound)
          c.loop-l.invariant.im;
      re_bound = less_bound (to_z w64 c.loop-l.re-bits) c.times-part.result.re (l - k) _ few
          (omega arith) c.loop-l.invariant.re_bound c.times-part.ensures.re_bound;
      im_bound = less_bound (to_z w64 c.loop-l.im-bits) c.times-part.result.im (l - k) _ few
          (omega arith) c.loop-l.invariant.im_bound c.times-part.ensures.im_bound;
    }
