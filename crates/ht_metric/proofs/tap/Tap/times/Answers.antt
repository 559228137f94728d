use Rattle.std.proofs.Common.{◌∙◌, ◌+ℤ◌, ◌-ℤ◌, ◌*ℤ◌, ℤ, ap, w8, w64, arith, rules}
use Rattle.ht_metric.proofs.Signs.{passed, passed_within, subtracts, adds, subtracts_fits, adds_fits, subtracts_bound, adds_bound}
use Rattle.ht_metric.proofs.tap.Tap.times.Goals as goal

pub multiplied-requires : goal.multiplied-requires
multiplied-requires c = passed_within w8 c.args.point.i 7 c.requires.i (omega arith)

pub multiplied-requires-2 : goal.multiplied-requires-2
multiplied-requires-2 c = passed_within w8 c.args.point.q 7 c.requires.q (omega arith)

pub multiplied-requires-3 : goal.multiplied-requires-3
multiplied-requires-3 c = passed_within w8 c.args.point.q 7 c.requires.q (omega arith)

pub multiplied-requires-4 : goal.multiplied-requires-4
multiplied-requires-4 c = passed_within w8 c.args.point.i 7 c.requires.i (omega arith)

pub overflow_sub-result : goal.overflow_sub-result
overflow_sub-result c =
    subtracts_fits w64 c.multiplied.result c.multiplied-2.result 229376 229376 c.multiplied.ensures.bound c.multiplied-2.ensures.bound (omega arith)

pub overflow_add-result : goal.overflow_add-result
overflow_add-result c =
    adds_fits w64 c.multiplied-3.result c.multiplied-4.result 229376 229376 c.multiplied-3.ensures.bound c.multiplied-4.ensures.bound (omega arith)

pub returns-clause-re : goal.returns-clause-re
returns-clause-re c =
    let r = c.args.self in
    let x = c.args.point in
    subtracts w64 c.multiplied.result c.multiplied-2.result 229376 229376 c.multiplied.ensures.bound c.multiplied-2.ensures.bound (omega arith)
    ∙ ap (λ (z : ℤ). z -ℤ c.multiplied-2.result) (passed _ r.re x.i (search rules) (search rules) c.multiplied.ensures.value)
    ∙ ap (λ (z : ℤ). (r.re *ℤ x.i) -ℤ z) (passed _ r.im x.q (search rules) (search rules) c.multiplied-2.ensures.value)

pub returns-clause-im : goal.returns-clause-im
returns-clause-im c =
    let r = c.args.self in
    let x = c.args.point in
    adds w64 c.multiplied-3.result c.multiplied-4.result 229376 229376 c.multiplied-3.ensures.bound c.multiplied-4.ensures.bound (omega arith)
    ∙ ap (λ (z : ℤ). z +ℤ c.multiplied-4.result) (passed _ r.re x.q (search rules) (search rules) c.multiplied-3.ensures.value)
    ∙ ap (λ (z : ℤ). (r.re *ℤ x.q) +ℤ z) (passed _ r.im x.i (search rules) (search rules) c.multiplied-4.ensures.value)

pub returns-clause-re_bound : goal.returns-clause-re_bound
returns-clause-re_bound c =
    subtracts_bound w64 c.multiplied.result c.multiplied-2.result 229376 229376 c.multiplied.ensures.bound c.multiplied-2.ensures.bound (omega arith)

pub returns-clause-im_bound : goal.returns-clause-im_bound
returns-clause-im_bound c =
    adds_bound w64 c.multiplied-3.result c.multiplied-4.result 229376 229376 c.multiplied-3.ensures.bound c.multiplied-4.ensures.bound (omega arith)
