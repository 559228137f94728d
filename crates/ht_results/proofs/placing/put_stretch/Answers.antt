use Rattle.std.proofs.Common.{rules, ◌≡◌, ◌+◌, ◌-◌, arith}
use Rattle.ht_results.proofs.Stretches.{copied, uncopied}
use Rattle.ht_results.proofs.placing.put_stretch.Goals as goal

pub returns-then-at-kept : goal.returns-then-at-kept
returns-then-at-kept g c =
    let count = c.min-count.result in
    let size : c.args.at + count - c.args.at ≡ count = omega arith in
    copied c.args.kept.now c.args.values.now c.copy_from_slice.new.self c.args.at count (c.args.at + count - c.args.at) (omega arith)
    c.min-count.ensures size (search (rules, c.copy_from_slice.ensures.after))

pub returns-else-at-kept : goal.returns-else-at-kept
returns-else-at-kept g c = uncopied c.args.kept.now c.args.values.now c.args.at (omega arith)
