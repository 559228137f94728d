use Rattle.std.proofs.Common.{rules, ◌∙◌, ◌-◌, ◌*◌, ◌-ℤ◌, ℤ, List, drop, length, get_or, ap, w64, SFits, to_z-of_z}
use Rattle.ht_metric.specs.Rows.{Row, no_row}
use Rattle.ht_sphere.specs.Coordinates.{weighed, weights_of_i, entries_behind}
use Rattle.ht_sphere.proofs.Heard.{own_q}
use Rattle.ht_sphere.proofs.remainder.remainder_of.Goals as goal

pub returns-clause-re : goal.returns-clause-re
returns-clause-re c = λ q.
    let fits : SFits w64 c.left_of-left.result.re = search rules in
    let k = c.args.k in
    let left : List Row → ℤ = λ rows. (get_or rows (k - 1) no_row).sample.re
    -ℤ weighed (weights_of_i (entries_behind (length rows - k) (get_or rows (k - 1) no_row).right)) (drop (2 * k) c.args.levels.now) in
    to_z-of_z fits ∙ c.left_of-left.ensures.re ∙ ap left c.system.ensures.system
    ∙ own_q c.args.job.now.system c.args.job.now.grid k q (drop (2 * k) c.args.levels.now) c.requires.first
