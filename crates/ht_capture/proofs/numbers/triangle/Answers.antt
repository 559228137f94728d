use Rattle.std.proofs.Common.{◌≡◌, ◌∙◌, ap, arith}
use Rattle.ht_capture.specs.Systems.{triangle_of}
use Rattle.ht_capture.proofs.numbers.triangle.Goals as goal

pub returns-in_default : goal.returns-in_default
returns-in_default c =
    let is : 4 ≡ c.args.streams = omega arith in
    c.four_rows.ensures ∙ ap (λ n. triangle_of n c.args.octets.now) is
