use Rattle.std.proofs.Common.{◌≡◌, ap, arith}
use Rattle.ht_capture.specs.Systems.{triangle_octets}
use Rattle.ht_capture.proofs.numbers.triangle_width.Goals as goal

pub returns-in_default-clause-value : goal.returns-in_default-clause-value
returns-in_default-clause-value c =
    let is : 4 ≡ c.args.streams = omega arith in ap (λ n. triangle_octets n) is
