use Rattle.std.proofs.Common.{arith}
use Rattle.std.proofs.lemmas.Int.{ints}
use Rattle.ht_capture.proofs.Slices.{sample_made}
use Rattle.ht_capture.proofs.numbers.sample.Goals as goal

pub returns : goal.returns
returns c =
    sample_made c.args.octets.now c.args.at _ _ c.read_i32.result c.read_i32-2.result (omega (arith, ints))
    (omega (arith, ints)) (omega arith) (omega arith) c.read_i32.ensures c.read_i32-2.ensures
