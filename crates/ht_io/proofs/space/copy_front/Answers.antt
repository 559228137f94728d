use Rattle.std.proofs.Common.{◌≡◌, drop, length, arith, rules}
use Rattle.std.proofs.lemmas.List.{length-take}
use Rattle.ht_io.proofs.Fronts.{reads_front}
use Rattle.ht_io.proofs.space.copy_front.Goals as goal

pub returns-clause-front : goal.returns-clause-front
returns-clause-front c =
    let n = c.args.count in
    let piece = c.copy_from_slice.new.self in
    let len : length piece ≡ n = omega (arith, c.copy_from_slice.ensures.len, length-take n c.args.into.now) in
    reads_front c.args.octets.now piece (drop n c.args.into.now) c.args.at n len (search (rules, c.copy_from_slice.ensures.after))
