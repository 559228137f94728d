use Rattle.std.proofs.Common.{length, arith}
use Rattle.std.proofs.lemmas.Slice.Zip.{zip_end}
use Rattle.ht_demo.proofs.Matching.{matched-end}
use Rattle.ht_demo.proofs.line.matched.Goals as goal

pub returns : goal.returns
returns c =
    let frames = c.args.frames.now in
    let results = c.args.results.now in
    let k = length c.loop-frame.yielded in
    let over = zip_end frames results c.loop-frame.yielded c.into_iter-frame-iterator.result c.loop-frame.frame-iterator c.next.new.self _
    (cc) (cc) c.loop-frame.yielded_by c.in-None.is c.next.ensures.steps in
    let none = matched-end frames results k over in
    let all = c.loop-frame.invariant.3 in
    omega (arith, none, all)
