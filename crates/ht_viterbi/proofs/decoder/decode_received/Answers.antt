use Rattle.std.proofs.Common.{map}
use Rattle.ht_viterbi.specs.Received.{known_of}
use Rattle.ht_viterbi.proofs.Found.{found-sent}
use Rattle.ht_viterbi.proofs.decoder.decode_received.Goals as goal

pub returns-then-explain : goal.returns-then-explain
returns-then-explain c =
    found-sent c.args.steps c.args.pattern (map known_of c.args.received.now) c.explain.new.input.items c.from.result c.requires.least
    (c.explain.ensures.explained c.if-explain.true) (c.explain.ensures.terminated c.if-explain.true c.requires.least) c.from.ensures
