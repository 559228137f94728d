use Rattle.ht_clean.proofs.Gathering.{wrong-are}
use Rattle.ht_clean.proofs.planes.wrong_places.Goals as goal

pub returns : goal.returns
returns c =
    wrong-are c.args.pattern c.layout_of.result.now c.args.word c.args.current c.args.previous c.steps_of_word.result c.args.count
    c.low_bits.result c.low_bits-2.result c.planes_of-received.result c.coded-sent.result c.layout_of.ensures c.planes_of-received.ensures
    c.steps_of_word.ensures.value c.requires.count c.coded-sent.ensures.a c.coded-sent.ensures.b c.low_bits.ensures.within c.low_bits-2.ensures.within
