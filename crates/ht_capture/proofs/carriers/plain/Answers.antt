use Rattle.ht_capture.proofs.carriers.plain.Goals as goal

pub returns-in-Ok-clause-seen : goal.returns-in-Ok-clause-seen
returns-in-Ok-clause-seen g c = c.keep.ensures.seen c.args.rate.now c.requires.seen c.requires.carrier c.in-Ok.ensures.streams

pub returns-in-Ok-clause-added : goal.returns-in-Ok-clause-added
returns-in-Ok-clause-added g c = (c.in-Ok.triangle, c.in-Ok.ensures.streams, c.keep.ensures.kept, c.in-Ok.ensures.typed, c.in-Ok.ensures.octets)

pub returns-in-Err-clause-told : goal.returns-in-Err-clause-told
returns-in-Err-clause-told g c = λ turn head same. c.in-Err.ensures.told turn head c.args.carrier _ same
