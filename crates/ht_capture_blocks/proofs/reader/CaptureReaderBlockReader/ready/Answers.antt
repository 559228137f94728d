use Rattle.ht_capture_blocks.proofs.Mapping.{block_counts, gives_block}
use Rattle.ht_capture_blocks.proofs.reader.CaptureReaderBlockReader.ready.Goals as goal

pub returns-in-Some-clause-told : goal.returns-in-Some-clause-told
returns-in-Some-clause-told c = λ source.
    gives_block c.args.self.now.reader source c.ready_block.new.self source c.in-Some.block (c.in-Some.ensures.given.told source)

pub returns-in-Some-clause-counted : goal.returns-in-Some-clause-counted
returns-in-Some-clause-counted c =
    let e = c.in-Some.ensures.given in
    block_counts c.args.most c.args.self.now.reader c.ready_block.new.self c.in-Some.block e.counted e.going e.fewer
