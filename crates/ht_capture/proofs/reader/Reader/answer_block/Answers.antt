use Rattle.ht_capture.proofs.reader.Reader.answer_block.Goals as goal

pub returns-in_default : goal.returns-in_default
returns-in_default g c = c.answer_joint.ensures c.args.most
