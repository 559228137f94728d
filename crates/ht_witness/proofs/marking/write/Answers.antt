use Rattle.ht_witness.proofs.Stages.{all_marks}
use Rattle.ht_witness.proofs.marking.write.Goals as goal

pub returns-clause-written : goal.returns-clause-written
returns-clause-written c = all_marks c.args.job.now c.args.distance c.clear.new.self c.walk.new.state c.clear.ensures c.in_ok-walk.ensures.walked
