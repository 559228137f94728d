use Rattle.ht_capture_laws.proofs.More.{frames_more, items_more}
use Rattle.ht_capture_laws.proofs.frames.more_octets.Goals as goal

pub returns-clause-items : goal.returns-clause-items
returns-clause-items c = items_more

pub returns-clause-frames : goal.returns-clause-frames
returns-clause-frames c = frames_more
