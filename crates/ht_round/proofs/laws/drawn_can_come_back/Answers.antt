use Rattle.ht_round.proofs.Drawn.{drawn_frames, drawn_octets}
use Rattle.ht_round.proofs.laws.drawn_can_come_back.Goals as goal

pub returns-clause-frames : goal.returns-clause-frames
returns-clause-frames c = drawn_frames

pub returns-clause-octets : goal.returns-clause-octets
returns-clause-octets c = drawn_octets
