use Rattle.ht_counted.proofs.FrameRoutes.{is_counted}
use Rattle.ht_counted.proofs.framed.read_framed.Goals as goal

pub read_whole-requires-clause-counted : goal.read_whole-requires-clause-counted
read_whole-requires-clause-counted g c = is_counted g.F.Framed.format g.F.Framed.framing c.requires.framing
