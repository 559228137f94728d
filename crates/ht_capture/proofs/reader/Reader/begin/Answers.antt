use Rattle.std.proofs.Common.{rules}
use Rattle.ht_capture.proofs.Turns.{gives_answer}
use Rattle.ht_capture.proofs.reader.Reader.begin.Goals as goal

pub returns-in-Ok : goal.returns-in-Ok
returns-in-Ok g c =
    search (rules, gives_answer _ _ _ _ c.frame.result c.in-Ok.ensures.told c.in-Ok.ensures.later c.frame.ensures.told)
