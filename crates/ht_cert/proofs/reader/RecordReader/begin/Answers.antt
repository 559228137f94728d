use Rattle.ht_cert.proofs.Reading.{answer_behind}
use Rattle.ht_cert.proofs.reader.RecordReader.begin.Goals as goal

pub returns-in-Ok-clause-told : goal.returns-in-Ok-clause-told
returns-in-Ok-clause-told g c = answer_behind _ _ _ _ c.go_on.result c.in-Ok.ensures.told c.in-Ok.ensures.later c.go_on.ensures.told
