use Rattle.ht_capture_laws.proofs.More.{all_whole, frames_each}
use Rattle.ht_capture_laws.proofs.files.frames_of_written.Goals as goal

pub returns-clause-each : goal.returns-clause-each
returns-clause-each c = frames_each

pub returns-clause-whole : goal.returns-clause-whole
returns-clause-whole c = all_whole
