use Rattle.ht_capture_laws.proofs.Next.{next_head, next_job}
use Rattle.ht_capture_laws.proofs.frames.next_item.Goals as goal

pub returns-clause-head : goal.returns-clause-head
returns-clause-head c = next_head

pub returns-clause-job : goal.returns-clause-job
returns-clause-job c = next_job
