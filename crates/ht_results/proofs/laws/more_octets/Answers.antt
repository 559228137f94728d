use Rattle.ht_results.proofs.Folded.{more_lines, more_results}
use Rattle.ht_results.proofs.laws.more_octets.Goals as goal

pub returns-clause-results : goal.returns-clause-results
returns-clause-results c = more_results

pub returns-clause-lines : goal.returns-clause-lines
returns-clause-lines c = more_lines
