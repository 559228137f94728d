use Rattle.ht_results.proofs.Folded.{distances_fold}
use Rattle.ht_results.proofs.laws.distances.Goals as goal

pub returns : goal.returns
returns c = record { places = distances_fold }
