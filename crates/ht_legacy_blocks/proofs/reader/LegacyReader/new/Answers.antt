use Rattle.std.proofs.Common.{refl}
use Rattle.ht_legacy_blocks.specs.Jobs.{diagonals_of, jobs_between}
use Rattle.ht_legacy_blocks.proofs.reader.LegacyReader.new.Goals as goal

pub returns-clause-means : goal.returns-clause-means
unfolding diagonals_of jobs_between
returns-clause-means c = λ octets. refl
