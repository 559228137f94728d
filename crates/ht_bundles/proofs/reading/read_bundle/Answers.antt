use Rattle.ht_bundles.specs.Files.{bundle_of}
use Rattle.ht_bundles.proofs.Routes.{are_counted}
use Rattle.ht_bundles.proofs.reading.read_bundle.Goals as goal

pub read_whole-requires-clause-counted : goal.read_whole-requires-clause-counted
read_whole-requires-clause-counted g c = are_counted

pub returns-in-Ok-clause-file : goal.returns-in-Ok-clause-file
unfolding bundle_of
returns-in-Ok-clause-file g c = c.read_whole.ensures.file
