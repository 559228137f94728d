use Rattle.ht_legacy_blocks.proofs.Loaded.{data-lane}
use Rattle.ht_legacy_blocks.proofs.lanes.data_lanes.Goals as goal

pub returns : goal.returns
returns c k lt some = data-lane c.args.first k c.from.result _ c.from.ensures c.requires lt (c.words_from.ensures k lt) some
