use Rattle.std.proofs.Common.{refl}
use Rattle.ht_legacy_blocks.specs.Jobs.{job_of}
use Rattle.ht_legacy_blocks.proofs.symbol.LegacySymbol.place.Goals as goal

pub returns : goal.returns
unfolding job_of
returns c = rw (← c.self.view_is) refl
