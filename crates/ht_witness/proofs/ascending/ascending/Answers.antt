use Rattle.std.proofs.Common.{◌∙◌}
use Rattle.ht_witness.proofs.Walking.{flat}
use Rattle.ht_witness.proofs.ascending.ascending.Goals as goal

pub returns : goal.returns
returns c = c.new.ensures ∙ flat _
