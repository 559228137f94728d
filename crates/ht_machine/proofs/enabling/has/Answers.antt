use Rattle.std.proofs.Common.{◌≡◌, rules}
use Rattle.std.specs.Prelude.{is_some}
use Rattle.ht_machine.proofs.Lists.{index_tells}
use Rattle.ht_machine.proofs.enabling.has.Goals as goal

pub returns : goal.returns
returns c =
    let same : c.is_some.result ≡ is_some c.index_of.result = search rules in
    rw same (index_tells c.args.number c.args.hits.now c.index_of.result c.index_of.ensures.some c.index_of.ensures.none)
