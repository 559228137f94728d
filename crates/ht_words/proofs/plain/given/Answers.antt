use Rattle.std.proofs.Common.{sym, ◌∙◌}
use Rattle.ht_words.proofs.Numbers.{given_few}
use Rattle.ht_words.proofs.plain.given.Goals as goal

pub returns : goal.returns
returns c = sym (given_few c.args.name.now c.loop-rest.rest.now c.in_default.len_below) ∙ c.loop-rest.invariant
