use Rattle.ht_words.proofs.Numbers.{parses_none}
use Rattle.ht_words.proofs.plain.number.Goals as goal

pub returns-clause-none : goal.returns-clause-none
returns-clause-none c = rw c.ok.ensures.value (parses_none c.args.text.now c.parse.result c.requires c.parse.ensures.value.0)
