use Rattle.std.proofs.Common.{ap, ◌∙◌}
use Rattle.ht_words.specs.Words.{is_number}
use Rattle.ht_words.proofs.ReadingLemmas.{default_number, default_read, known_default, takes_default}
use Rattle.ht_words.proofs.plain.read_default.Goals as goal

pub read-requires-clause-known : goal.read-requires-clause-known
read-requires-clause-known c = known_default c.args.setting

pub read-requires-clause-taken : goal.read-requires-clause-taken
read-requires-clause-taken c = takes_default c.args.setting

pub number-requires : goal.number-requires
number-requires c = ap is_number (default_read c.args.setting _ c.in_ok-text.ensures) ∙ default_number c.args.setting
