use Rattle.std.proofs.Common.{◌%◌, ap, ◌∙◌, arith, unsigned_abs}
use Rattle.ht_scramble.proofs.Signs.{sign-at, unsigned_abs-polarity_at}
use Rattle.ht_scramble.proofs.polarity_signs.polarity.Goals as goal

pub returns-clause-value : goal.returns-clause-value
returns-clause-value c = sign-at (c.args.n % 127) (omega arith)

pub returns-clause-unit : goal.returns-clause-unit
returns-clause-unit c = ap unsigned_abs (sign-at (c.args.n % 127) (omega arith)) ∙ unsigned_abs-polarity_at (c.args.n % 127)
