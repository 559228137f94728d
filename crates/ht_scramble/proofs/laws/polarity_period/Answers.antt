use Rattle.ht_scramble.proofs.Signs.{polarity_at-rest}
use Rattle.ht_scramble.proofs.laws.polarity_period.Goals as goal

pub returns : goal.returns
returns c = polarity_at-rest
