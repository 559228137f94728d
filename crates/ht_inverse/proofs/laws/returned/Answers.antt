use Rattle.ht_inverse.proofs.Returned.{returned}
use Rattle.ht_inverse.proofs.laws.returned.Goals as goal

pub returns : goal.returns
returns c = λ seed octets is all. returned seed octets is (λ k lt. all k 0 lt)
