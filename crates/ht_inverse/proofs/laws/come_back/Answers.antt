use Rattle.ht_inverse.proofs.Back.{come_back}
use Rattle.ht_inverse.proofs.laws.come_back.Goals as goal

pub returns : goal.returns
returns c = λ r seed octets labels coded is all are hold. come_back r seed octets labels coded is (λ k lt. all k 0 lt) are hold
