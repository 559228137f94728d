use Rattle.std.proofs.Common.{Some, false, get_or, map, refl}
use Rattle.ht_clean.proofs.Detours.{all-known, sparse-found}
use Rattle.ht_clean.proofs.laws.sparse_is_found.Goals as goal

pub returns : goal.returns
returns c = λ steps p received u many long ends sparse.
    sparse-found steps p (map Some received) (λ k. get_or received k false) u _ many (all-known received _ long) ends sparse refl
