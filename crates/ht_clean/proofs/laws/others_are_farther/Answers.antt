use Rattle.std.proofs.Common.{inl, inr, Some, false, get_or, map}
use Rattle.ht_clean.proofs.Detours.{all-known, same-or-farther}
use Rattle.ht_clean.proofs.laws.others_are_farther.Goals as goal

pub returns : goal.returns
returns c = λ steps p received u v many long ends other sparse apart.
    elim (same-or-farther steps p (map Some received) (λ k. get_or received k false) u v many (all-known received _ long) ends other sparse) [
      | inl same ↦ absurd (apart same)
      | inr more ↦ more
    ]
