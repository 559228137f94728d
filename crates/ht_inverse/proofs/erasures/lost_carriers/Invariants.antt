use Rattle.ht_inverse.specs.Shares.{AreLostBelow}
use Rattle.ht_inverse.proofs.erasures.lost_carriers.Given as goal

abbrev pub invariant-loop-index : goal.invariant-loop-index
invariant-loop-index l = AreLostBelow l.rate l.erased l.lost l.index
