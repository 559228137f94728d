use Rattle.ht_inverse.specs.Shares.{ListsPlaces}
use Rattle.std.proofs.Common.{vec_len, vec_capacity}
use Rattle.ht_inverse.proofs.share.first_places.Given as goal

abbrev pub invariant-loop-i : goal.invariant-loop-i
invariant-loop-i l = ListsPlaces l.rate l.erased l.encoder l.i l.count l.places.items (vec_len l.places) (vec_capacity l.places)
