use Rattle.ht_clause18.proofs.Interleaving.{place_of-bound, origin_of-bound, origin_of-place_of, place_of-origin_of}
use Rattle.ht_clause18.proofs.laws.inverse.Goals as goal

pub returns : goal.returns
returns c = record { origin_of_place = origin_of-place_of; place_of_origin = place_of-origin_of; place_bound = place_of-bound; origin_bound = origin_of-bound }
