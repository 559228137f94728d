use Rattle.ht_scramble.proofs.Recovered.{first_seven-seed_of, seed_of-first_seven, seed_of-range}
use Rattle.ht_scramble.proofs.laws.seed_of_beginning.Goals as goal

pub returns : goal.returns
returns c = record {
  seed = seed_of-first_seven;
  beginning = first_seven-seed_of;
  range = seed_of-range;
}
