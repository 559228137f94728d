use Rattle.ht_sphere.proofs.round.+round.Given as goal

abbrev pub decreases-round : goal.decreases-round
decreases-round g l = l.k
