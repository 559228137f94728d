use Rattle.ht_sphere.proofs.Finding.{found_is}
use Rattle.ht_sphere.proofs.detector.found.Goals as goal

pub returns-clause-found : goal.returns-clause-found
returns-clause-found g c =
    (found_is c.args.job.now c.best_levels-distance.new.levels c.best_levels-distance.result c.vector_of.result
    c.requires.job c.best_levels-distance.ensures.best c.vector_of.ensures).0

pub returns-clause-near : goal.returns-clause-near
returns-clause-near g c =
    (found_is c.args.job.now c.best_levels-distance.new.levels c.best_levels-distance.result c.vector_of.result
    c.requires.job c.best_levels-distance.ensures.best c.vector_of.ensures).1
