-- What a hit says.
use Rattle.ht_metric.specs.declared.found.Found.{Found}
use Rattle.ht_metric.specs.declared.hit.Hit.{Hit}
use Rattle.ht_metric.specs.Jobs.{JobView}

-- what was found for the job
abbrev pub found_of : Hit → Found
found_of hit = record { vector = hit.vector; distance = hit.distance }

-- the job with what was found for it
abbrev pub parts_of : Hit → JobView × Found
parts_of hit = (hit.job, found_of hit)
