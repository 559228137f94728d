-- The subcarrier that a job is on.
use Rattle.ht_metric.specs.Arrays.{legs}
use Rattle.ht_metric.specs.Jobs.{JobView}
use Rattle.ht_capture.specs.declared.places.Present.{Present}

-- with its triangle
abbrev pub present_of : JobView → Present
present_of job = record { carrier = job.place.carrier; triangle = legs job.system }
