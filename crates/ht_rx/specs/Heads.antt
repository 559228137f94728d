-- The jobs of a capture, each with the head of its frame.
use Rattle.std.specs.Prelude.{ℕ, List, map}
use Rattle.ht_metric.specs.Jobs.{JobView}
use Rattle.ht_results.specs.Heads.{Headed, headed_jobs}

-- the jobs without their heads
abbrev pub jobs_alone : List Headed → List JobView
jobs_alone jobs = map (λ (h : Headed). h.job) jobs

-- what is put in all of a list of octets, by a consumer that puts this of jobs
abbrev pub pieces_of_octets : {P : Type 0} → (List Headed → List P) → List ℕ → List P
pieces_of_octets pieces octets = pieces (headed_jobs octets)
