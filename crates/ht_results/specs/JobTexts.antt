-- What `detect` writes for a list of octets: a line for each job, and a last line.
use Rattle.std.specs.Prelude.{ℕ, ℤ, List, [], ◌∷◌, ◌++◌, codes, decimal}
use Rattle.std.specs.List.{flat_map}
use Rattle.ht_pam.specs.declared.point.Point.{Point}
use Rattle.ht_metric.specs.declared.found.Found.{Found}
use Rattle.ht_metric.specs.declared.place.Place.{Place}
use Rattle.ht_metric.specs.Jobs.{JobView, near}
use Rattle.ht_capture.specs.declared.items.Item.{Item}
use Rattle.ht_capture.specs.declared.items.Item.TheVariants.{Frame, Job, Done}
use Rattle.ht_capture.specs.Captures.{capture_of}
use Rattle.ht_text.specs.Lines.{job_text}
use Rattle.ht_results.specs.Texts.{last_line}

-- I and Q of each point in turn
abbrev pub levels_of : List Point → List ℤ
levels_of points = flat_map (λ p. p.i ∷ p.q ∷ []) points

-- what the lines of a symbol's jobs begin with
abbrev pub front_of : ℕ → ℕ → List ℕ
front_of frame symbol = codes "job " ++ decimal frame ++ codes " " ++ decimal symbol ++ codes " "

-- the line of a job from this place, of which this was found
abbrev pub line_at : Place → Found → List ℕ
line_at place found = job_text place.frame place.symbol place.carrier found.distance (levels_of found.vector)

-- the line of a job: its place, and its first nearest vector with the distance
unfoldable pub job_line_of : JobView → List ℕ
job_line_of job = line_at job.place (near job)

-- the lines of jobs, in order
abbrev pub job_lines : List JobView → List ℕ
job_lines [] = []
job_lines (job ∷ jobs) = job_line_of job ++ job_lines jobs

-- the jobs among the items of a capture
abbrev pub jobs_of : List Item → List JobView
jobs_of [] = []
jobs_of (Frame head ∷ items) = jobs_of items
jobs_of (Job job ∷ items) = job ∷ jobs_of items
jobs_of (Done ∷ items) = jobs_of items

-- the lines of the jobs of the symbols that are whole in a list of octets
unfoldable pub lines_of : List ℕ → List ℕ
lines_of octets = job_lines (jobs_of (capture_of octets).items)

-- the reference text of a list of octets
unfoldable pub detect_text : List ℕ → List ℕ
detect_text octets = lines_of octets ++ last_line octets
