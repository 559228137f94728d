-- What a reader of blocks gives: the heads of frames, and behind each the jobs of its frame. A block stands for a list
-- of jobs.
use Rattle.std.specs.Prelude.{◌≡◌, ℕ, ◌+◌, List, [], ◌∷◌}
use Rattle.ht_metric.specs.Jobs.{JobView}

-- the head of a frame, or one job
pub data Item (H : Type 0) : Type 0 where
  Begins : H → Item H
  One : JobView → Item H

-- a job with the head of its frame
pub record Headed (H : Type 0) : Type 0 where
  pub head : H
  pub job : JobView

module _ {H : Type 0} where
  -- this job, of a frame with this head
  abbrev pub headed_of : H → JobView → Headed H
  headed_of head job = record { head = head; job = job }

  -- the jobs among items that came behind this head, each with the head that came last before it
  abbrev pub headed : H → List (Item H) → List (Headed H)
  headed head [] = []
  headed head (Begins next ∷ items) = headed next items
  headed head (One job ∷ items) = headed_of head job ∷ headed head items

  -- the head that came last
  abbrev pub last_head : H → List (Item H) → H
  last_head head [] = head
  last_head head (Begins next ∷ items) = last_head next items
  last_head head (One job ∷ items) = last_head head items

  -- how many frames began
  abbrev pub frames_of : List (Item H) → ℕ
  frames_of [] = 0
  frames_of (Begins head ∷ items) = frames_of items + 1
  frames_of (One job ∷ items) = frames_of items

  -- the jobs alone
  abbrev pub jobs_of : List (Item H) → List JobView
  jobs_of [] = []
  jobs_of (Begins head ∷ items) = jobs_of items
  jobs_of (One job ∷ items) = job ∷ jobs_of items

-- the jobs have the numbers from this one on
abbrev pub Numbered : ℕ → List JobView → Type 0
Numbered n [] = Unit {0}
Numbered n (job ∷ jobs) = (job.number ≡ n) × Numbered (n + 1) jobs
