-- The jobs of a capture, each with the head of its frame.
use Rattle.std.specs.Prelude.{ℕ, List, [], ◌∷◌, map}
use Rattle.std.specs.List.{flat_map}
use Rattle.ht_capture.specs.declared.items.FrameHead.{FrameHead}
use Rattle.ht_capture.specs.declared.items.Item.{Item}
use Rattle.ht_capture.specs.declared.items.Item.TheVariants.{Frame, Job, Done}
use Rattle.ht_capture.specs.Captures.{capture_of}
use Rattle.ht_capture_laws.specs.Items.{FrameJobs, frames_in}
use Rattle.ht_feed.specs.Items.{Headed as HeadedBy, headed_of}

-- a job with the head of its frame
abbrev pub Headed : Type 0
Headed = HeadedBy FrameHead

-- the jobs among items that came behind this head, each with the head that came last before it
abbrev pub headed : FrameHead → List Item → List Headed
headed head [] = []
headed head (Frame next ∷ items) = headed next items
headed head (Job job ∷ items) = headed_of head job ∷ headed head items
headed head (Done ∷ items) = headed head items

-- the jobs of frames, each with the head of its frame
abbrev pub headed_in : List FrameJobs → List Headed
headed_in frames = flat_map (λ f. map (headed_of f.head) f.jobs) frames

-- the jobs of the symbols that are whole in a list of octets
abbrev pub headed_jobs : List ℕ → List Headed
headed_jobs octets = headed_in (frames_in (capture_of octets).items)
