-- The items of a capture frame by frame: which jobs a frame has, and which of them its first symbols have.
use Rattle.std.specs.Prelude.{◌≡◌, ℕ, ◌*◌, ◌<◌, ◌≤◌, ◌^◌, List, [], ◌∷◌, ◌++◌, length, map, flat_map, not, nat_eq, Bool, false, All}
use Rattle.std.specs.List.{filter, range_with_len}
use Rattle.ht_rate.specs.Rates.{carriers_of, streams_of, symbols_of}
use Rattle.ht_metric.specs.declared.place.Place.{Place}
use Rattle.ht_metric.specs.Jobs.{JobView}
use Rattle.ht_capture.specs.declared.items.FrameHead.{FrameHead}
use Rattle.ht_capture.specs.declared.items.Item.{Item}
use Rattle.ht_capture.specs.declared.items.Item.TheVariants.{Frame, Job, Done}
use Rattle.ht_capture.specs.Files.{is_erased}
use Rattle.ht_capture.specs.Frames.{grid_at}

-- a frame as its items show it: its head, and the jobs up to the next head
pub record FrameJobs : Type 0 where
  pub head : FrameHead
  pub jobs : List JobView

-- the jobs in front of the next head
abbrev pub jobs_first : List Item → List JobView
jobs_first [] = []
jobs_first (Frame head ∷ items) = []
jobs_first (Job job ∷ items) = job ∷ jobs_first items
jobs_first (Done ∷ items) = jobs_first items

-- each head with its jobs
abbrev pub frames_in : List Item → List FrameJobs
frames_in [] = []
frames_in (Frame head ∷ items) = record { head = head; jobs = jobs_first items } ∷ frames_in items
frames_in (Job job ∷ items) = frames_in items
frames_in (Done ∷ items) = frames_in items

-- the items of a frame, and those of frames one after another
abbrev pub items_of_frame : FrameJobs → List Item
items_of_frame f = Frame f.head ∷ map Job f.jobs

abbrev pub items_in : List FrameJobs → List Item
items_in frames = flat_map items_of_frame frames

-- all jobs of frames
abbrev pub jobs_in : List FrameJobs → List JobView
jobs_in frames = flat_map (λ f. f.jobs) frames

-- the number of a frame's symbols
abbrev pub symbols_in : FrameHead → ℕ
symbols_in head = symbols_of head.rate head.length

-- the subcarriers that are present, in ascending order
abbrev pub present_below : ℕ → ℕ → List ℕ
present_below count erased = filter (λ carrier. not (is_erased erased carrier)) (range_with_len 0 count)

abbrev pub carriers_in : FrameHead → List ℕ
carriers_in head = present_below (carriers_of head.rate) head.erased

abbrev pub place_in : FrameHead → ℕ → ℕ → Place
place_in head symbol carrier = record { frame = head.frame; symbol = symbol; carrier = carrier }

-- the places of the jobs of a symbol, and of the first `count` symbols
abbrev pub symbol_places : FrameHead → ℕ → List Place
symbol_places head symbol = map (place_in head symbol) (carriers_in head)

abbrev pub places_in : FrameHead → ℕ → List Place
places_in head count = flat_map (symbol_places head) (range_with_len 0 count)

-- a job has the grid of its place, and a row for each stream
pub record IsJobOf (head : FrameHead) (job : JobView) : Type 0 where
  pub grid : job.grid ≡ grid_at head.rate job.place.symbol job.place.carrier
  pub rows : length job.system ≡ streams_of head.rate

-- the jobs of the frame are those of its first `count` symbols, subcarrier by subcarrier
pub record HasSymbols (f : FrameJobs) (count : ℕ) : Type 0 where
  pub places : map (λ job. job.place) f.jobs ≡ places_in f.head count
  pub jobs : All (IsJobOf f.head) f.jobs

-- the frame has the jobs of all its symbols
abbrev pub IsWholeFrame : FrameJobs → Type 0
IsWholeFrame f = HasSymbols f (symbols_in f.head)

-- the frame has the jobs of its first symbols, and not of all
abbrev pub IsFrontOfFrame : FrameJobs → Type 0
IsFrontOfFrame f = (count : ℕ) × (count < symbols_in f.head) × HasSymbols f count

-- whether a frame has as many jobs as all its symbols have
abbrev pub has_all_jobs : FrameJobs → Bool
has_all_jobs f = nat_eq (length f.jobs) (symbols_in f.head * length (carriers_in f.head))

-- the frames whose jobs all stand among the items, and those that are cut off
abbrev pub whole_frames : List Item → List FrameJobs
whole_frames items = filter has_all_jobs (frames_in items)

abbrev pub cut_frames : List Item → List FrameJobs
cut_frames items = filter (λ f. not (has_all_jobs f)) (frames_in items)

-- the head of a frame: an octet at least, a symbol at least, a subcarrier that is present, and no mark beyond the subcarriers
pub record IsHead (head : FrameHead) : Type 0 where
  pub some : 1 ≤ head.length
  pub symbols : 1 ≤ symbols_in head
  pub present : 1 ≤ length (carriers_in head)
  pub marks : head.erased < 2 ^ carriers_of head.rate

-- a place in a frame: a subcarrier that is present, in one of its symbols
pub record IsPlaceIn (head : FrameHead) (place : Place) : Type 0 where
  pub frame : place.frame ≡ head.frame
  pub symbol : place.symbol < symbols_in head
  pub carrier : place.carrier < carriers_of head.rate
  pub present : is_erased head.erased place.carrier ≡ false

-- a head behind these frames: it has their number, and they are whole
pub record IsNextHead (before : List FrameJobs) (head : FrameHead) : Type 0 where
  pub number : head.frame ≡ length before
  pub whole : All IsWholeFrame before
  pub good : IsHead head

-- a job behind these frames: it has the number of their jobs, and the next place of the last of them
pub record IsNextJob (before : List FrameJobs) (job : JobView) : Type 0 where
  pub whole : List FrameJobs
  pub frame : FrameJobs
  pub last : before ≡ whole ++ frame ∷ []
  pub are_whole : All IsWholeFrame whole
  pub number : job.number ≡ length (jobs_in before)
  pub behind : List Place
  pub place : places_in frame.head (symbols_in frame.head) ≡ map (λ j. j.place) frame.jobs ++ job.place ∷ behind
  pub of_frame : IsJobOf frame.head job
