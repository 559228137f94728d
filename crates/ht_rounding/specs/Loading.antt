-- The numbers of jobs as words of 32 bits.
use Rattle.std.specs.Prelude.{◌≡◌, ℕ, ℤ, unsigned_abs, ◌-◌, ◌^◌, ◌<◌, ◌≤◌, List, [], ◌∷◌, length, replicate, slice_index, slice_index_or}
use Rattle.std.specs.Int.{cast_signed, w32}
use Rattle.ht_rounding.specs.Words.{Holds}
use Rattle.ht_rounding.specs.declared.rows.Parts.{Parts}
use Rattle.ht_rounding.specs.declared.streams.RowLanes.{RowLanes}
use Rattle.ht_rounding.specs.InLanes.{AreRowsIn, Finds, IsRowIn, axes_of, points_at}
use Rattle.ht_metric.specs.Rows.{Row, no_row, no_tap}
use Rattle.ht_metric.specs.Jobs.{JobView, IsJob, near}
use Rattle.ht_rounding.specs.declared.levels.Levels.{Levels}
use Rattle.ht_rounding.specs.declared.streams.Channel.{Channel}
use Rattle.ht_rounding.specs.declared.streams.Four.{Four}
use Rattle.ht_rounding.specs.declared.streams.SampleLanes.{SampleLanes}
use Rattle.ht_metric.specs.declared.found.Found.{Found}
use Rattle.ht_rounding.specs.declared.loading.Part.{Part}
use Rattle.ht_rounding.specs.declared.loading.Part.TheVariants.{Diagonal, SampleRe, SampleIm, EntryRe, EntryIm}

-- the word holds a number of 32 bits, and one of 16 bits
pub record IsWord (n : ℕ) (z : ℤ) : Type 0 where
  pub held : Holds n z
  pub within : unsigned_abs z ≤ 2 ^ 31

pub record IsShort (n : ℕ) (z : ℤ) : Type 0 where
  pub is : cast_signed w32 n ≡ z
  pub few : unsigned_abs z ≤ 2 ^ 15

-- the word is a number of 16 bits without a sign
pub record IsDiagonal (n d : ℕ) : Type 0 where
  pub is : n ≡ d
  pub few : n < 2 ^ 16

-- the word is this part of a row that has so many streams behind its own
abbrev pub IsPart : Part → ℕ → Row → ℕ → Type 0
IsPart Diagonal behind row n = IsDiagonal n row.diagonal
IsPart SampleRe behind row n = IsWord n row.sample.re
IsPart SampleIm behind row n = IsWord n row.sample.im
IsPart (EntryRe m) behind row n = m < behind → IsShort n (slice_index_or row.right m no_tap).re
IsPart (EntryIm m) behind row n = m < behind → IsShort n (slice_index_or row.right m no_tap).im

-- the word is this part of row `number` of these, counted from 1, where they have it
abbrev pub IsPartOf : Part → ℕ → List Row → ℕ → Type 0
IsPartOf part number rows n = number ≤ length rows → IsPart part (length rows - number) (slice_index_or rows (number - 1) no_row) n

-- a job where there is none
abbrev pub no_job : JobView
no_job = record { number = 0; place = record { frame = 0; symbol = 0; carrier = 0 }; grid = []; system = [] }

-- each lane has this part of its job's row
abbrev pub HaveParts : Part → ℕ → List JobView → List ℕ → Type 0
HaveParts part number jobs lanes = (k : ℕ) → k < 8 → IsPartOf part number (slice_index_or jobs k no_job).system (slice_index lanes k)

-- lane k has row `number` of these, counted from 1, where they have it
abbrev pub IsRowOf : RowLanes → Parts → ℕ → ℕ → List Row → Type 0
IsRowOf lanes y k number rows = number ≤ length rows
    → IsRowIn lanes y k (length rows - number) (slice_index_or rows (number - 1) no_row)

-- each lane has the diagonal of its job's row
abbrev pub HaveDiagonals : ℕ → List JobView → List ℕ → Type 0
HaveDiagonals number jobs lanes = (k : ℕ) → k < 8 → (let rows = (slice_index_or jobs k no_job).system in
    number ≤ length rows → slice_index lanes k ≡ (slice_index_or rows (number - 1) no_row).diagonal)

-- what was found where there is nothing
abbrev pub no_found : Found
no_found = record { vector = []; distance = 0 }

-- each of eight jobs has so many streams
abbrev pub HaveStreams : ℕ → List JobView → Type 0
HaveStreams streams jobs = (k : ℕ) → k < 8 → length (slice_index_or jobs k no_job).system ≡ streams

-- lane k has these rows, at most four
abbrev pub IsLoaded : Channel → SampleLanes → ℕ → List Row → Type 0
IsLoaded channel samples k rows = length rows ≤ 4 → AreRowsIn (channel.first ∷ channel.second ∷ channel.third ∷ channel.fourth ∷ [])
    (samples.first ∷ samples.second ∷ samples.third ∷ samples.fourth ∷ []) k rows

-- a job that a lane can answer: all these levels are allowed on each of so many streams
pub record IsPlain (i q : Levels) (streams : ℕ) (job : JobView) : Type 0 where
  pub valid : IsJob job
  pub grid : job.grid ≡ replicate streams (axes_of i q)

-- where something is to spare in lane k, and a lane can answer job k, it has
abbrev pub Answers : Levels → Levels → ℕ → List JobView → Four → Type 0
Answers i q streams jobs found = (k : ℕ) → k < 8 → 0 < slice_index found.first.spare k → IsPlain i q streams (slice_index_or jobs k no_job)
    → Finds (points_at streams found k) (slice_index found.first.rho k) (slice_index_or jobs k no_job)

-- what was found for each of eight jobs
abbrev pub AreNear : List Found → List JobView → Type 0
AreNear founds jobs = (k : ℕ) → k < 8 → slice_index_or founds k no_found ≡ near (slice_index_or jobs k no_job)

-- each distance is below 2^66
abbrev pub AreBelow : List Found → Type 0
AreBelow founds = (k : ℕ) → k < 8 → (slice_index_or founds k no_found).distance < 2 ^ 66
