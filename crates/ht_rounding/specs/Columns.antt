-- The channels of a frame's subcarriers in columns, one word for each subcarrier.
use Rattle.std.specs.Prelude.{◌≡◌, ℕ, ◌+◌, ◌-◌, ◌<◌, ◌≤◌, List, length, slice_index, slice_index_or}
use Rattle.ht_metric.specs.Arrays.{legs}
use Rattle.ht_metric.specs.Jobs.{JobView}
use Rattle.ht_metric.specs.Rows.{Row, no_row}
use Rattle.ht_rate.specs.declared.kinds.Modulation.{Modulation}
use Rattle.ht_rounding.specs.declared.columns.EntryColumns.{EntryColumns}
use Rattle.ht_rounding.specs.declared.columns.RowColumns.{RowColumns}
use Rattle.ht_rounding.specs.declared.columns.Table.{Table}
use Rattle.ht_rounding.specs.declared.levels.Levels.{Levels}
use Rattle.ht_rounding.specs.declared.loading.Part.{Part}
use Rattle.ht_rounding.specs.declared.loading.Part.TheVariants.{Diagonal, SampleRe, SampleIm, EntryRe, EntryIm}
use Rattle.ht_rounding.specs.declared.rows.Parts.{Parts}
use Rattle.ht_rounding.specs.declared.streams.Channel.{Channel}
use Rattle.ht_rounding.specs.declared.streams.RowLanes.{RowLanes}
use Rattle.ht_rounding.specs.declared.streams.SampleLanes.{SampleLanes}
use Rattle.ht_rounding.specs.Labels.{i_levels, q_levels}
use Rattle.ht_rounding.specs.Loading.{IsPartOf, IsPlain, no_job}

-- the words of both parts of an entry, one for each subcarrier
pub record EntryWords : Type 0 where
  pub re : List ℕ
  pub im : List ℕ

-- the words of a row
pub record RowWords : Type 0 where
  pub diagonal : List ℕ
  pub next : EntryWords
  pub second : EntryWords
  pub third : EntryWords

-- the columns of a frame of this modulation and so many streams; `plain` is positive where a lane can answer
pub record ColumnsView : Type 0 where
  pub modulation : Modulation
  pub streams : ℕ
  pub first : RowWords
  pub second : RowWords
  pub third : RowWords
  pub fourth : RowWords
  pub plain : List ℕ

-- what stands in memory as columns
abbrev pub entry_words : EntryColumns → EntryWords
entry_words e = record { re = e.re.items; im = e.im.items }

abbrev pub row_words : RowColumns → RowWords
row_words r = record { diagonal = r.diagonal.items; next = entry_words r.next; second = entry_words r.second; third = entry_words r.third }

abbrev pub words_of : Table → ColumnsView
words_of t = record {
  modulation = t.modulation;
  streams = t.streams;
  first = row_words t.first;
  second = row_words t.second;
  third = row_words t.third;
  fourth = row_words t.fourth;
  plain = t.plain.items;
}

-- a column has a word for each of these jobs, of which this holds
pub record HasEach (holds : JobView → ℕ → Type 0) (jobs : List JobView) (column : List ℕ) : Type 0 where
  pub count : length column ≡ length jobs
  pub words : (k : ℕ) → k < length jobs → holds (slice_index_or jobs k no_job) (slice_index column k)

-- a column has this part of row `number`, counted from 1
abbrev pub IsColumn : Part → ℕ → List JobView → List ℕ → Type 0
IsColumn part number jobs column = HasEach (λ job n. IsPartOf part number job.system n) jobs column

-- columns have this entry of row `number`, where there are so many streams
abbrev pub AreEntries : ℕ → ℕ → ℕ → List JobView → EntryWords → Type 0
AreEntries streams number m jobs entries = number + 1 + m ≤ streams
    → IsColumn (EntryRe m) number jobs entries.re × IsColumn (EntryIm m) number jobs entries.im

-- columns have row `number` of jobs of so many streams
pub record AreRows (streams number : ℕ) (jobs : List JobView) (rows : RowWords) : Type 0 where
  pub diagonal : number ≤ streams → IsColumn Diagonal number jobs rows.diagonal
  pub next : AreEntries streams number 0 jobs rows.next
  pub second : AreEntries streams number 1 jobs rows.second
  pub third : AreEntries streams number 2 jobs rows.third

-- each job has so many streams, and where its word is positive, a lane can answer it
abbrev pub ArePlain : Levels → Levels → ℕ → List JobView → List ℕ → Type 0
ArePlain i q streams jobs column = HasEach (λ job n. (length job.system ≡ streams) × (0 < n → IsPlain i q streams job)) jobs column

-- columns have the channels of these jobs, each of another subcarrier
pub record AreColumns (jobs : List JobView) (columns : ColumnsView) : Type 0 where
  pub some : 1 ≤ columns.streams
  pub few : columns.streams ≤ 4
  pub first : AreRows columns.streams 1 jobs columns.first
  pub second : AreRows columns.streams 2 jobs columns.second
  pub third : AreRows columns.streams 3 jobs columns.third
  pub fourth : AreRows columns.streams 4 jobs columns.fourth
  pub plain : ArePlain (i_levels columns.modulation) (q_levels columns.modulation) columns.streams jobs columns.plain

-- columns have at least so many words
pub record EntriesReach (n : ℕ) (entries : EntryWords) : Type 0 where
  pub re : n ≤ length entries.re
  pub im : n ≤ length entries.im

pub record RowReaches (streams number n : ℕ) (rows : RowWords) : Type 0 where
  pub diagonal : number ≤ streams → n ≤ length rows.diagonal
  pub next : number + 1 ≤ streams → EntriesReach n rows.next
  pub second : number + 2 ≤ streams → EntriesReach n rows.second
  pub third : number + 3 ≤ streams → EntriesReach n rows.third

pub record Reaches (n : ℕ) (columns : ColumnsView) : Type 0 where
  pub some : 1 ≤ columns.streams
  pub few : columns.streams ≤ 4
  pub first : RowReaches columns.streams 1 n columns.first
  pub second : RowReaches columns.streams 2 n columns.second
  pub third : RowReaches columns.streams 3 n columns.third
  pub fourth : RowReaches columns.streams 4 n columns.fourth
  pub plain : n ≤ length columns.plain

-- lane k has row `number` of these without its sample, where they have it
pub record HasLeg (lanes : RowLanes) (k number : ℕ) (rows : List Row) : Type 0 where
  pub diagonal : number ≤ length rows → slice_index lanes.diagonal k ≡ (slice_index_or rows (number - 1) no_row).diagonal
  pub next_re : IsPartOf (EntryRe 0) number rows (slice_index lanes.next.re k)
  pub next_im : IsPartOf (EntryIm 0) number rows (slice_index lanes.next.im k)
  pub second_re : IsPartOf (EntryRe 1) number rows (slice_index lanes.second.re k)
  pub second_im : IsPartOf (EntryIm 1) number rows (slice_index lanes.second.im k)
  pub third_re : IsPartOf (EntryRe 2) number rows (slice_index lanes.third.re k)
  pub third_im : IsPartOf (EntryIm 2) number rows (slice_index lanes.third.im k)

pub record HasLegs (channel : Channel) (k : ℕ) (rows : List Row) : Type 0 where
  pub first : HasLeg channel.first k 1 rows
  pub second : HasLeg channel.second k 2 rows
  pub third : HasLeg channel.third k 3 rows
  pub fourth : HasLeg channel.fourth k 4 rows

-- lane k has the sample of row `number` of these, where they have it
pub record HasSample (y : Parts) (k number : ℕ) (rows : List Row) : Type 0 where
  pub re : IsPartOf SampleRe number rows (slice_index y.re k)
  pub im : IsPartOf SampleIm number rows (slice_index y.im k)

pub record HasSamples (samples : SampleLanes) (k : ℕ) (rows : List Row) : Type 0 where
  pub first : HasSample samples.first k 1 rows
  pub second : HasSample samples.second k 2 rows
  pub third : HasSample samples.third k 3 rows
  pub fourth : HasSample samples.fourth k 4 rows

-- a job has the constellations and the channel of another one
pub record IsLike (other job : JobView) : Type 0 where
  pub grid : job.grid ≡ other.grid
  pub channel : legs job.system ≡ legs other.system

-- the same where a lane can answer that one
abbrev pub IsLikePlain : ColumnsView → JobView → JobView → Type 0
IsLikePlain columns other job =
    IsPlain (i_levels columns.modulation) (q_levels columns.modulation) columns.streams other → IsLike other job
