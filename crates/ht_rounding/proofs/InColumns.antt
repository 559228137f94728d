-- Channels in columns, and eight of them in lanes.
use Rattle.std.proofs.Common.{◌≡◌, ℕ, zero, suc, ◌+◌, ◌-◌, ◌<◌, ◌≤◌, List, [], ◌∷◌, ◌++◌, length, slice_index, slice_index_or}
use Rattle.std.proofs.Common.{arith, refl, ap, subst, sym, inl, inr, ◌∙◌}
use Rattle.std.proofs.lemmas.Bool.{cases_lt}
use Rattle.std.proofs.lemmas.List.{get_or-append_right, get_or_append_left, length-append, length-map}
use Rattle.ht_metric.specs.declared.tap.Tap.{Tap}
use Rattle.ht_metric.specs.Arrays.{legs}
use Rattle.ht_metric.specs.Jobs.{JobView}
use Rattle.ht_metric.specs.Rows.{Leg, Row, no_leg, no_row, no_tap}
use Rattle.ht_pam.specs.Grids.{IsGrid}
use Rattle.ht_pam.specs.declared.axes.Axes.{Axes}
use Rattle.ht_rounding.specs.declared.levels.Levels.{Levels}
use Rattle.ht_rounding.specs.declared.loading.Part.TheVariants.{EntryRe, EntryIm}
use Rattle.ht_rounding.specs.declared.rows.Parts.{Parts}
use Rattle.ht_rounding.specs.declared.streams.Channel.{Channel}
use Rattle.ht_rounding.specs.declared.streams.RowLanes.{RowLanes}
use Rattle.ht_rounding.specs.declared.streams.SampleLanes.{SampleLanes}
use Rattle.ht_rounding.specs.Columns.{AreColumns, AreEntries, AreRows, ArePlain, ColumnsView, EntriesReach, EntryWords, HasEach, RowWords}
use Rattle.ht_rounding.specs.Columns.{HasLeg, HasLegs, HasSample, HasSamples, IsLike, IsLikePlain, Reaches, RowReaches}
use Rattle.ht_rounding.specs.InLanes.{IsInLane}
use Rattle.ht_rounding.specs.Labels.{i_levels, q_levels}
use Rattle.ht_rounding.specs.Loading.{IsLoaded, IsPartOf, IsPlain, IsRowOf, IsShort, no_job}
use Rattle.ht_rounding.proofs.Answered.{plain-in-lane}
use Rattle.ht_rounding.proofs.Loaded.{row-loaded, rows-loaded}

-- one word more
pub each-more : (holds : JobView → ℕ → Type 0) (jobs : List JobView) (column : List ℕ) (job : JobView) (n : ℕ) → holds job n → HasEach holds jobs column
    → HasEach holds (jobs ++ job ∷ []) (column ++ n ∷ [])
each-more holds jobs column job n one each =
    let long = length-append jobs (job ∷ []) in
    record {
      count = length-append column (n ∷ []) ∙ (ap (λ (m : ℕ). m + 1) each.count ∙ sym long);
      words = λ k lt. elim (cases_lt k (length jobs)) [
        | inl less ↦
            let here : k < length column = omega (arith, less, each.count) in
            let word : holds (slice_index_or jobs k no_job) (slice_index (column ++ n ∷ []) k) =
            subst (λ (m : ℕ). holds (slice_index_or jobs k no_job) m) (sym (get_or_append_left column (n ∷ []) 0 k here)) (each.words k less) in
            subst (λ (j : JobView). holds j (slice_index (column ++ n ∷ []) k)) (sym (get_or_append_left jobs (job ∷ []) no_job k less)) word
        | inr more ↦
            let last : k ≡ length jobs = omega (arith, lt, more, long) in
            let none : k - length jobs ≡ 0 = omega (arith, last) in
            let other : k - length column ≡ 0 = omega (arith, last, each.count) in
            let far : length column ≤ k = omega (arith, more, each.count) in
            let job_is : slice_index_or (jobs ++ job ∷ []) k no_job ≡ job =
            get_or-append_right jobs (job ∷ []) (length jobs) k no_job refl more ∙ ap (λ (m : ℕ). slice_index_or (job ∷ []) m no_job) none in
            let word_is : slice_index (column ++ n ∷ []) k ≡ n =
            get_or-append_right column (n ∷ []) (length column) k 0 refl far ∙ ap (λ (m : ℕ). slice_index (n ∷ []) m) other in
            subst (λ (j : JobView). holds j (slice_index (column ++ n ∷ []) k)) (sym job_is) (subst (λ (m : ℕ). holds job m) (sym word_is) one)
      ];
    }

-- the parts of a row are those of its leg
diagonal-at : (xs : List Row) (n : ℕ) → (slice_index_or (legs xs) n no_leg).diagonal ≡ (slice_index_or xs n no_row).diagonal
diagonal-at [] n = refl
diagonal-at (x ∷ xs) zero = refl
diagonal-at (x ∷ xs) (suc n) = diagonal-at xs n

right-at : (xs : List Row) (n : ℕ) → (slice_index_or (legs xs) n no_leg).right ≡ (slice_index_or xs n no_row).right
right-at [] n = refl
right-at (x ∷ xs) zero = refl
right-at (x ∷ xs) (suc n) = right-at xs n

diagonal-like : (xs ys : List Row) (n : ℕ) → legs ys ≡ legs xs → (slice_index_or ys n no_row).diagonal ≡ (slice_index_or xs n no_row).diagonal
diagonal-like xs ys n e = sym (diagonal-at ys n) ∙ (ap (λ (ls : List Leg). (slice_index_or ls n no_leg).diagonal) e ∙ diagonal-at xs n)

right-like : (xs ys : List Row) (n : ℕ) → legs ys ≡ legs xs → (slice_index_or ys n no_row).right ≡ (slice_index_or xs n no_row).right
right-like xs ys n e = sym (right-at ys n) ∙ (ap (λ (ls : List Leg). (slice_index_or ls n no_leg).right) e ∙ right-at xs n)

size-like : (xs ys : List Row) → legs ys ≡ legs xs → length ys ≡ length xs
size-like xs ys e = sym (length-map ys _) ∙ (ap length e ∙ length-map xs _)

-- what a lane has of a channel it has of each system of that channel
re-like : (m number : ℕ) (xs ys : List Row) (w : ℕ) → legs ys ≡ legs xs → IsPartOf (EntryRe m) number xs w → IsPartOf (EntryRe m) number ys w
re-like m number xs ys w e h le lt =
    let size = size-like xs ys e in
    subst (λ (right : List Tap). IsShort w (slice_index_or right m no_tap).re) (sym (right-like xs ys (number - 1) e))
    (h (omega (arith, size, le)) (omega (arith, size, lt)))

im-like : (m number : ℕ) (xs ys : List Row) (w : ℕ) → legs ys ≡ legs xs → IsPartOf (EntryIm m) number xs w → IsPartOf (EntryIm m) number ys w
im-like m number xs ys w e h le lt =
    let size = size-like xs ys e in
    subst (λ (right : List Tap). IsShort w (slice_index_or right m no_tap).im) (sym (right-like xs ys (number - 1) e))
    (h (omega (arith, size, le)) (omega (arith, size, lt)))

-- a row with its sample
row-like : (lanes : RowLanes) (y : Parts) (k number : ℕ) (xs ys : List Row) → legs ys ≡ legs xs → HasLeg lanes k number xs → HasSample y k number ys
    → IsRowOf lanes y k number ys
row-like lanes y k number xs ys e leg heard =
    let same = diagonal-like xs ys (number - 1) e in
    let size = size-like xs ys e in
    row-loaded lanes y k number ys
    (λ le. leg.diagonal (omega (arith, size, le)) ∙ sym same)
    (re-like 0 number xs ys _ e leg.next_re) (im-like 0 number xs ys _ e leg.next_im)
    (re-like 1 number xs ys _ e leg.second_re) (im-like 1 number xs ys _ e leg.second_im)
    (re-like 2 number xs ys _ e leg.third_re) (im-like 2 number xs ys _ e leg.third_im) heard.re heard.im

pub legs-loaded : (channel : Channel) (samples : SampleLanes) (k : ℕ) (xs ys : List Row) → legs ys ≡ legs xs → HasLegs channel k xs → HasSamples samples k ys
    → IsLoaded channel samples k ys
legs-loaded channel samples k xs ys e all heard few =
    rows-loaded _ _ _ _ _ _ _ _ k ys few (row-like channel.first samples.first k 1 xs ys e all.first heard.first)
    (row-like channel.second samples.second k 2 xs ys e all.second heard.second)
    (row-like channel.third samples.third k 3 xs ys e all.third heard.third)
    (row-like channel.fourth samples.fourth k 4 xs ys e all.fourth heard.fourth)

-- a lane can answer each job that is like one that it can answer
pub plain-like : (i q : Levels) (n : ℕ) (other job : JobView) → IsLike other job → IsPlain i q n other → IsPlain i q n job
plain-like i q n other job like plain =
    let size = size-like other.system job.system like.channel in
    record {
      valid = record {
        grid = subst (λ (g : List Axes). IsGrid g) (sym like.grid) plain.valid.grid;
        streams = ap length like.grid ∙ (plain.valid.streams ∙ sym size);
      };
      grid = like.grid ∙ plain.grid;
    }

-- what lanes have of the job that has so many others before it they have of each job like it
pub job-in-lane : (columns : ColumnsView) (streams : ℕ) (channel : Channel) (samples : SampleLanes) (at k : ℕ) (jobs : List JobView) (job : JobView) (n : ℕ)
    → streams ≡ columns.streams → AreColumns jobs columns → at + 8 ≤ length jobs → k < 8 → IsLikePlain columns (slice_index_or jobs (at + k) no_job) job
    → HasSamples samples k job.system → n ≡ slice_index columns.plain (at + k) → HasLegs channel k (slice_index_or jobs (at + k) no_job).system → 0 < n
    → IsInLane (i_levels columns.modulation) (q_levels columns.modulation) channel samples k streams job
job-in-lane columns streams channel samples at k jobs job n e are room lt like heard word all some =
    let other = slice_index_or jobs (at + k) no_job in
    let i = i_levels columns.modulation in
    let q = q_levels columns.modulation in
    let here = are.plain.words (at + k) (omega (arith, room, lt)) in
    let plain : IsPlain i q columns.streams other = here.1 (subst (λ (m : ℕ). 0 < m) word some) in
    let same = like plain in
    let loaded : IsLoaded channel samples k job.system = legs-loaded channel samples k other.system job.system same.channel all heard in
    subst (λ (m : ℕ). IsInLane i q channel samples k m job) (sym e)
    (plain-in-lane i q channel samples k columns.streams job (plain-like i q columns.streams other job same plain) loaded)

-- one more test of a job
pub plain-more : (i q a b : Levels) (streams : ℕ) (jobs : List JobView) (was now : List ℕ) (job : JobView) (n : ℕ) → length job.system ≡ streams → a ≡ i → b ≡ q
    → (0 < n → IsPlain a b streams job) → now ≡ was ++ n ∷ [] → ArePlain i q streams jobs was → ArePlain i q streams (jobs ++ job ∷ []) now
plain-more i q a b streams jobs was now job n size ea eb can is are =
    let plain : 0 < n → IsPlain i q streams job = λ some.
    subst (λ (l : Levels). IsPlain l q streams job) ea (subst (λ (l : Levels). IsPlain a l streams job) eb (can some)) in
    let holds : JobView → ℕ → Type 0 = λ j m. (length j.system ≡ streams) × (0 < m → IsPlain i q streams j) in
    subst (λ (column : List ℕ). ArePlain i q streams (jobs ++ job ∷ []) column) (sym is) (each-more holds jobs was job n (size, plain) are)

-- columns reach as far as there are jobs
entries-reach : (streams number m n : ℕ) (jobs : List JobView) (entries : EntryWords) → n ≤ length jobs → AreEntries streams number m jobs entries
    → number + 1 + m ≤ streams → EntriesReach n entries
entries-reach streams number m n jobs entries le are has = record { re = omega (arith, le, (are has).0.count); im = omega (arith, le, (are has).1.count) }

row-reaches : (streams number n : ℕ) (jobs : List JobView) (rows : RowWords) → n ≤ length jobs → AreRows streams number jobs rows
    → RowReaches streams number n rows
row-reaches streams number n jobs rows le are = record {
  diagonal = λ has. omega (arith, le, (are.diagonal has).count);
  next = λ has. entries-reach streams number 0 n jobs rows.next le are.next (omega (arith, has));
  second = λ has. entries-reach streams number 1 n jobs rows.second le are.second (omega (arith, has));
  third = λ has. entries-reach streams number 2 n jobs rows.third le are.third (omega (arith, has));
}

pub reaches : (n : ℕ) (jobs : List JobView) (columns : ColumnsView) → n ≤ length jobs → AreColumns jobs columns → Reaches n columns
reaches n jobs columns le are = record {
  some = are.some;
  few = are.few;
  first = row-reaches columns.streams 1 n jobs columns.first le are.first;
  second = row-reaches columns.streams 2 n jobs columns.second le are.second;
  third = row-reaches columns.streams 3 n jobs columns.third le are.third;
  fourth = row-reaches columns.streams 4 n jobs columns.fourth le are.fourth;
  plain = omega (arith, le, are.plain.count);
}
