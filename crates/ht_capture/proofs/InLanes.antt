-- Eight subcarriers of a symbol in lanes.
use Rattle.std.proofs.Common.{◌≡◌, ℕ, ℤ, pos, zero, suc, ◌+◌, ◌-◌, ◌*◌, ◌<◌, ◌≤◌, Bool, true, false, if◌then◌else◌, List, [], ◌∷◌, ◌++◌, length, map}
use Rattle.std.proofs.Common.{drop, take, get_or, set, slice_index}
use Rattle.std.proofs.Common.{arith, refl, ap, subst, sym, inl, inr, ◌∙◌, slice_index_or, replicate}
use Rattle.std.specs.Int.{cast_signed, w32}
use Rattle.std.specs.List.{All, range_with_len}
use Rattle.std.specs.Ordering.{int_eq}
use Rattle.std.proofs.lemmas.Bool.{cases_lt}
use Rattle.std.proofs.lemmas.List.{get_or-set_same, get_or-set_other, length-set, length-map, map-append, take_more}
use Rattle.byteorder.specs.Endian.{big_number}
use Rattle.ht_metric.specs.Arrays.{legs, legs-rows_of}
use Rattle.ht_metric.specs.Jobs.{JobView}
use Rattle.ht_metric.specs.Rows.{Leg, no_row, rows_of}
use Rattle.ht_metric.specs.declared.sample.Sample.{Sample}
use Rattle.ht_pam.specs.declared.axes.Axes.{Axes}
use Rattle.ht_pam.specs.declared.point.Point.{Point}
use Rattle.ht_pilot.specs.Pilots.{pilot_of}
use Rattle.ht_rate.specs.Carriers.{carrier_of}
use Rattle.ht_rate.specs.Rates.{streams_of}
use Rattle.ht_rate.specs.declared.kinds.Carrier.{Carrier}
use Rattle.ht_rate.specs.declared.kinds.Carrier.TheVariants.{Data, Pilot}
use Rattle.ht_rate.specs.declared.rates.Rate.{Rate}
use Rattle.ht_rounding.specs.Columns.{AreColumns, ColumnsView, HasSample, HasSamples, IsLikePlain}
use Rattle.ht_rounding.specs.InLanes.{axes_of}
use Rattle.ht_rounding.specs.Labels.{IsLabelled}
use Rattle.ht_rounding.specs.Loading.{IsWord, no_job}
use Rattle.ht_rounding.specs.declared.eight.Labelled.{Labelled}
use Rattle.ht_rounding.specs.declared.levels.Levels.{Levels}
use Rattle.ht_rounding.specs.declared.levels.Levels.TheVariants.{One, Two, Four, Eight}
use Rattle.ht_rounding.specs.declared.streams.SampleLanes.{SampleLanes}
use Rattle.ht_capture.specs.declared.items.FrameHead.{FrameHead}
use Rattle.ht_capture.specs.declared.places.Present.{Present}
use Rattle.ht_capture.specs.declared.template.Template.{Template}
use Rattle.ht_capture.specs.Frames.{carrier_octets, grid_at, grid_for, job_at, one_point, pilot_grid}
use Rattle.ht_capture.specs.InColumns.{HasColumns, template_jobs}
use Rattle.ht_capture.specs.Numbers.{sample_at}
use Rattle.ht_capture.specs.Parts.{AreTemplates, IsTemplate, ShapeView, presents_of}
use Rattle.ht_capture.specs.Presents.{present_of}
use Rattle.ht_capture.specs.Systems.{samples_at}

-- one lane more
pub lanes-more : (holds : ℕ → ℕ → Type 0) (lanes : List ℕ) (k w : ℕ) → k < 8 → (length lanes ≡ 8) × ((j : ℕ) → j < k → holds j (slice_index lanes j))
    → holds k w → (length (set lanes k w) ≡ 8) × ((j : ℕ) → j < k + 1 → holds j (slice_index (set lanes k w) j))
lanes-more holds lanes k w lt before here = (
  length-set lanes k w ∙ before.0,
  λ j less. elim (cases_lt j k) [
    | inl earlier ↦
        subst (λ (n : ℕ). holds j n) (sym (get_or-set_other lanes k j w 0 (λ same. omega (arith, same, earlier)))) (before.1 j earlier)
    | inr later ↦
        let same : k ≡ j = omega (arith, less, later) in
        let word : holds k (slice_index (set lanes k w) k) =
        subst (λ (n : ℕ). holds k n) (sym (get_or-set_same lanes k w 0 (omega (arith, before.0, lt)))) here in
        subst (λ (m : ℕ). holds m (slice_index (set lanes k w) m)) same word
  ],
)

length-rows : (ls : List Leg) (ys : List Sample) → length (rows_of ls ys) ≡ length ls
length-rows [] ys = refl
length-rows (l ∷ ls) ys = ap suc (length-rows ls (drop 1 ys))

-- the sample of a row
sample-of : (ls : List Leg) (n r at : ℕ) (octets : List ℕ) → r < length ls → r < n
    → (slice_index_or (rows_of ls (samples_at n octets at)) r no_row).sample ≡ sample_at octets (at + 8 * r)
sample-of [] n r at octets lt few = absurd (omega (arith, lt))
sample-of (l ∷ ls) zero r at octets lt few = absurd (omega (arith, few))
sample-of (l ∷ ls) (suc n) zero at octets lt few = let place : at ≡ at + 8 * 0 = omega arith in ap (λ (m : ℕ). sample_at octets m) place
sample-of (l ∷ ls) (suc n) (suc r) at octets lt few =
    let place : at + 8 + 8 * r ≡ at + 8 * suc r = omega arith in
    sample-of ls n r (at + 8) octets (omega (arith, lt)) (omega (arith, few)) ∙ ap (λ (m : ℕ). sample_at octets m) place

number_at : List ℕ → ℕ → ℤ
number_at octets at = cast_signed w32 (big_number 4 (drop at octets))

pub row-heard : (re im : List ℕ) (k row streams at m : ℕ) (octets : List ℕ) (ls : List Leg) → 1 ≤ row → row ≤ streams → length ls ≡ streams
    → IsWord (slice_index re k) (cast_signed w32 (big_number 4 (drop (at + 8 * (row - 1) + m) octets)))
    → IsWord (slice_index im k) (cast_signed w32 (big_number 4 (drop (at + 8 * (row - 1) + 4 + m) octets)))
    → HasSample (record { re = re; im = im }) k row (rows_of ls (samples_at streams octets (at + m)))
unfolding sample_at
row-heard re im k row streams at m octets ls some le size one two =
    let is = sample-of ls streams (row - 1) (at + m) octets (omega (arith, some, le, size)) (omega (arith, some, le)) in
    let here : at + m + 8 * (row - 1) ≡ at + 8 * (row - 1) + m = omega arith in
    let there : at + m + 8 * (row - 1) + 4 ≡ at + 8 * (row - 1) + 4 + m = omega arith in
    record {
      re = λ _. subst (λ (z : ℤ). IsWord (slice_index re k) z)
          (sym (ap (λ (s : Sample). s.re) is ∙ ap (λ (n : ℕ). cast_signed w32 (big_number 4 (drop n octets))) here)) one;
      im = λ _. subst (λ (z : ℤ). IsWord (slice_index im k) z)
          (sym (ap (λ (s : Sample). s.im) is ∙ ap (λ (n : ℕ). cast_signed w32 (big_number 4 (drop n octets))) there)) two;
    }

pub none-heard : (re im : List ℕ) (k row streams : ℕ) (ls : List Leg) (ys : List Sample) → streams < row → length ls ≡ streams
    → HasSample (record { re = re; im = im }) k row (rows_of ls ys)
none-heard re im k row streams ls ys less size = record {
  re = λ le. absurd (omega (arith, le, less, size, length-rows ls ys));
  im = λ le. absurd (omega (arith, le, less, size, length-rows ls ys));
}

-- one template more
pub columns-more : (head : FrameHead) (templates : List Template) (at : ℕ) (t : Template) (was now : ColumnsView) → at < length templates
    → t ≡ get_or templates at t → HasColumns head (take at templates) was → now.modulation ≡ was.modulation → now.streams ≡ was.streams
    → ((jobs : List JobView) → AreColumns jobs was → AreColumns (jobs ++ t.job ∷ []) now) → HasColumns head (take (at + 1) templates) now
columns-more head templates at t was now lt is has em es more =
    let front = take at templates in
    let path : template_jobs front ++ t.job ∷ [] ≡ template_jobs (take (at + 1) templates) =
    sym (map-append (λ (x : Template). x.job) front (t ∷ []))
    ∙ ap (λ (ts : List Template). template_jobs ts) (ap (λ (x : Template). front ++ x ∷ []) is ∙ sym (take_more templates at t lt)) in
    record {
      modulation = em ∙ has.modulation;
      streams = es ∙ has.streams;
      channels = subst (λ (jobs : List JobView). AreColumns jobs now) path (more (template_jobs front) has.channels);
    }

-- a pilot has not all levels
mask_few : (b : Bool) (m : ℕ) (P : Type 0) → m ≡ (if b then 2 else 1) → m ≡ 3 → P
mask_few true m P is e = absurd (omega (arith, is, e))
mask_few false m P is e = absurd (omega (arith, is, e))

not_full : (v : ℤ) (i q : Levels) (P : Type 0) → one_point v ≡ axes_of i q → P
not_full v One q P e = let size : (axes_of One q).i.size ≡ 2 = ap (λ (a : Axes). a.i.size) (sym e) in absurd (omega (arith, size))
not_full v Two q P e = mask_few (int_eq v (pos 1)) (one_point v).i.mask P refl (ap (λ (a : Axes). a.i.mask) e)
not_full v Four q P e = let size : (axes_of Four q).i.size ≡ 2 = ap (λ (a : Axes). a.i.size) (sym e) in absurd (omega (arith, size))
not_full v Eight q P e = let size : (axes_of Eight q).i.size ≡ 2 = ap (λ (a : Axes). a.i.size) (sym e) in absurd (omega (arith, size))

first_of : (f : ℕ → Axes) (m n : ℕ) (x : Axes) → 1 ≤ m → map f (range_with_len 1 m) ≡ replicate n x → f 1 ≡ x
first_of f zero n x le e = absurd (omega (arith, le))
first_of f (suc m) zero x le e = ap (λ (xs : List Axes). get_or xs 0 x) e
first_of f (suc m) (suc n) x le e = ap (λ (xs : List Axes). get_or xs 0 x) e

grid_kind : (rate : Rate) (symbol n : ℕ) (i q : Levels) (kind : Carrier) → 1 ≤ streams_of rate → grid_for rate 0 kind ≡ replicate n (axes_of i q)
    → grid_for rate symbol kind ≡ grid_for rate 0 kind
unfolding pilot_grid
grid_kind rate symbol n i q (Data m) some e = refl
grid_kind rate symbol n i q (Pilot k) some e =
    not_full (pilot_of rate 0 k 1) i q (pilot_grid rate symbol k ≡ pilot_grid rate 0 k)
    (first_of (λ stream. one_point (pilot_of rate 0 k stream)) (streams_of rate) n (axes_of i q) some e)

grid_same : (rate : Rate) (symbol carrier n : ℕ) (i q : Levels) → 1 ≤ streams_of rate → grid_at rate 0 carrier ≡ replicate n (axes_of i q)
    → grid_at rate symbol carrier ≡ grid_at rate 0 carrier
unfolding grid_at
grid_same rate symbol carrier n i q some e = grid_kind rate symbol n i q (carrier_of rate carrier) some e

-- a job is like its template, where a lane can answer that
like_template : (head : FrameHead) (t : Template) (columns : ColumnsView) (symbol number at : ℕ) (octets : List ℕ) → IsTemplate head t
    → IsLikePlain columns t.job (job_at head symbol number (present_of t.job) octets at)
unfolding job_at
like_template head t columns symbol number at octets is plain =
    let some : 1 ≤ streams_of head.rate = omega (arith, plain.valid.grid.some, plain.valid.streams, is.streams) in
    record {
      grid = grid_same head.rate symbol t.job.place.carrier columns.streams _ _ some (sym is.grid ∙ plain.grid) ∙ sym is.grid;
      channel = legs-rows_of (legs t.job.system) (samples_at (streams_of head.rate) octets at);
    }

-- the template that has so many others before it
record IsTemplateAt (head : FrameHead) (templates : List Template) (n : ℕ) (d : Present) (t : Template) : Type 0 where
  pub is : IsTemplate head t
  pub job : slice_index_or (template_jobs templates) n no_job ≡ t.job
  pub present : get_or (presents_of templates) n d ≡ present_of t.job

template_at : (head : FrameHead) (templates : List Template) (n : ℕ) (d : Present) → All (IsTemplate head) templates → n < length templates
    → (t : Template) × IsTemplateAt head templates n d t
template_at head [] n d each lt = absurd (omega (arith, lt))
template_at head (t ∷ ts) zero d each lt = (t, record { is = each 0 t lt; job = refl; present = refl })
template_at head (t ∷ ts) (suc n) d each lt =
    let found = template_at head ts n d (λ k e less. each (suc k) e (omega (arith, less))) (omega (arith, lt)) in
    (found.0, record { is = found.1.is; job = found.1.job; present = found.1.present })

-- lanes that label each job like a template, on which this was heard, label the jobs of a symbol
pub symbol_labelled : (head : FrameHead) (templates : List Template) (columns : ColumnsView) (samples : SampleLanes) (label : Point → ℕ) (r : Labelled)
    (k at j symbol number : ℕ) (octets : List ℕ) (d : Present) → AreTemplates head templates → HasColumns head templates columns
    → k + 8 ≤ length (presents_of templates) → j < 8
    → ((ls : List Leg) → length ls ≡ streams_of head.rate
    → HasSamples samples j (rows_of ls (samples_at (streams_of head.rate) octets (at + j * carrier_octets head.rate))))
    → ((jobs : List JobView) (job : JobView) → AreColumns jobs columns → k + 8 ≤ length jobs
    → IsLikePlain columns (slice_index_or jobs (k + j) no_job) job → HasSamples samples j job.system → IsLabelled label r j job)
    → IsLabelled label r j (job_at head symbol number (get_or (presents_of templates) (k + j) d) octets (at + j * carrier_octets head.rate))
unfolding job_at
symbol_labelled head templates columns samples label r k at j symbol number octets d are has within lt heard labels =
    let size = length-map templates (λ (t : Template). present_of t.job) in
    let jobs_size = length-map templates (λ (t : Template). t.job) in
    let found = template_at head templates (k + j) d are.each (omega (arith, within, size, lt)) in
    let t = found.0 in
    let there = at + j * carrier_octets head.rate in
    let job = job_at head symbol number (present_of t.job) octets there in
    let like : IsLikePlain columns (slice_index_or (template_jobs templates) (k + j) no_job) job =
    subst (λ (other : JobView). IsLikePlain columns other job) (sym found.1.job) (like_template head t columns symbol number there octets found.1.is) in
    let streams : length (legs t.job.system) ≡ streams_of head.rate = length-map t.job.system _ ∙ found.1.is.streams in
    subst (λ (p : Present). IsLabelled label r j (job_at head symbol number p octets there)) (sym found.1.present)
    (labels (template_jobs templates) job has.channels (omega (arith, within, size, jobs_size)) like (heard (legs t.job.system) streams))

-- the same of a symbol that is seen in its own place
pub symbol_job : (label : Point → ℕ) (r : Labelled) (shape seen : ShapeView) (symbol number : ℕ) (octets own : List ℕ) (k j at : ℕ) (d : Present)
    → shape ≡ seen → octets ≡ own → at ≡ k * carrier_octets seen.head.rate
    → IsLabelled label r j (job_at shape.head symbol number (get_or shape.present (k + j) d) octets (at + j * carrier_octets shape.head.rate))
    → IsLabelled label r j (job_at seen.head symbol number (get_or seen.present (k + j) d) own ((k + j) * carrier_octets seen.head.rate))
symbol_job label r shape seen symbol number octets own k j at d es eo e h =
    let w = carrier_octets seen.head.rate in
    let place : at + j * w ≡ (k + j) * w = omega (arith, e) in
    let moved : IsLabelled label r j (job_at seen.head symbol number (get_or seen.present (k + j) d) octets (at + j * w)) =
    subst (λ (s : ShapeView). IsLabelled label r j (job_at s.head symbol number (get_or s.present (k + j) d) octets (at + j * carrier_octets s.head.rate)))
    es h in
    subst (λ (n : ℕ). IsLabelled label r j (job_at seen.head symbol number (get_or seen.present (k + j) d) own n)) place
    (subst (λ (os : List ℕ). IsLabelled label r j (job_at seen.head symbol number (get_or seen.present (k + j) d) os (at + j * w))) eo moved)
