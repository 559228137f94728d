-- The records of frames are those of the items of their capture.
use Rattle.std.proofs.Common.{◌≡◌, ℕ, zero, suc, ◌+◌, ◌*◌, List, [], ◌∷◌, ◌++◌, length, take, drop, map, flat_map, Result, Ok, Err, refl, sym, ap, subst}
use Rattle.std.proofs.Common.{◌∙◌, append_assoc, append-nil, inr}
use Rattle.std.proofs.lemmas.List.{length-map}
use Rattle.ht_io.specs.Devices.{Device, Grows, GrowsByPart}
use Rattle.ht_fields.specs.Cases.{File}
use Rattle.ht_fields.specs.Meanings.{Meaning}
use Rattle.ht_fields.proofs.Answered.{met}
use Rattle.ht_rate.specs.declared.kinds.Carrier.{Carrier}
use Rattle.ht_rate.specs.declared.kinds.Carrier.TheVariants.{Data, Pilot}
use Rattle.ht_rate.specs.declared.kinds.Modulation.{Modulation}
use Rattle.ht_rate.specs.declared.rates.Rate.{Rate}
use Rattle.ht_pam.specs.declared.axes.Axes.{Axes}
use Rattle.ht_rate.specs.Carriers.{carrier_of}
use Rattle.ht_rate.specs.Rates.{modulation_of, streams_of, symbols_of}
use Rattle.ht_map.specs.Constellation.{grid_of}
use Rattle.ht_metric.specs.declared.place.Place.{Place}
use Rattle.ht_metric.specs.declared.sample.Sample.{Sample}
use Rattle.ht_metric.specs.Rows.{Leg, rows_of}
use Rattle.ht_capture.specs.declared.frames.CaptureFrame.{CaptureFrame}
use Rattle.ht_capture.specs.declared.items.FrameHead.{FrameHead}
use Rattle.ht_capture.specs.declared.items.Item.{Item}
use Rattle.ht_capture.specs.declared.places.Present.{Present}
use Rattle.ht_capture.specs.Contents.{frame_jobs, head_of, items_from, items_of, job_of, presents_of, symbol_jobs}
use Rattle.ht_capture.specs.Fields.{captures}
use Rattle.ht_capture.specs.Files.{capture_file_of}
use Rattle.ht_capture.specs.Frames.{grid_at, grid_for}
use Rattle.ht_capture.specs.Taking.{ReadsCaptures}
use Rattle.ht_capture.proofs.Filed.{file_written}
use Rattle.ht_runs.specs.Converted.{Converted, TakesWhole}
use Rattle.ht_runs.specs.Filters.{SaysNothing, WithinOutput}
use Rattle.ht_runs.specs.declared.faults.RunFault.{RunFault}
use Rattle.ht_runs.specs.declared.faults.RunFault.TheVariants.{Format, Read, Write, NoMemory}
use Rattle.ht_runs.proofs.Converting.{takes_whole}
use Rattle.ht_cert.specs.declared.record.Record.{Record}
use Rattle.ht_cert.specs.Files.{certificates_file_of, record_octets, records_start}
use Rattle.ht_certify.specs.declared.subcarriers.Subcarrier.{Subcarrier}
use Rattle.ht_certify.specs.Writing.{Writes}
use Rattle.ht_certify.specs.Certifying.{CertifiesTo, certifying, record_for, records_of}
use Rattle.ht_certify.specs.Making.{file_of_frames, has_data, records_of_frame, records_of_frames, records_of_symbol, records_of_symbols, records_on}
use Rattle.ht_certify.specs.Making.{subcarrier_of, subcarriers_of}
use Rattle.ht_certify.proofs.Numberless.{Same, bare, same_bare, same_file}

-- a subcarrier that carries data has the full constellation
on_carrier : (c : Carrier) (rate : Rate) (number symbol : ℕ) (place : Place) (legs : List Leg) (samples : List Sample)
    → record_for c 0 (modulation_of rate) (record { number = number; place = place; grid = grid_for rate symbol c; system = rows_of legs samples })
    ≡ records_on (modulation_of rate) (grid_of rate) (record { carries_data = has_data c; triangle = legs }) samples
on_carrier (Data m) rate number symbol place legs samples = refl
on_carrier (Pilot k) rate number symbol place legs samples = refl

on_present : (head : FrameHead) (symbol number : ℕ) (p : Present) (samples : List Sample)
    → record_for (carrier_of head.rate p.carrier) 0 (modulation_of head.rate) (job_of head symbol number p samples)
    ≡ records_on (modulation_of head.rate) (grid_of head.rate) (subcarrier_of head.rate p) samples
unfolding grid_at
on_present head symbol number p samples =
    on_carrier (carrier_of head.rate p.carrier) head.rate number symbol (record { frame = head.frame; symbol = symbol; carrier = p.carrier }) p.triangle samples

-- the jobs of a symbol, and what is behind them
of_symbol : (head : FrameHead) (symbol number : ℕ) (present : List Present) (samples : List Sample) (more : List Item)
    → bare head.rate (symbol_jobs head symbol number present samples ++ more)
    ≡ records_of_symbol (modulation_of head.rate) (grid_of head.rate) (streams_of head.rate) (map (subcarrier_of head.rate) present) samples
    ++ bare head.rate more
of_symbol head symbol number [] samples more = refl
of_symbol head symbol number (p ∷ ps) samples more =
    let behind = drop (streams_of head.rate) samples in
    let here = records_on (modulation_of head.rate) (grid_of head.rate) (subcarrier_of head.rate p) samples in
    ap (λ (z : List Record). z ++ bare head.rate (symbol_jobs head symbol (number + 1) ps behind ++ more)) (on_present head symbol number p samples)
    ∙ (ap (λ (z : List Record). here ++ z) (of_symbol head symbol (number + 1) ps behind more)
    ∙ sym (append_assoc here _ (bare head.rate more)))

-- the jobs of a number of symbols, and what is behind them
of_symbols : (n : ℕ) (head : FrameHead) (symbol number : ℕ) (present : List Present) (samples : List Sample) (more : List Item)
    → bare head.rate (frame_jobs n head symbol number present samples ++ more)
    ≡ records_of_symbols (modulation_of head.rate) (grid_of head.rate) (streams_of head.rate) n (map (subcarrier_of head.rate) present) samples
    ++ bare head.rate more
of_symbols zero head symbol number present samples more = refl
of_symbols (suc n) head symbol number present samples more =
    let m = modulation_of head.rate in
    let g = grid_of head.rate in
    let s = streams_of head.rate in
    let ss = map (subcarrier_of head.rate) present in
    let w = length present * s in
    let jobs = symbol_jobs head symbol number present (take w samples) in
    let later = frame_jobs n head (symbol + 1) (number + length present) present (drop w samples) in
    let wide : w ≡ length ss * s = ap (λ k. k * s) (sym (length-map present (subcarrier_of head.rate))) in
    let first = records_of_symbol m g s ss (take w samples) in
    ap (λ (z : List Item). bare head.rate z) (append_assoc jobs later more)
    ∙ (of_symbol head symbol number present (take w samples) (later ++ more)
    ∙ (ap (λ (z : List Record). first ++ z) (of_symbols n head (symbol + 1) (number + length present) present (drop w samples) more)
    ∙ (sym (append_assoc first (records_of_symbols m g s n ss (drop w samples)) (bare head.rate more))
    ∙ ap (λ k. (records_of_symbol m g s ss (take k samples) ++ records_of_symbols m g s n ss (drop k samples)) ++ bare head.rate more) wide)))

-- the items of frames
pub of_frames : (rate : Rate) (frame number : ℕ) (fs : List CaptureFrame) → bare rate (items_from frame number fs) ≡ records_of_frames fs
unfolding items_from records_of_frame
of_frames rate frame number [] = refl
of_frames rate frame number (f ∷ fs) =
    let next = number + symbols_of f.rate f.length * length (presents_of f) in
    of_symbols (symbols_of f.rate f.length) (head_of frame f) 0 number (presents_of f) f.samples (items_from (frame + 1) next fs)
    ∙ ap (λ (z : List Record). records_of_frame f ++ z) (of_frames f.rate (frame + 1) next fs)

same_records : (fs : List CaptureFrame) → Same (records_of (items_of fs)) (records_of_frames fs)
unfolding items_from
same_records [] = record { count = refl; octets = refl }
same_records (f ∷ fs) =
    subst (λ (rs : List Record). Same (records_of (items_of (f ∷ fs))) rs) (of_frames f.rate 0 0 (f ∷ fs)) (same_bare f.rate 0 (items_from 0 0 (f ∷ fs)))

pub same_files : (fs : List CaptureFrame) → certificates_file_of (records_of (items_of fs)) ≡ file_of_frames fs
same_files fs = same_file (records_of (items_of fs)) (records_of_frames fs) (same_records fs)

-- the file is what stands in front of the records, and the records
pub file_parts : (fs : List CaptureFrame) → records_start (length (records_of_frames fs)) ++ flat_map record_octets (records_of_frames fs) ≡ file_of_frames fs
unfolding certificates_file_of
file_parts fs = refl

-- a frame from its parts
pub frame_made : (f : CaptureFrame) (m : Modulation) (g : List Axes) (n symbols : ℕ) (ss : List Subcarrier) (samples : List Sample)
    → m ≡ modulation_of f.rate → g ≡ grid_of f.rate → n ≡ streams_of f.rate → symbols ≡ symbols_of f.rate f.length → ss ≡ subcarriers_of f
    → samples ≡ f.samples → records_of_symbols m g n symbols ss samples ≡ records_of_frame f
unfolding records_of_frame
frame_made f m g n symbols ss samples em eg en ek es ex =
    ap (λ (x : Modulation). records_of_symbols x g n symbols ss samples) em
    ∙ (ap (λ (x : List Axes). records_of_symbols (modulation_of f.rate) x n symbols ss samples) eg
    ∙ (ap (λ x. records_of_symbols (modulation_of f.rate) (grid_of f.rate) x symbols ss samples) en
    ∙ (ap (λ x. records_of_symbols (modulation_of f.rate) (grid_of f.rate) (streams_of f.rate) x ss samples) ek
    ∙ (ap (λ (x : List Subcarrier). records_of_symbols (modulation_of f.rate) (grid_of f.rate) (streams_of f.rate) (symbols_of f.rate f.length) x samples) es
    ∙ ap (λ (x : List Sample). records_of_symbols (modulation_of f.rate) (grid_of f.rate) (streams_of f.rate) (symbols_of f.rate f.length)
    (subcarriers_of f) x) ex))))

-- the frames that were read certify to the file of their records, of which this was put
pub certifies : (a b c d : Device ℕ) (frames : List CaptureFrame) → ReadsCaptures a b frames → (Puts : List ℕ → Type 0)
    → Puts (file_of_frames frames) → TakesWhole certifying a b c d Puts
certifies a b c d frames (version, ((isv, fits, typed), all)) Puts put =
    let octets = capture_file_of version frames in
    let file = file_written version frames fits typed isv in
    let items = ap (λ (m : Meaning Item). m.items) (met captures octets (items_of frames) File file) in
    takes_whole captures WithinOutput CertifiesTo a b c octets (file_of_frames frames) (items_of frames) all file
    (sym (ap (λ (xs : List Item). certificates_file_of (records_of xs)) items ∙ same_files frames)) d Puts put

-- and so do what was put, or a part of it
pub converts : (a b c d : Device ℕ) (frames : List CaptureFrame) → ReadsCaptures a b frames → (result : Result (Unit {0}) RunFault)
    → Writes [] c d (file_of_frames frames) [] result → Converted certifying a b c d SaysNothing result
converts a b c d frames reads (Ok done) p =
    (certifies a b c d frames reads (λ xs. Grows c d xs) (subst (λ xs. Grows c d xs) (sym (p.all ∙ append-nil p.front)) p.put), tt)
converts a b c d frames reads (Err (Format fault)) p = absurd p.cause
converts a b c d frames reads (Err Read) p = absurd p.cause
converts a b c d frames reads (Err Write) p = (certifies a b c d frames reads (λ xs. GrowsByPart c d xs) p.part, p.cause)
converts a b c d frames reads (Err NoMemory) p = inr (certifies a b c d frames reads (λ xs. GrowsByPart c d xs) p.part)
