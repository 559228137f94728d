-- How many records frames have.
use Rattle.std.proofs.Common.{◌≡◌, ℕ, zero, suc, ◌+◌, ◌*◌, ◌<◌, ◌≤◌, List, [], ◌∷◌, ◌++◌, length, take, drop}
use Rattle.std.proofs.Common.{count_by, cond, Bool, true, false, if◌then◌else◌, refl, sym, subst, ◌∙◌, arith}
use Rattle.std.proofs.lemmas.List.{length-append}
use Rattle.std.proofs.lemmas.List.Sums.{count_by-le-length, sum_by-cons}
use Rattle.ht_rate.specs.declared.kinds.Modulation.{Modulation}
use Rattle.ht_pam.specs.declared.axes.Axes.{Axes}
use Rattle.ht_metric.specs.declared.sample.Sample.{Sample}
use Rattle.ht_cert.specs.declared.record.Record.{Record}
use Rattle.ht_certify.specs.declared.subcarriers.Subcarrier.{Subcarrier}
use Rattle.ht_certify.specs.Certifying.{record_of}
use Rattle.ht_certify.specs.Making.{job_on, records_of_frame, records_of_symbol, records_of_symbols, subcarriers_of}
use Rattle.ht_capture.specs.declared.frames.CaptureFrame.{CaptureFrame}
use Rattle.ht_rate.specs.declared.rates.Rate.{Rate}
use Rattle.ht_rate.specs.Rates.{carriers_of, data_bits_of, modulation_of, needed_bits_of, streams_of, symbols_of}
use Rattle.ht_capture.proofs.Bounds.{jobs_few}
use Rattle.ht_map.specs.Constellation.{grid_of}

-- the subcarriers that carry data
abbrev pub data_among : List Subcarrier → ℕ
data_among ss = count_by (λ (s : Subcarrier). s.carries_data) ss

one_if : (b : Bool) (r : Record) (rest : List Record) (n : ℕ) → length rest ≡ n → length ((if b then r ∷ [] else []) ++ rest) ≡ cond b 1 0 + n
one_if true r rest n is = omega (arith, is)
one_if false r rest n is = omega (arith, is)

pub length-symbol : (m : Modulation) (g : List Axes) (n : ℕ) (ss : List Subcarrier) (samples : List Sample)
    → length (records_of_symbol m g n ss samples) ≡ data_among ss
length-symbol m g n [] samples = refl
length-symbol m g n (s ∷ ss) samples =
    one_if s.carries_data (record_of 0 m (job_on g s.triangle samples)) (records_of_symbol m g n ss (drop n samples)) (data_among ss)
    (length-symbol m g n ss (drop n samples))
    ∙ sym (sum_by-cons (λ (x : Subcarrier). cond x.carries_data 1 0) s ss)

pub length-symbols : (m : Modulation) (g : List Axes) (n symbols : ℕ) (ss : List Subcarrier) (samples : List Sample)
    → length (records_of_symbols m g n symbols ss samples) ≡ symbols * data_among ss
length-symbols m g n zero ss samples = omega arith
length-symbols m g n (suc k) ss samples =
    let times : suc k * data_among ss ≡ data_among ss + k * data_among ss = omega arith in
    omega (
      arith,
      length-append (records_of_symbol m g n ss (take (length ss * n) samples)) (records_of_symbols m g n k ss (drop (length ss * n) samples)),
      length-symbol m g n ss (take (length ss * n) samples),
      length-symbols m g n k ss (drop (length ss * n) samples),
      times,
    )

pub length-frame : (f : CaptureFrame) → length (records_of_frame f) ≡ symbols_of f.rate f.length * data_among (subcarriers_of f)
unfolding records_of_frame
length-frame f =
    length-symbols (modulation_of f.rate) (grid_of f.rate) (streams_of f.rate) (symbols_of f.rate f.length) (subcarriers_of f) f.samples

pub data_few : (ss : List Subcarrier) → data_among ss ≤ length ss
data_few ss = count_by-le-length (λ (s : Subcarrier). s.carries_data) ss

-- a record for each symbol and each subcarrier that carries data
pub records_few : (r : Rate) (len n symbols : ℕ) (ss : List Subcarrier) → len ≤ 65535 → n ≡ symbols → symbols ≤ 20166
    → symbols * data_bits_of r < needed_bits_of r len + data_bits_of r → length ss ≤ carriers_of r → n * data_among ss ≤ 1129296
records_few r len n symbols ss most is high least few =
    jobs_few r len n (data_among ss) most (omega (arith, is, high)) (subst (λ k. k * data_bits_of r < needed_bits_of r len + data_bits_of r) (sym is) least)
    (omega (arith, data_few ss, few))
