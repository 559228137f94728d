-- The records of frames, subcarrier by subcarrier. All have the number 0: the octets of a record don't tell its number.
use Rattle.std.specs.Prelude.{ℕ, zero, suc, ◌*◌, List, [], ◌∷◌, ◌++◌, length, take, drop, map, flat_map, Bool, true, false, if◌then◌else◌}
use Rattle.ht_rate.specs.declared.kinds.Carrier.{Carrier}
use Rattle.ht_rate.specs.declared.kinds.Carrier.TheVariants.{Data, Pilot}
use Rattle.ht_rate.specs.declared.kinds.Modulation.{Modulation}
use Rattle.ht_rate.specs.declared.rates.Rate.{Rate}
use Rattle.ht_rate.specs.Carriers.{carrier_of}
use Rattle.ht_rate.specs.Rates.{modulation_of, streams_of, symbols_of}
use Rattle.ht_map.specs.Constellation.{grid_of}
use Rattle.ht_pam.specs.declared.axes.Axes.{Axes}
use Rattle.ht_metric.specs.declared.sample.Sample.{Sample}
use Rattle.ht_metric.specs.Jobs.{JobView}
use Rattle.ht_metric.specs.Rows.{Leg, rows_of}
use Rattle.ht_capture.specs.declared.frames.CaptureFrame.{CaptureFrame}
use Rattle.ht_capture.specs.declared.places.Present.{Present}
use Rattle.ht_capture.specs.Contents.{presents_of}
use Rattle.ht_cert.specs.declared.record.Record.{Record}
use Rattle.ht_cert.specs.Files.{certificates_file_of}
use Rattle.ht_cert.specs.Records.{no_place}
use Rattle.ht_certify.specs.declared.subcarriers.Subcarrier.{Subcarrier}
use Rattle.ht_certify.specs.Certifying.{record_of}

abbrev pub has_data : Carrier → Bool
has_data (Data m) = true
has_data (Pilot k) = false

-- the subcarriers of a frame that are present, in ascending order
abbrev pub subcarrier_of : Rate → Present → Subcarrier
subcarrier_of rate p = record { carries_data = has_data (carrier_of rate p.carrier); triangle = p.triangle }

abbrev pub subcarriers_of : CaptureFrame → List Subcarrier
subcarriers_of f = map (subcarrier_of f.rate) (presents_of f)

-- the job of a triangle with the first of these samples
abbrev pub job_on : List Axes → List Leg → List Sample → JobView
job_on grid legs samples = record { number = 0; place = no_place; grid = grid; system = rows_of legs samples }

-- the records of a subcarrier in a symbol, whose samples come first: one where it carries data
abbrev pub records_on : Modulation → List Axes → Subcarrier → List Sample → List Record
records_on modulation grid s samples = if s.carries_data then record_of 0 modulation (job_on grid s.triangle samples) ∷ [] else []

-- those of a symbol, which has `streams` samples for each subcarrier
abbrev pub records_of_symbol : Modulation → List Axes → ℕ → List Subcarrier → List Sample → List Record
records_of_symbol modulation grid streams [] samples = []
records_of_symbol modulation grid streams (s ∷ ss) samples =
    records_on modulation grid s samples ++ records_of_symbol modulation grid streams ss (drop streams samples)

-- those of a number of symbols
abbrev pub records_of_symbols : Modulation → List Axes → ℕ → ℕ → List Subcarrier → List Sample → List Record
records_of_symbols modulation grid streams zero ss samples = []
records_of_symbols modulation grid streams (suc n) ss samples =
    records_of_symbol modulation grid streams ss (take (length ss * streams) samples)
    ++ records_of_symbols modulation grid streams n ss (drop (length ss * streams) samples)

-- those of a frame, and of frames one behind another
unfoldable pub records_of_frame : CaptureFrame → List Record
records_of_frame f =
    records_of_symbols (modulation_of f.rate) (grid_of f.rate) (streams_of f.rate) (symbols_of f.rate f.length) (subcarriers_of f) f.samples

abbrev pub records_of_frames : List CaptureFrame → List Record
records_of_frames frames = flat_map records_of_frame frames

-- the file of them
abbrev pub file_of_frames : List CaptureFrame → List ℕ
file_of_frames frames = certificates_file_of (records_of_frames frames)
