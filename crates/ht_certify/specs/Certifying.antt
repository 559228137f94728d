-- What a capture is certified by: the records of its data jobs, and the file of them.
use Rattle.std.specs.Prelude.{◌≡◌, ℕ, ◌+◌, List, [], ◌∷◌, ◌++◌}
use Rattle.ht_rate.specs.declared.kinds.Carrier.{Carrier}
use Rattle.ht_rate.specs.declared.kinds.Carrier.TheVariants.{Data, Pilot}
use Rattle.ht_rate.specs.declared.kinds.Modulation.{Modulation}
use Rattle.ht_rate.specs.declared.rates.Rate.{Rate}
use Rattle.ht_rate.specs.Carriers.{carrier_of, one_for}
use Rattle.ht_rate.specs.Rates.{modulation_of}
use Rattle.ht_metric.specs.Jobs.{JobView, near}
use Rattle.ht_sphere.specs.Coordinates.{from_last}
use Rattle.ht_witness.specs.declared.certificate.Certificate.{Certificate}
use Rattle.ht_witness.specs.Marking.{marks_of}
use Rattle.ht_capture.specs.declared.items.Item.{Item}
use Rattle.ht_capture.specs.declared.items.Item.TheVariants.{Frame, Job, Done}
use Rattle.ht_capture.specs.Captures.{capture_of}
use Rattle.ht_capture.specs.Fields.{captures}
use Rattle.ht_cert.specs.declared.record.Record.{Record}
use Rattle.ht_cert.specs.Files.{certificates_file_of}
use Rattle.ht_cert.specs.Records.{no_place}
use Rattle.ht_runs.specs.Filters.{Conversion, WithinOutput}
use Rattle.ht_runs.specs.Formats.{conversion}

-- the certificate of a job: its first nearest vector, the distance of that vector, and the marks of a walk from the empty
-- suffix that cuts a level exactly where its partial distance is above that distance
abbrev pub certificate_of : JobView → Certificate
certificate_of job = record {
  vector = (near job).vector;
  distance = (near job).distance;
  marks = marks_of (near job).distance (from_last job.system job.grid) [] 0;
}

-- a job as a file of certificates has it: with the number of its record, and no place
abbrev pub unplaced : ℕ → JobView → JobView
unplaced number job = record { number = number; place = no_place; grid = job.grid; system = job.system }

-- a job and its certificate
abbrev pub record_of : ℕ → Modulation → JobView → Record
record_of number modulation job = record { modulation = modulation; job = unplaced number job; certificate = certificate_of job }

-- the record of the job of a data subcarrier; the job of a pilot has none (IEEE Std 802.11-2012, clause 20.3.11.10)
abbrev pub record_for : Carrier → ℕ → Modulation → JobView → List Record
record_for (Data m) number modulation job = record_of number modulation job ∷ []
record_for (Pilot k) number modulation job = []

-- the records of the data jobs among items, where a head with this rate stands in front of the items, and this number of
-- records
abbrev pub records_behind : Rate → ℕ → List Item → List Record
records_behind rate number [] = []
records_behind rate number (Frame head ∷ items) = records_behind head.rate number items
records_behind rate number (Job job ∷ items) =
    record_for (carrier_of rate job.place.carrier) number (modulation_of rate) job
    ++ records_behind rate (number + one_for (carrier_of rate job.place.carrier)) items
records_behind rate number (Done ∷ items) = records_behind rate number items

-- the records of the data jobs among the items of a capture, each with the modulation of the last head in front of it
abbrev pub records_of : List Item → List Record
records_of [] = []
records_of (Frame head ∷ items) = records_behind head.rate 0 items
records_of (Job job ∷ items) = records_of items
records_of (Done ∷ items) = records_of items

-- the records of the data jobs of a capture, in order
abbrev pub certified : List ℕ → List Record
certified octets = records_of (capture_of octets).items

-- a capture, and the file of certificates of its data jobs
abbrev pub CertifiesTo : List ℕ → List ℕ → Type 0
CertifiesTo octets output = output ≡ certificates_file_of (certified octets)

-- A capture is read, and put is what it certifies to. Memory is taken from job to job, so it may run out between records:
-- then a part of the file from its front was put.
abbrev pub certifying : Conversion
certifying = conversion captures WithinOutput CertifiesTo
