-- The certificates of a capture hold.
use Rattle.std.proofs.Common.{ℕ, ◌+◌, List, [], ◌∷◌, ◌++◌, refl}
use Rattle.std.specs.List.{AllByRecursion}
use Rattle.ht_rate.specs.declared.kinds.Carrier.{Carrier}
use Rattle.ht_rate.specs.declared.kinds.Carrier.TheVariants.{Data, Pilot}
use Rattle.ht_rate.specs.declared.kinds.Modulation.{Modulation}
use Rattle.ht_rate.specs.declared.rates.Rate.{Rate}
use Rattle.ht_rate.specs.Carriers.{carrier_of, one_for}
use Rattle.ht_rate.specs.Rates.{modulation_of}
use Rattle.ht_metric.specs.Jobs.{IsJob, JobView}
use Rattle.ht_metric.proofs.Finding.{is_near}
use Rattle.ht_witness.specs.Certificates.{Checked}
use Rattle.ht_witness.proofs.Accepting.{accepted}
use Rattle.ht_capture.specs.declared.items.Item.{Item}
use Rattle.ht_capture.specs.declared.items.Item.TheVariants.{Frame, Job, Done}
use Rattle.ht_cert.specs.declared.record.Record.{Record}
use Rattle.ht_certify.specs.Certifying.{certificate_of, record_for, records_behind, records_of, unplaced}

holds : (job : JobView) → IsJob job → Checked job (certificate_of job)
holds job is = accepted job (certificate_of job) is (is_near job is.grid) refl refl

abbrev pub Holds : Record → Type 0
Holds r = IsJob r.job → Checked r.job r.certificate

hold_for : (c : Carrier) (number : ℕ) (modulation : Modulation) (job : JobView) (xs : List Record) → AllByRecursion Holds xs
    → AllByRecursion Holds (record_for c number modulation job ++ xs)
hold_for (Data m) number modulation job xs rest = (λ is. holds (unplaced number job) is, rest)
hold_for (Pilot k) number modulation job xs rest = rest

hold_behind : (rate : Rate) (number : ℕ) (items : List Item) → AllByRecursion Holds (records_behind rate number items)
hold_behind rate number [] = tt
hold_behind rate number (Frame head ∷ items) = hold_behind head.rate number items
hold_behind rate number (Job job ∷ items) =
    hold_for (carrier_of rate job.place.carrier) number (modulation_of rate) job _
    (hold_behind rate (number + one_for (carrier_of rate job.place.carrier)) items)
hold_behind rate number (Done ∷ items) = hold_behind rate number items

pub all_hold : (items : List Item) → AllByRecursion Holds (records_of items)
all_hold [] = tt
all_hold (Frame head ∷ items) = hold_behind head.rate 0 items
all_hold (Job job ∷ items) = all_hold items
all_hold (Done ∷ items) = all_hold items
