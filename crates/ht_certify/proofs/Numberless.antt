-- The octets of a record don't tell its number, so the records of a capture may all have the number 0.
use Rattle.std.proofs.Common.{◌≡◌, ℕ, ◌+◌, List, [], ◌∷◌, ◌++◌, length, flat_map, refl, ap, ◌∙◌, suc}
use Rattle.ht_rate.specs.declared.kinds.Carrier.{Carrier}
use Rattle.ht_rate.specs.declared.kinds.Carrier.TheVariants.{Data, Pilot}
use Rattle.ht_rate.specs.declared.kinds.Modulation.{Modulation}
use Rattle.ht_rate.specs.declared.rates.Rate.{Rate}
use Rattle.ht_rate.specs.Carriers.{carrier_of, one_for}
use Rattle.ht_rate.specs.Rates.{modulation_of}
use Rattle.ht_metric.specs.Jobs.{JobView}
use Rattle.ht_capture.specs.declared.items.Item.{Item}
use Rattle.ht_capture.specs.declared.items.Item.TheVariants.{Frame, Job, Done}
use Rattle.ht_cert.specs.declared.record.Record.{Record}
use Rattle.ht_cert.specs.Files.{certificates_file_of, claim_octets, front_octets, record_octets, records_start}
use Rattle.ht_certify.specs.Certifying.{record_for, record_of, records_behind}

-- as many records, with the same octets
pub record Same (xs ys : List Record) : Type 0 where
  pub count : length xs ≡ length ys
  pub octets : flat_map record_octets xs ≡ flat_map record_octets ys

-- make the same file
pub same_file : (xs ys : List Record) → Same xs ys → certificates_file_of xs ≡ certificates_file_of ys
unfolding certificates_file_of
same_file xs ys s =
    ap (λ n. records_start n ++ flat_map record_octets xs) s.count ∙ ap (λ z. records_start (length ys) ++ z) s.octets

numberless : (number : ℕ) (modulation : Modulation) (job : JobView)
    → record_octets (record_of number modulation job) ≡ record_octets (record_of 0 modulation job)
unfolding record_octets front_octets claim_octets
numberless number modulation job = refl

-- the records of data jobs, all with the number 0
abbrev pub bare : Rate → List Item → List Record
bare rate [] = []
bare rate (Frame head ∷ items) = bare head.rate items
bare rate (Job job ∷ items) = record_for (carrier_of rate job.place.carrier) 0 (modulation_of rate) job ++ bare rate items
bare rate (Done ∷ items) = bare rate items

same_for : (c : Carrier) (number : ℕ) (modulation : Modulation) (job : JobView) (xs ys : List Record) → Same xs ys
    → Same (record_for c number modulation job ++ xs) (record_for c 0 modulation job ++ ys)
same_for (Data m) number modulation job xs ys s = record {
  count = ap suc s.count;
  octets = ap (λ z. z ++ flat_map record_octets xs) (numberless number modulation job)
      ∙ ap (λ z. record_octets (record_of 0 modulation job) ++ z) s.octets;
}
same_for (Pilot k) number modulation job xs ys s = s

pub same_bare : (rate : Rate) (number : ℕ) (items : List Item) → Same (records_behind rate number items) (bare rate items)
same_bare rate number [] = record { count = refl; octets = refl }
same_bare rate number (Frame head ∷ items) = same_bare head.rate number items
same_bare rate number (Job job ∷ items) =
    same_for (carrier_of rate job.place.carrier) number (modulation_of rate) job _ _
    (same_bare rate (number + one_for (carrier_of rate job.place.carrier)) items)
same_bare rate number (Done ∷ items) = same_bare rate number items
