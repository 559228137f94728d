-- Certificates and records by computation.
use Rattle.std.specs.Prelude.{◌≡◌, ℕ, List, [], ◌∷◌, map, pos, negsuc, true, false, refl}
use Rattle.ht_rate.specs.declared.kinds.Modulation.{Modulation}
use Rattle.ht_rate.specs.declared.kinds.Modulation.TheVariants.{Bpsk, Qpsk}
use Rattle.ht_rate.specs.Carriers.{carrier_at, carrier_of}
use Rattle.ht_rate.specs.Rates.{bandwidth_of, modulation_of, rate_at}
use Rattle.ht_metric.specs.Jobs.{JobView}
use Rattle.ht_capture.specs.declared.items.FrameHead.{FrameHead}
use Rattle.ht_capture.specs.declared.items.Item.{Item}
use Rattle.ht_capture.specs.declared.items.Item.TheVariants.{Frame, Job}
use Rattle.ht_cert.specs.declared.record.Record.{Record}
use Rattle.ht_certify.specs.Certifying.{certificate_of, records_of}

-- a job in BPSK on one stream, with d = 10 and y = (3, -4)
job_on_carrier : ℕ → JobView
job_on_carrier carrier = record {
  number = 9;
  place = record { frame = 0; symbol = 2; carrier = carrier };
  grid = record { i = record { size = 2; mask = 3 }; q = record { size = 1; mask = 1 } } ∷ [];
  system = record { diagonal = 10; right = []; sample = record { re = pos 3; im = negsuc 3 } } ∷ [];
}

-- the vector (1, 0) at 65, and the marks open, cut and open
one : certificate_of (job_on_carrier 0) ≡ record { vector = record { i = pos 1; q = pos 0 } ∷ []; distance = 65; marks = true ∷ false ∷ true ∷ [] }
unfolding job_on_carrier
one = refl

head_of_mcs : ℕ → FrameHead
head_of_mcs mcs = record { frame = 0; rate = rate_at 0 mcs; length = 1; erased = 0 }

kinds : List Item → List (ℕ × Modulation)
kinds items = map (λ (r : Record). (r.job.number, r.modulation)) (records_of items)

-- subcarrier 7 is a pilot at 20 MHz; each record has the modulation of the last head in front of it
two : kinds (Frame (head_of_mcs 0) ∷ Job (job_on_carrier 6) ∷ Job (job_on_carrier 7) ∷ Frame (head_of_mcs 1) ∷ Job (job_on_carrier 8) ∷ [])
    ≡ (0, Bpsk) ∷ (1, Qpsk) ∷ []
unfolding kinds job_on_carrier head_of_mcs rate_at carrier_of carrier_at bandwidth_of modulation_of
two = refl
