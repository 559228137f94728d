-- Certificates of single data subcarriers, as C passes them.
use Rattle.std.specs.Prelude.{◌≡◌, ◌⊎◌, ◌↔◌, ℕ, ◌+◌, ◌*◌, ◌^◌, ◌≤◌, List, ◌++◌, length, take, drop, Bool, Option, None, Some}
use Rattle.ht_rate.specs.declared.rates.Rate.{Rate}
use Rattle.ht_rate.specs.Rates.{streams_of}
use Rattle.ht_witness.specs.Kinds.{carried_by, number_of}
use Rattle.ht_witness.specs.declared.certificate.Certificate.{Certificate}
use Rattle.ht_witness.specs.declared.check_fault.CheckFault.{CheckFault}
use Rattle.ht_library.specs.declared.crossing.MizgaureFlaw.{MizgaureFlaw}
use Rattle.ht_library.specs.declared.crossing.MizgaureHit.{MizgaureHit}
use Rattle.ht_library.specs.Detected.{IsHit}

-- what is claimed of a job at a rate: the points of its streams, their distance, and the marks that are to show it
abbrev pub claim_of : Rate → MizgaureHit → List Bool → Certificate
claim_of rate hit marks = record { vector = take (streams_of rate) hit.points; distance = hit.low + 2 ^ 64 * hit.high; marks = marks }

-- A certificate's marks stand at the front of their room, and what is behind them is as it was; where there are more, only their
-- number is said.
pub record PutsCertificate (room room' : List Bool) (size : ℕ) (hit hit' : MizgaureHit) (result : ℕ) (certificate : Certificate) : Type 0 where
  pub ends : (result ≡ 0) ⊎ (result ≡ 7)
  pub fits : (result ≡ 0) ↔ (length certificate.marks ≤ length room)
  pub size_is : size ≡ length certificate.marks
  pub put : result ≡ 0 → room' ≡ certificate.marks ++ drop (length certificate.marks) room
  pub found : result ≡ 0 → IsHit (record { vector = certificate.vector; distance = certificate.distance }) hit'
  pub kept : result ≡ 7 → (room' ≡ room) × (hit' ≡ hit)

-- what is wrong with a certificate, by the number of its kind and the number that goes with it
pub record HasFlaw (fault : CheckFault) (flaw : MizgaureFlaw) : Type 0 where
  pub kind : flaw.kind ≡ number_of fault
  pub at : flaw.low + 2 ^ 64 * flaw.high ≡ carried_by fault

-- something is wrong, and this is it
abbrev pub IsFlaw : Option CheckFault → MizgaureFlaw → Type 0
IsFlaw None flaw = ⊥
IsFlaw (Some fault) flaw = HasFlaw fault flaw
