-- What is sent of a frame comes back.
use Rattle.std.proofs.Common.{◌≡◌, ℕ, List, length}
use Rattle.ht_rate.specs.Rates.{symbols_of}
use Rattle.ht_scramble.specs.Sequence.{IsSeed}
use Rattle.ht_landing.specs.Landings.{coded_bit_of}
use Rattle.ht_landing.proofs.Landed.{coded_bit_of-lands}
use Rattle.ht_tx.specs.Frames.{FrameView}
use Rattle.ht_tx.specs.Coded.{coded_of}
use Rattle.ht_inverse.specs.declared.outcome.Outcome.TheVariants.{Octets}
use Rattle.ht_inverse.specs.Decoding.{decoded_frame}
use Rattle.ht_inverse.specs.Sent.{HoldCoded}
use Rattle.ht_inverse.proofs.Back.{come_back}
use Rattle.ht_round.specs.Returns.{AreLabelsOf, AreOctets}
use Rattle.ht_round.proofs.Parts.{coded-of}

-- the labels of a frame hold what its encoders send
hold : (f : FrameView) (labels : List ℕ) → AreLabelsOf f labels → HoldCoded f.rate (symbols_of f.rate (length f.octets)) labels (coded_of f)
hold f labels are = λ l is within.
    let from = coded_bit_of f.rate l in
    let label = are l.symbol l.carrier l.stream within is.carrier is.stream_low is.stream_high in
    label.bits from.0 from.1 l.bit (coded_bit_of-lands f.rate l is).1

pub sent_comes_back : (f : FrameView) (labels : List ℕ) → IsSeed f.seed → AreOctets f.octets → AreLabelsOf f labels
    → decoded_frame f.rate (length f.octets) 0 labels ≡ record { outcome = Octets f.octets; code = 0 }
sent_comes_back f labels is bytes are =
    come_back f.rate f.seed f.octets labels (coded_of f) is (λ k lt. bytes k 0 lt) (coded-of f) (hold f labels are)
