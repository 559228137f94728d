use Rattle.std.proofs.Common.{ℕ, ◌+◌, ◌∙◌, ap, subst}
use Rattle.ht_rate.specs.declared.rates.Rate.{Rate}
use Rattle.ht_inverse.specs.declared.outcome.Outcome.{Outcome}
use Rattle.ht_inverse.specs.Decoding.{joined_bits, outcome_of}
use Rattle.ht_soft.specs.declared.soft_decoded.SoftDecoded.{SoftDecoded}
use Rattle.ht_soft.specs.Frames.{AreSoftCodewords, soft_codeword_of, soft_decoded_frame, soft_input_of}
use Rattle.ht_soft.proofs.SoftFrames.{soft-bits, soft-costs}
use Rattle.ht_soft.proofs.frames.soft_frame.Goals as goal

pub returns : goal.returns
unfolding soft_decoded_frame
returns c =
    let r = c.args.rate.now in
    let octets = c.args.octets in
    let erased = c.args.erased in
    let weights = c.args.weights.now in
    let first = c.in_ok-first.first in
    let second = c.in_ok-second.second in
    let are : AreSoftCodewords r octets erased weights first second =
    subst (λ (e : ℕ). AreSoftCodewords r octets e weights first second) c.in_ok-table.ensures.erased
    (subst (λ (s : Rate). AreSoftCodewords s octets c.in_ok-table.table.first.erased weights first second) c.in_ok-table.ensures.rate
    (record {
      first_is = c.in_ok-first.ensures.value ∙ ap
          (soft_codeword_of c.in_ok-table.table.first.rate octets c.in_ok-table.table.first.erased weights) c.in_ok-table.table.encoder;
      second_is = c.in_ok-second.ensures.value;
    })) in
    let made : Outcome → ℕ → SoftDecoded = λ o n. record { outcome = o; cost = n } in
    let outcome = outcome_of (joined_bits r octets (soft_input_of r octets erased weights)) in
    ap (λ o. made o (c.from.result + c.from-2.result)) (c.in_ok-outcome.ensures ∙ ap outcome_of (soft-bits r octets erased weights first second are))
    ∙ (ap (λ n. made outcome (n + c.from-2.result)) c.from.ensures
    ∙ (ap (λ n. made outcome (first.cost + n)) c.from-2.ensures ∙ ap (made outcome) (soft-costs r octets erased weights first second are)))
