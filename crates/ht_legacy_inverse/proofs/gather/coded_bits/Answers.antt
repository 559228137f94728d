use Rattle.std.proofs.Common.{◌≡◌, ◌∙◌, ap, arith}
use Rattle.ht_conv.specs.Puncturing.{sent_count}
use Rattle.ht_clause18.specs.Rates.{needed_bits, pattern_of}
use Rattle.ht_legacy_inverse.proofs.Gathered.{coded-fit}
use Rattle.ht_legacy_inverse.proofs.gather.coded_bits.Goals as goal

pub returns-clause-within : goal.returns-clause-within
returns-clause-within c =
    let is : c.sent.result ≡ sent_count (pattern_of c.args.rate) (needed_bits c.args.octets) =
    c.sent.ensures ∙ (ap (λ p. sent_count p c.steps.result) c.pattern.ensures ∙ ap (sent_count (pattern_of c.args.rate)) c.steps.ensures.value) in
    omega (arith, is, coded-fit c.args.rate c.args.octets)
