use Rattle.std.proofs.Common.{◌≡◌, ◌∙◌, refl, ap}
use Rattle.std.proofs.lemmas.Result.{IfOk-weaker}
use Rattle.ht_rate.specs.Rates.{encoders_of, steps_of}
use Rattle.ht_parse.specs.Encoders.{list_of}
use Rattle.ht_inverse.specs.Decoding.{joined_bits, outcome_of}
use Rattle.ht_inverse.proofs.Codewords.{joined-is, joined-whole, parsed-by, untailed-shares}
use Rattle.ht_inverse.proofs.bits.inputs_come_to.Goals as goal

pub join_encoders-requires : goal.join_encoders-requires
join_encoders-requires c =
    rw (c.without_tail.ensures, c.without_tail-2.ensures)
    (untailed-shares c.args.rate.now (steps_of c.args.rate.now c.args.octets) (encoders_of c.args.rate.now) c.args.first.now c.args.second.now refl
    c.requires.first c.requires.second)

pub come_to-requires-clause-service : goal.come_to-requires-clause-service
come_to-requires-clause-service c =
    (joined-whole c.args.rate.now c.args.octets c.args.first.now c.args.second.now c.in_ok-bits.bits.items c.without_tail.result.now
    c.without_tail-2.result.now c.as_mut_slice.result.now c.without_tail.ensures c.without_tail-2.ensures c.in_ok-bits.ensures c.requires.first
    c.as_mut_slice.ensures.value).0

pub come_to-requires-clause-octets : goal.come_to-requires-clause-octets
come_to-requires-clause-octets c =
    (joined-whole c.args.rate.now c.args.octets c.args.first.now c.args.second.now c.in_ok-bits.bits.items c.without_tail.result.now
    c.without_tail-2.result.now c.as_mut_slice.result.now c.without_tail.ensures c.without_tail-2.ensures c.in_ok-bits.ensures c.requires.first
    c.as_mut_slice.ensures.value).1

pub returns : goal.returns
returns c =
    let is = parsed-by c.args.rate.now c.in_ok-bits.bits.items c.args.first.now c.args.second.now c.without_tail.result.now c.without_tail-2.result.now
    c.without_tail.ensures c.without_tail-2.ensures c.in_ok-bits.ensures in
    let bits = joined-is c.args.rate.now c.args.octets c.args.first.now c.args.second.now c.in_ok-bits.bits.items c.requires.first c.requires.second is in
    IfOk-weaker c.come_to.result (λ outcome. outcome ≡ outcome_of c.as_mut_slice.result.now)
    (λ outcome. outcome ≡ outcome_of (joined_bits c.args.rate.now c.args.octets (list_of c.args.first.now c.args.second.now)))
    (λ outcome e. e ∙ ap outcome_of (c.as_mut_slice.ensures.value ∙ bits))
    c.come_to.ensures
