use Rattle.std.proofs.Common.{◌≡◌, ◌++◌}
use Rattle.std.proofs.lemmas.Result.{IfOk-weaker}
use Rattle.ht_conv.specs.Code.{sent_bits}
use Rattle.ht_tx.specs.Sources.{AreCoded}
use Rattle.ht_tx.proofs.Coded.{coded-out, shared}
use Rattle.ht_tx.proofs.coder.coded_bits.Goals as goal

pub split_encoders-requires : goal.split_encoders-requires
split_encoders-requires c =
    shared c.args.frame.now c.rate-rate.result c.in_ok-bits.bits.items c.as_slice.result.now c.rate-rate.ensures c.in_ok-bits.ensures c.as_slice.ensures.value

pub returns : goal.returns
returns c =
    let f = c.args.frame.now in
    let inputs = c.in_ok-inputs.inputs in
    IfOk-weaker c.encoded.result
    (λ bits. bits.items ≡ sent_bits c.pattern.result inputs.first ++ sent_bits c.pattern.result inputs.second)
    (λ bits. AreCoded f bits.items)
    (λ bits is. coded-out f c.rate-rate.result c.pattern.result c.in_ok-bits.bits.items c.as_slice.result.now inputs.first inputs.second bits.items
    c.rate-rate.ensures c.in_ok-bits.ensures c.as_slice.ensures.value c.in_ok-inputs.ensures c.pattern.ensures is)
    c.encoded.ensures
