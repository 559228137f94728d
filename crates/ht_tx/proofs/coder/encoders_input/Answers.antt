use Rattle.std.proofs.Common.{◌≡◌, ◌∙◌, arith}
use Rattle.std.proofs.lemmas.Result.{IfOk-weaker}
use Rattle.ht_rate.proofs.RateFacts.{data_bits_of-range}
use Rattle.ht_data.specs.Data.{scrambled_data_of}
use Rattle.ht_tx.specs.Coded.{coder_input}
use Rattle.ht_tx.proofs.Coded.{input-is}
use Rattle.ht_tx.proofs.coder.encoders_input.Goals as goal

pub scrambled_data-requires-clause-zeros : goal.scrambled_data-requires-clause-zeros
scrambled_data-requires-clause-zeros c =
    omega (arith, data_bits_of-range c.rate.result, c.pads-pads.ensures.few, c.tail_bits.ensures.few)

pub returns : goal.returns
returns c =
    let f = c.args.frame.now in
    IfOk-weaker c.scrambled_data.result
    (λ bits. bits.items ≡ scrambled_data_of c.seed.result c.octets-octets.result.now c.tail_bits.result c.pads-pads.result)
    (λ bits. bits.items ≡ coder_input f)
    (λ bits e. e ∙ input-is f c.rate.result c.octets-octets.result.now c.seed.result c.tail_bits.result c.pads-pads.result
    c.rate.ensures c.octets-octets.ensures.value c.seed.ensures c.tail_bits.ensures.value c.pads-pads.ensures.value)
    c.scrambled_data.ensures
