use Rattle.std.proofs.Common.{◌≡◌, ◌∙◌, arith}
use Rattle.std.proofs.lemmas.Result.{IfOk-weaker}
use Rattle.ht_viterbi.specs.Inputs.{IsFound, weight_cost}
use Rattle.ht_soft.specs.Frames.{soft_codeword_of}
use Rattle.ht_soft.proofs.SoftFrames.{soft-codeword-is, weights-length}
use Rattle.ht_soft.proofs.frames.codeword.Goals as goal

pub decode_weights-requires-clause-weights : goal.decode_weights-requires-clause-weights
decode_weights-requires-clause-weights c =
    let s = c.args.share.now in
    weights-length s.rate c.args.octets s.erased s.encoder c.codeword_steps-steps.result c.args.weights.now c.deref.result.now c.pattern.result
    c.codeword_steps-steps.ensures.value c.pattern.ensures (c.deref.ensures.value ∙ c.in_ok-received.ensures)

pub returns-clause-value : goal.returns-clause-value
returns-clause-value c =
    let s = c.args.share.now in
    let steps = c.codeword_steps-steps.result in
    let p = c.pattern.result in
    let received = c.deref.result.now in
    let low = c.codeword_steps-steps.ensures.low in
    IfOk-weaker c.decode_weights.result (λ codeword. IsFound weight_cost steps p received codeword.input codeword.cost)
    (λ codeword. codeword ≡ soft_codeword_of s.rate c.args.octets s.erased c.args.weights.now s.encoder)
    (λ codeword. soft-codeword-is s.rate c.args.octets s.erased s.encoder steps c.args.weights.now received p codeword
    c.codeword_steps-steps.ensures.value c.pattern.ensures (c.deref.ensures.value ∙ c.in_ok-received.ensures) (omega (arith, low)))
    c.decode_weights.ensures
