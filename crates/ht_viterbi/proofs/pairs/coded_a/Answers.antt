use Rattle.std.proofs.Common.{◌∙◌, Bool, ap, sym, not}
use mathlib.Core.Bool.{beq}
use Rattle.ht_viterbi.proofs.Outputs.{output_a-word}
use Rattle.ht_viterbi.proofs.pairs.coded_a.Goals as goal

pub returns : goal.returns
returns c = ap (λ (b : Bool). not (beq b c.args.bit)) c.is_set.ensures ∙ sym (output_a-word c.args.bit c.args.state c.requires)
