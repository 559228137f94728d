use Rattle.std.proofs.Common.{ℕ, ◌+◌, List, length, ap, ◌∙◌}
use Rattle.std.specs.Int.{div_ceil}
use Rattle.ht_conv.specs.declared.puncture.Kept.{Kept}
use Rattle.ht_conv.proofs.Counts.{sent_count-ceil}
use Rattle.ht_library.proofs.chain.sent_of.Goals as goal

pub returns : goal.returns
returns c =
    ap (λ (n : ℕ). c.args.input + n) (c.div_ceil.ensures ∙ ap (λ (l : List Kept). div_ceil c.args.input (length l)) c.period.ensures)
    ∙ sent_count-ceil c.args.pattern c.args.input
