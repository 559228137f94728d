use Rattle.std.proofs.Common.{rules, List, length, Bool, ap, ◌∙◌}
use Rattle.ht_conv.proofs.MidStream.{length-sent_bits}
use Rattle.ht_library.proofs.chain.mizgaure_encode.Goals as goal

-- As many bits are sent as there is room for.
pub copy_from_slice-requires : goal.copy_from_slice-requires
copy_from_slice-requires c =
    let sent = ap (λ (xs : List Bool). length xs) (c.deref.ensures.value ∙ c.in-Ok.ensures) ∙ length-sent_bits c.in-Some.pattern c.args.input.now in
    search (rules, sent)
