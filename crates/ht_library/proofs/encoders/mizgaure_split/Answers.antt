use Rattle.std.proofs.Common.{rules, List, length, Bool, ap, sym, ◌∙◌}
use Rattle.ht_library.specs.Mapped.{AreShared}
use Rattle.ht_library.proofs.Shares.{parsed-first, shared-even}
use Rattle.ht_library.proofs.encoders.mizgaure_split.Goals as goal

pub split_encoders-requires : goal.split_encoders-requires
split_encoders-requires c =
    let fits : AreShared c.in-Ok.rate (length c.args.bits.now) (length c.args.first.now) (length c.args.second.now) = search rules in
    shared-even c.in-Ok.rate _ _ _ fits

pub copy_from_slice-requires : goal.copy_from_slice-requires
copy_from_slice-requires c =
    let fits : AreShared c.in-Ok.rate (length c.args.bits.now) (length c.args.first.now) (length c.args.second.now) = search rules in
    parsed-first c.in-Ok.rate c.args.bits.now _ _ _ _ c.in-Ok-split_encoders.ensures fits
    ∙ ap (λ (xs : List Bool). length xs) (sym c.as_slice.ensures)
