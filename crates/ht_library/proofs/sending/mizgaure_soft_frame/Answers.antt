use Rattle.std.proofs.Common.{List, ℕ, length, ap, sym, ◌∙◌}
use Rattle.ht_soft.specs.declared.soft_decoded.SoftDecoded.{SoftDecoded}
use Rattle.ht_library.proofs.Lengths.{length-soft_decoded}
use Rattle.ht_library.proofs.sending.mizgaure_soft_frame.Goals as goal

-- As many octets are decoded as were asked for.
pub copy_from_slice-requires : goal.copy_from_slice-requires
copy_from_slice-requires c =
    let octets = length-soft_decoded _ _ _ _ c.in-Octets.found (ap (λ (d : SoftDecoded). d.outcome) (sym c.in-Ok-soft_frame.ensures) ∙ c.in-Octets.is) in
    sym (ap (λ (xs : List ℕ). length xs) c.as_slice.ensures ∙ octets)
