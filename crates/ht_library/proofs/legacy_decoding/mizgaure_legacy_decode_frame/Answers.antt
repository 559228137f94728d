use Rattle.std.proofs.Common.{List, ℕ, length, ap, sym, ◌∙◌}
use Rattle.ht_inverse.specs.declared.decoded.Decoded.{Decoded}
use Rattle.ht_library.proofs.LegacyLengths.{length-legacy_decoded}
use Rattle.ht_library.proofs.legacy_decoding.mizgaure_legacy_decode_frame.Goals as goal

-- As many octets are decoded as were asked for.
pub copy_from_slice-requires : goal.copy_from_slice-requires
copy_from_slice-requires c =
    let octets = length-legacy_decoded _ _ _ _ (ap (λ (d : Decoded). d.outcome) (sym c.in-Ok.ensures) ∙ c.in-Octets.is) in
    sym (ap (λ (xs : List ℕ). length xs) c.as_slice.ensures ∙ octets)
