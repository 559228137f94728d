use Rattle.std.proofs.Common.{rules, ◌≡◌, ℕ, List, length, ap, sym, ◌∙◌}
use Rattle.ht_pam.specs.declared.point.Point.{Point}
use Rattle.ht_clause18.specs.Frames.{LegacyFrameView}
use Rattle.ht_clause18.specs.Points.{points_of}
use Rattle.ht_clause18.proofs.Sent.{length-sent_points}
use Rattle.ht_library.specs.Legacy.{HasLegacyPointsOf}
use Rattle.ht_library.proofs.legacy.mizgaure_legacy_transmit.Goals as goal

-- As many points are sent as there is room for.
pub copy_from_slice-requires : goal.copy_from_slice-requires
copy_from_slice-requires c =
    let fits : HasLegacyPointsOf c.in-Some.rate (length c.args.octets.now) (length c.args.points.now) = search rules in
    let sent : length c.deref.result.now ≡ points_of c.in-Some-new-2.frame.rate (length c.in-Some-new-2.frame.octets)
    = ap (λ (xs : List Point). length xs) (c.deref.ensures.value ∙ c.in-Ok-legacy_transmit.ensures) ∙ length-sent_points c.in-Some-new-2.frame in
    let same : points_of c.in-Some-new-2.frame.rate (length c.in-Some-new-2.frame.octets) ≡ points_of c.in-Some.rate (length c.args.octets.now)
    = ap (λ (f : LegacyFrameView). points_of f.rate (length f.octets)) c.in-Some-new-2.ensures.value
    ∙ ap (λ (xs : List ℕ). points_of c.in-Some.rate (length xs)) c.in-Ok.ensures.items in
    fits.all ∙ sym (sent ∙ same)
