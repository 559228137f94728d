use Rattle.std.proofs.Common.{◌∙◌, refl}
use Rattle.ht_legacy_rx.specs.Results.{LegacySoFar}
use Rattle.ht_legacy_rx.proofs.Taking.{result_is}
use Rattle.ht_legacy_rx.proofs.labels.LegacyLabelsKind.decode.Goals as goal

pub returns : goal.returns
returns c =
    let f : LegacySoFar = record { head = c.args.head.now; data_sum = c.args.data_sum; pilot_sum = c.args.pilot_sum; labels = c.args.kept.now; left = 0 } in
    c.of.ensures ∙ result_is f f c.in_ok-decoded.decoded refl c.in_ok-decoded.ensures
