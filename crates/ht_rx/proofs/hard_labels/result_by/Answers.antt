use Rattle.std.proofs.Common.{◌∙◌}
use Rattle.ht_rx.proofs.Labelling.{result_is}
use Rattle.ht_rx.proofs.hard_labels.result_by.Goals as goal

pub returns : goal.returns
returns g c =
    c.of.ensures
    ∙ result_is (record { head = c.args.head.now; data_sum = c.args.data_sum; pilot_sum = c.args.pilot_sum; labels = c.args.labels.now; left = 0 })
    c.in_ok-decoded.decoded c.in_ok-decoded.ensures
