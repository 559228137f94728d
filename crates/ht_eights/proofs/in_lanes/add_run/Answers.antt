use Rattle.std.proofs.Common.{◌≡◌, ◌∙◌, ◌+◌, ◌*◌, ◌++◌, ℕ, ap, refl}
use Rattle.std.specs.List.{range_with_len}
use Rattle.ht_eights.specs.InLanes.{lane_labels}
use Rattle.ht_eights.proofs.Runs.{run_added}
use Rattle.ht_eights.proofs.in_lanes.add_run.Goals as goal

pub returns-in_ok-add-clause-is : goal.returns-in_ok-add-clause-is
returns-in_ok-add-clause-is g c =
    let t = c.args.tally.now in
    let run = c.run_from-run.result in
    let lanes = c.args.lanes.now in
    let places : c.add.new.self ≡ t.places ++ range_with_len run.place (run.jobs * lanes.streams) =
    c.in_ok-add.ensures ∙ (ap (λ (n : ℕ). t.places ++ range_with_len run.place (n * c.from-then-run-gt0.result)) c.from.ensures
    ∙ ap (λ (n : ℕ). t.places ++ range_with_len run.place (run.jobs * n)) c.from-then-run-gt0.ensures) in
    run_added g.K.Kind.plan (g.B.Jobs.jobs c.args.block.now) (c.args.at + c.args.first) run.jobs t.head t.head t.jobs t.data_sum run.distance t.pilot_sum
    (t.jobs + run.jobs) (t.data_sum + c.from-then-run-gt0-2.result) t.places c.add.new.self (range_with_len run.place (run.jobs * lanes.streams))
    t.values.items c.push_lanes.new.labels.items (lane_labels lanes c.args.first run.jobs) refl
    (ap (λ (n : ℕ). t.data_sum + n) c.from-then-run-gt0-2.ensures) places c.in_ok-push_lanes.ensures c.requires.is c.run_from-run.ensures.is
