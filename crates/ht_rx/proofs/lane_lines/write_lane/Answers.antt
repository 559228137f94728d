use Rattle.std.proofs.Common.{◌++◌, ◌≡◌, ◌∙◌, ap, drop, ℕ, refl, subst, sym}
use Rattle.ht_capture.specs.declared.items.FrameHead.{FrameHead}
use Rattle.ht_rate.specs.Carriers.{carrier_of}
use Rattle.ht_results.specs.Plans.{is_data}
use Rattle.ht_rx.specs.LaneLines.{HasLabels, found_in}
use Rattle.ht_results.specs.JobTexts.{line_at}
use Rattle.ht_rx.proofs.LaneLines.{lane_labels, lane_put}
use Rattle.ht_rx.proofs.lane_lines.write_lane.Goals as goal

pub write_found-start-requires-clause-labels : goal.write_found-start-requires-clause-labels
write_found-start-requires-clause-labels c =
    subst (λ (n : ℕ). HasLabels c.args.texts.now.modulation c.args.lanes.now n) (sym c.from.ensures)
    (lane_labels c.args.block.now.block c.args.texts.now.modulation c.args.lanes.now c.args.at c.args.k c.place_at-place.result c.requires.texts
    c.requires.lane c.requires.inside c.requires.some c.requires.most (c.if-is_sure.ensures refl)
    (ap (λ (h : FrameHead). is_data (carrier_of h.rate c.place_at-place.result.carrier)) (sym c.head.ensures) ∙ c.if-carries_data.ensures refl)
    c.place_at-place.ensures c.requires.labels)

pub returns-then-carries_data-clause-lines : goal.returns-then-carries_data-clause-lines
returns-then-carries_data-clause-lines c =
    let behind = drop c.args.end c.args.into.now in
    lane_put c.args.block.now.block c.args.texts.now.modulation c.args.lanes.now c.args.at c.args.k c.place_at-place.result c.requires.texts
    c.requires.lane c.requires.inside c.requires.some c.requires.most (c.if-is_sure.ensures refl)
    (ap (λ (h : FrameHead). is_data (carrier_of h.rate c.place_at-place.result.carrier)) (sym c.head.ensures) ∙ c.if-carries_data.ensures refl)
    c.place_at-place.ensures c.requires.labels (drop c.write_found-start.result c.write_found-start.new.into) behind c.requires.lines
    (subst (λ (n : ℕ). drop c.write_found-start.result c.write_found-start.new.into
    ≡ line_at c.place_at-place.result (found_in c.args.texts.now.modulation c.args.lanes.now n) ++ behind) c.from.ensures
    c.write_found-start.ensures.written)
