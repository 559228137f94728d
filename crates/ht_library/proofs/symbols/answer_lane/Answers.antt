use Rattle.std.proofs.Common.{refl, subst, sym, ◌∙◌, arith}
use Rattle.ht_metric.specs.Jobs.{JobView}
use Rattle.ht_rate.specs.Rates.{modulation_of, streams_of}
use Rattle.ht_results.specs.Folding.{label_at}
use Rattle.ht_rounding.specs.Labels.{IsLabelled}
use Rattle.ht_library.specs.Symbols.{found_at}
use Rattle.ht_library.proofs.Answered.{labels-as, vector-long}
use Rattle.ht_library.proofs.symbols.answer_lane.Goals as goal

pub returns-then-is_sure-clause-more : goal.returns-then-is_sure-clause-more
returns-then-is_sure-clause-more c =
    let r = c.args.rate.now in
    let m = modulation_of r in
    let channels = c.args.channels.now in
    let received = c.args.received.now in
    let at = c.args.at in
    let found = found_at r channels received in
    let none = c.requires.none in
    let streams = c.from-streams.ensures ∙ c.streams.ensures.value in
    let is = subst (λ (job : JobView). IsLabelled (label_at m) c.args.lanes.now c.args.k job) c.requires.job
    (c.requires.labelled (c.is_sure.ensures c.if-is_sure.true)) in
    record {
      are_hits = λ k lt within. absurd (omega (arith, within, none));
      are_labels =
          labels-as m m c.from-streams.result (streams_of r) at found c.args.labels.now c.put_lane.new.labels refl streams
          (c.put_lane.ensures.more m found is.labels (vector-long r channels received at ∙ sym streams)) c.requires.before.are_labels;
      are_summed = c.add_distance.ensures.more found at (sym (c.distance_in.ensures.value ∙ is.distance)) c.requires.before.are_summed;
    }
