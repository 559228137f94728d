use Rattle.std.proofs.Common.{List, ap, length, sym, ◌∙◌}
use Rattle.ht_rate.specs.Rates.{modulation_of, streams_of}
use Rattle.ht_pam.specs.declared.point.Point.{Point}
use Rattle.ht_metric.specs.declared.found.Found.{Found}
use Rattle.ht_library.specs.Symbols.{found_at}
use Rattle.ht_library.proofs.Answered.{labels-as, vector-long}
use Rattle.ht_library.proofs.symbols.answer.Goals as goal

pub put_labels-requires-clause-streams : goal.put_labels-requires-clause-streams
put_labels-requires-clause-streams c =
    ap (λ (f : Found). length f.vector) c.requires.found
    ∙ (vector-long c.args.rate.now c.args.channels.now c.args.received.now c.args.at ∙ sym (c.from.ensures ∙ c.streams.ensures.value))

pub returns-clause-more : goal.returns-clause-more
returns-clause-more c =
    let r = c.args.rate.now in
    let found = found_at r c.args.channels.now c.args.received.now in
    record {
      are_hits = c.put_hit.ensures.more found (sym c.requires.found) c.requires.before.are_hits;
      are_labels =
          labels-as c.modulation.result (modulation_of r) c.from.result (streams_of r) c.args.at found c.args.labels.now c.put_labels.new.labels
          c.modulation.ensures (c.from.ensures ∙ c.streams.ensures.value)
          (c.put_labels.ensures.more found (ap (λ (f : Found). f.vector) (sym c.requires.found))) c.requires.before.are_labels;
      are_summed = c.add_distance.ensures.more found c.args.at (ap (λ (f : Found). f.distance) (sym c.requires.found)) c.requires.before.are_summed;
    }
