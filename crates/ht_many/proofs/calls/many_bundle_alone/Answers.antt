use Rattle.std.proofs.Common.{◌≡◌, ◌∙◌, List, map, ap, rules}
use Rattle.ht_io.specs.Writing.{Growing}
use Rattle.ht_runs.specs.Filters.{WithinOutput}
use Rattle.ht_runs.proofs.Converting.{not_read}
use Rattle.ht_results.specs.Texts.{rx_text}
use Rattle.ht_bundles.specs.Formats.{bundles}
use Rattle.ht_many.specs.Bundles.{ReceivesTo}
use Rattle.ht_many.proofs.Converting.{converts}
use Rattle.ht_many.proofs.Texts.{held_by}
use Rattle.ht_many.proofs.calls.many_bundle_alone.Goals as goal

pub returns-in_err-captures-clause-converts : goal.returns-in_err-captures-clause-converts
returns-in_err-captures-clause-converts g c =
    let fails = not_read bundles WithinOutput ReceivesTo (g.S.Source.shown c.args.source.now)
    (g.S.Source.shown c.read_bundle.new.source) (g.K.Sink.shown c.args.sink.now) c.in_err-captures.field-0.0 c.in_err-captures.ensures.refused in
    search rules

pub returns-clause-converts : goal.returns-clause-converts
returns-clause-converts g c =
    let same : map held_by c.deref.result.now ≡ map rx_text c.in_ok-captures.captures.items =
    ap (λ (z : List Growing). map held_by z) c.deref.ensures.value ∙ c.in_ok-texts.ensures in
    converts (g.S.Source.shown c.args.source.now) (g.S.Source.shown c.read_bundle.new.source)
    (g.K.Sink.shown c.args.sink.now) (g.K.Sink.shown c.put_texts.new.sink) c.in_ok-captures.captures.items (map held_by c.deref.result.now)
    c.in_ok-captures.ensures.file same c.put_texts.result c.put_texts.ensures
