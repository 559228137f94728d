use Rattle.std.proofs.Common.{ℕ, List, take, ap, subst}
use Rattle.ht_capture.specs.Fields.{Symbol}
use Rattle.ht_capture.specs.Readers.{symbol_octets}
use Rattle.ht_capture.specs.Reading.{here}
use Rattle.ht_capture.specs.Taking.{AddsSamples}
use Rattle.ht_fields.proofs.Endings.{halts_ends}
use Rattle.ht_capture.proofs.reading.symbol.Goals as goal

pub returns-in-Ok-add_samples-clause-told : goal.returns-in-Ok-add_samples-clause-told
returns-in-Ok-add_samples-clause-told g c = λ present. (_, c.in-Ok.ensures.told present)

pub returns-in-Ok-add_samples-clause-added : goal.returns-in-Ok-add_samples-clause-added
returns-in-Ok-add_samples-clause-added g c =
    let octets = take (symbol_octets c.args.due.now) c.symbol.new.samples in (
      octets,
      c.in-Ok.ensures.octets,
      c.in-Ok.ensures.size,
      subst (λ (o : List ℕ). AddsSamples c.args.samples.now.items c.add_samples.new.samples.items o)
          (ap (λ n. take n c.symbol.new.samples) c.symbol_width.ensures.value) c.in-Ok-add_samples.ensures.added,
    )

pub returns-in-Err-clause-told : goal.returns-in-Err-clause-told
returns-in-Err-clause-told g c = λ present.
    halts_ends (here (Symbol c.args.due.now present) c.args.at (g.S.Source.shown c.args.source.now)) (g.S.Source.shown c.symbol.new.source)
    c.in-Err.fault (c.in-Err.ensures.told present)
