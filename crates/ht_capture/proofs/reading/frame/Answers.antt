use Rattle.std.proofs.Common.{◌≡◌, ◌≤◌, ◌∙◌, List, length, take, flat_map, sym, ap, arith}
use Rattle.ht_io.proofs.Calls.{later-later}
use Rattle.ht_metric.specs.Rows.{Leg}
use Rattle.ht_metric.specs.declared.sample.Sample.{Sample}
use Rattle.ht_capture.specs.Files.{sample_octets}
use Rattle.ht_capture.proofs.Octets.{takes_as}
use Rattle.ht_capture.specs.Fields.{turn_due}
use Rattle.ht_capture.specs.Taking.{triangles_of}
use Rattle.ht_capture.proofs.Endings.{given_to}
use Rattle.ht_capture.proofs.Framed.{frame_fits, frame_taken, length-triangles, read_as, turn_is}
use Rattle.ht_capture.proofs.Turns.{symbol_made}
use Rattle.ht_fields.proofs.Endings.{given_ends, given_more, halts_ends}
use Rattle.ht_capture.proofs.reading.frame.Goals as goal

pub returns-in-Err-carriers-clause-told : goal.returns-in-Err-carriers-clause-told
returns-in-Err-carriers-clause-told g c =
    given_ends _ _ (g.S.Source.shown c.carriers.new.source) _ (_, c.in-Ok.ensures.told) c.in-Ok.ensures.later (halts_ends _ _ _ c.in-Err-carriers.ensures.told)

pub returns-in-Err-samples-clause-told : goal.returns-in-Err-samples-clause-told
returns-in-Err-samples-clause-told g c =
    given_ends _ _ (g.S.Source.shown c.samples.new.source) _
    (given_more _ _ _ (_, c.in-Ok.ensures.told)
    (_, symbol_made _ _ _ _ c.symbols.result _ _ _ _ c.symbols.ensures.value c.in-Ok-carriers.ensures.told))
    (later-later _ _ _ c.in-Ok.ensures.later c.in-Ok-carriers.ensures.later)
    (c.in-Err-samples.ensures.told (take c.in-Ok-carriers.gathered.count c.carriers.new.present))

pub returns-clause-told : goal.returns-clause-told
returns-clause-told g c =
    given_to _ _ _ _ _ (ap turn_due (sym (turn_is c.samples.new.due.turn c.args.turn.now c.in-Ok-samples.ensures.turn)))
    (given_more _ _ _ (given_more _ _ _ (_, c.in-Ok.ensures.told)
    (_, symbol_made _ _ _ _ c.symbols.result _ _ _ _ c.symbols.ensures.value c.in-Ok-carriers.ensures.told))
    (c.in-Ok-samples.ensures.told (take c.in-Ok-carriers.gathered.count c.carriers.new.present)))

pub returns-clause-octets : goal.returns-clause-octets
returns-clause-octets g c =
    let same = c.in-Ok-carriers.ensures.same in
    let listed : triangles_of (take c.in-Ok-carriers.gathered.count c.carriers.new.present) ≡ c.from.result =
    sym (c.from.ensures ∙ c.in-Ok-triangles.ensures.listed) in
    frame_taken c.args.turn.now.version _ c.in-Ok.head.rate c.in-Ok.head.length (g.S.Source.shown c.args.source.now)
    (g.S.Source.shown c.head.new.source) (g.S.Source.shown c.carriers.new.source) (g.S.Source.shown c.samples.new.source) c.in-Ok.ensures.octets same.1 same.2
    (read_as _ _ _ _ _ _ _ _ listed c.in-Ok-carriers.ensures.read)
    (takes_as _ _ _ _ (ap (λ (s : List Sample). flat_map sample_octets s) (sym c.from-2.ensures)) c.in-Ok-samples.ensures.octets)

pub returns-clause-fits : goal.returns-clause-fits
returns-clause-fits g c =
    let same = c.in-Ok-carriers.ensures.same in
    let count = c.in-Ok-carriers.gathered.count in
    let listed : triangles_of (take count c.carriers.new.present) ≡ c.from.result = sym (c.from.ensures ∙ c.in-Ok-triangles.ensures.listed) in
    let within : count ≤ length c.carriers.new.present =
    omega (arith, c.in-Ok-carriers.ensures.places, c.carriers.auto.present, c.no_subcarriers-present.ensures) in
    let size : length c.from.result ≡ count = ap (λ (ts : List (List Leg)). length ts) (sym listed) ∙ length-triangles c.carriers.new.present count within in
    frame_fits _ c.args.turn.now.version count _ _ (omega (arith, same.2, c.in-Ok.ensures.some.1))
    (read_as _ _ _ _ _ _ _ _ listed c.in-Ok-carriers.ensures.read) size (omega (arith, c.in-Ok-carriers.ensures.some))
    (ap (λ (s : List Sample). length s) c.from-2.ensures ∙ c.in-Ok-samples.ensures.count)
