use Rattle.std.proofs.Common.{◌≡◌, ◌≤◌, length, take, refl, ap, subst, ◌∙◌, arith}
use Rattle.ht_io.specs.Devices.{Takes}
use Rattle.ht_capture.specs.Fields.{Symbol}
use Rattle.ht_capture.specs.Readers.{symbol_octets}
use Rattle.ht_capture.proofs.Turns.{symbol_field}
use Rattle.ht_capture.proofs.parts.symbol.Goals as goal

pub returns-in-Ok-clause-told : goal.returns-in-Ok-clause-told
returns-in-Ok-clause-told g c = λ present.
    let is = c.symbol_width-octets.ensures.value in
    let size = c.field.ensures.size in
    c.in-Ok.ensures.told (Symbol c.args.due.now present) _ _
    (symbol_field c.args.due.now present _ (take (symbol_octets c.args.due.now) c.field.new.buffer) (ap (λ n. take n c.field.new.buffer) is) (size ∙ is)
    (omega (arith, size, c.symbol_width-octets.ensures.low, c.requires.some)))

pub returns-in-Ok-clause-octets : goal.returns-in-Ok-clause-octets
returns-in-Ok-clause-octets g c =
    subst (λ n. Takes (g.S.Source.shown c.args.source.now) (g.S.Source.shown c.field.new.source) (take n c.field.new.buffer))
    c.symbol_width-octets.ensures.value c.in-Ok.ensures.octets

pub returns-in-Ok-clause-size : goal.returns-in-Ok-clause-size
returns-in-Ok-clause-size g c = subst (λ n. length (take n c.field.new.buffer) ≡ n) c.symbol_width-octets.ensures.value c.field.ensures.size

pub returns-in-Err-clause-told : goal.returns-in-Err-clause-told
returns-in-Err-clause-told g c = λ present.
    let size = c.field.ensures.size in
    let some : 1 ≤ length (take c.symbol_width-octets.result c.field.new.buffer) = omega (arith, size, c.symbol_width-octets.ensures.low, c.requires.some) in
    c.in-Err.ensures.told (Symbol c.args.due.now present) _ _
    (symbol_field c.args.due.now present _ _ refl (size ∙ c.symbol_width-octets.ensures.value) some)
