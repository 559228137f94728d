use Rattle.std.proofs.Common.{◌≡◌, ◌+◌, ◌∙◌, ℕ, List, subst, refl, sym, ap, arith, take}
use Rattle.ht_io.specs.Devices.{Takes}
use Rattle.ht_rate.specs.Rates.{streams_of}
use Rattle.ht_capture.specs.Contents.{AreLegs}
use Rattle.ht_capture.specs.Fields.{Triangle}
use Rattle.ht_capture.specs.Files.{legs_octets}
use Rattle.ht_capture.specs.Systems.{triangle_octets, triangle_of}
use Rattle.ht_capture.proofs.Encoded.{triangle_back}
use Rattle.ht_capture.proofs.Grids.{length-triangle_of}
use Rattle.ht_capture.proofs.Turns.{gives_to, triangle_field}
use Rattle.ht_capture.proofs.fields.triangle.Goals as goal

pub returns-in-Ok-clause-told : goal.returns-in-Ok-clause-told
returns-in-Ok-clause-told g c = λ turn head carrier present same.
    let rate = c.args.rate.now in
    let octets = take c.triangle_width-width.result c.field.new.buffer in
    let width : c.triangle_width-width.result ≡ triangle_octets (streams_of rate) =
    c.triangle_width-width.ensures.value ∙ ap (λ n. triangle_octets n) c.streams-streams.ensures.value in
    let legs = c.triangle.ensures ∙ ap (λ n. triangle_of n octets) c.streams-streams.ensures.value in
    gives_to _ _ _ (c.args.at + c.triangle_width-width.result) (c.args.at + triangle_octets (streams_of rate)) _ _ refl (ap (λ n. c.args.at + n) width)
    (c.in-Ok.ensures.told (Triangle turn head carrier present) _ _
    (triangle_field turn head carrier present octets c.triangle.result rate same (c.field.ensures.size ∙ width)
    (omega (arith, c.field.ensures.size, c.triangle_width-width.ensures.low)) legs))

pub returns-in-Ok-clause-streams : goal.returns-in-Ok-clause-streams
returns-in-Ok-clause-streams g c = length-triangle_of c.streams-streams.result _ c.triangle.result c.triangle.ensures ∙ c.streams-streams.ensures.value

pub returns-in-Err-clause-told : goal.returns-in-Err-clause-told
returns-in-Err-clause-told g c = λ turn head carrier present same.
    let octets = take c.triangle_width-width.result c.field.new.buffer in
    let wide = c.field.ensures.size ∙ (c.triangle_width-width.ensures.value ∙ ap (λ n. triangle_octets n) c.streams-streams.ensures.value) in
    c.in-Err.ensures.told (Triangle turn head carrier present) _ _ (triangle_field turn head carrier present octets
    (triangle_of (streams_of c.args.rate.now) octets) c.args.rate.now same wide (omega (arith, c.field.ensures.size, c.triangle_width-width.ensures.low)) refl)

pub returns-in-Ok-clause-octets : goal.returns-in-Ok-clause-octets
returns-in-Ok-clause-octets g c =
    let octets = take c.triangle_width-width.result c.field.new.buffer in
    let back = triangle_back c.streams-streams.result octets (c.field.ensures.size ∙ c.triangle_width-width.ensures.value) c.field.ensures.bytes in
    subst (λ (o : List ℕ). Takes (g.S.Source.shown c.args.source.now) (g.S.Source.shown c.field.new.source) o)
    (sym back.1 ∙ ap legs_octets (sym c.triangle.ensures)) c.in-Ok.ensures.octets

pub returns-in-Ok-clause-typed : goal.returns-in-Ok-clause-typed
returns-in-Ok-clause-typed g c =
    let octets = take c.triangle_width-width.result c.field.new.buffer in
    let back = triangle_back c.streams-streams.result octets (c.field.ensures.size ∙ c.triangle_width-width.ensures.value) c.field.ensures.bytes in
    subst AreLegs (sym c.triangle.ensures) back.0
