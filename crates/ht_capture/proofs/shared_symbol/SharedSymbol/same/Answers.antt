use Rattle.std.proofs.Common.{rules, ◌≡◌, ◌∙◌, ◌+◌, ap, drop, take}
use Rattle.std.specs.Prelude.{◌==◌}
use Rattle.std.specs.Arc.{arc_value}
use Rattle.std.specs.Bool.{Decides}
use Rattle.std.proofs.lemmas.Bool.Decides.{Decides-eqb}
use Rattle.ht_capture.specs.Parts.{ShapeView}
use Rattle.ht_capture.proofs.Sharing.{decides_as, parts_decide}
use Rattle.ht_capture.proofs.shared_symbol.SharedSymbol.same.Goals as goal

pub returns : goal.returns
returns c =
    let one = c.self.inside in
    let two = c.other.inside in
    let equal : Decides c.eq-octets.result (c.octets.result.now ≡ c.octets-2.result.now) = search rules in
    rw (← c.self.view_is, ← c.other.view_is)
    (parts_decide _ _
    c.same-heads.result (one.symbol == two.symbol) (one.number + c.args.from == two.number + c.args.other_from) c.eq-octets.result c.same-shapes.result
    (decides_as c.head.result.now c.head-2.result.now (arc_value one.shape).head (arc_value two.shape).head c.same-heads.result
    (c.head.ensures.head ∙ ap (λ (s : ShapeView). s.head) c.deref.ensures)
    (c.head-2.ensures.head ∙ ap (λ (s : ShapeView). s.head) c.deref-2.ensures) c.same-heads.ensures)
    (Decides-eqb one.symbol two.symbol)
    (Decides-eqb (one.number + c.args.from) (two.number + c.args.other_from))
    (decides_as c.octets.result.now c.octets-2.result.now _ _ c.eq-octets.result
    (rw (← c.self.view_is) at c.octets.ensures) (rw (← c.other.view_is) at c.octets-2.ensures) equal)
    (decides_as _ _ _ _ c.same-shapes.result
    (ap (λ (s : ShapeView). take c.args.count (drop c.args.from s.present)) c.deref-3.ensures)
    (ap (λ (s : ShapeView). take c.args.count (drop c.args.other_from s.present)) c.deref-4.ensures)
    c.same-shapes.ensures))
