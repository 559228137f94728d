use Rattle.std.proofs.Common.{◌≡◌, ◌*◌, ◌∙◌, ap, length, arith}
use Rattle.std.specs.Arc.{arc_value}
use Rattle.ht_rate.specs.Rates.{streams_of}
use Rattle.ht_capture.specs.declared.items.FrameHead.{FrameHead}
use Rattle.ht_capture.specs.Frames.{carrier_octets}
use Rattle.ht_capture.specs.Parts.{ShapeView}
use Rattle.ht_capture.proofs.Sharing.{within_octets}
use Rattle.ht_capture.proofs.shared_symbol.SharedSymbol.octets.Goals as goal

pub slice_bounds-result-end : goal.slice_bounds-result-end
slice_bounds-result-end c =
    let shape = arc_value c.self.inside.shape in
    let w = carrier_octets shape.head.rate in
    let streams : 8 * c.streams-streams.result ≡ w =
    ap (λ n. 8 * n) (c.streams-streams.ensures.value ∙ ap (λ (h : FrameHead). streams_of h.rate)
    (c.head.ensures.head ∙ ap (λ (s : ShapeView). s.head) c.deref.ensures)) in
    let start : c.width-start.result ≡ c.args.from * w = c.width-start.ensures.value ∙ ap (λ n. c.args.from * n) streams in
    let size : c.width.result ≡ c.args.count * w = c.width.ensures.value ∙ ap (λ n. c.args.count * n) streams in
    let within = within_octets c.args.from c.args.count (length shape.present) w (rw (← c.self.view_is) at c.requires) in
    omega (arith, start, size, within, c.self.invariant.octets, c.deref-2.ensures.len, ap length c.deref-2.ensures.value)
