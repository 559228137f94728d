use Rattle.std.proofs.Common.{ℕ, ◌≡◌, ◌+◌, ◌*◌, ap, arith, length, sym, ◌∙◌, unwrap_or}
use Rattle.std.specs.Arc.{arc_value}
use Rattle.ht_map.specs.Gray.{label_of}
use Rattle.ht_rate.specs.Rates.{modulation_of, streams_of}
use Rattle.ht_capture.specs.declared.items.FrameHead.{FrameHead}
use Rattle.ht_capture.specs.Frames.{carrier_octets}
use Rattle.ht_capture.specs.Parts.{ShapeView}
use Rattle.ht_capture.proofs.InLanes.{symbol_job}
use Rattle.ht_capture.proofs.Sharing.{within_octets}
use Rattle.ht_capture.proofs.shared_symbol.SharedSymbol.labels.Goals as goal

pub labels-requires-clause-whole : goal.labels-requires-clause-whole
labels-requires-clause-whole c =
    let shape = arc_value c.self.inside.shape in
    let w = carrier_octets shape.head.rate in
    let streams : 8 * c.streams.result ≡ w =
    ap (λ n. 8 * n) (c.streams.ensures.value ∙ ap (λ (h : FrameHead). streams_of h.rate)
    (c.head.ensures.head ∙ ap (λ (s : ShapeView). s.head) c.deref.ensures)) in
    let start : c.width-at.result ≡ c.args.k * w = c.width-at.ensures.value ∙ ap (λ n. c.args.k * n) streams in
    let same : carrier_octets c.deref-2.result.now.head.rate ≡ w = ap (λ (s : ShapeView). carrier_octets s.head.rate) c.deref-2.ensures in
    let within = within_octets c.args.k 8 (length shape.present) w (rw (← c.self.view_is) at c.requires) in
    omega (arith, start, same, within, c.self.invariant.octets, ap length c.deref-3.ensures.value)

pub returns-clause-labels : goal.returns-clause-labels
returns-clause-labels c j d lt some =
    let it = c.self.inside in
    let shape = arc_value it.shape in
    let streams : 8 * c.streams.result ≡ carrier_octets shape.head.rate =
    ap (λ n. 8 * n) (c.streams.ensures.value ∙ ap (λ (h : FrameHead). streams_of h.rate)
    (c.head.ensures.head ∙ ap (λ (s : ShapeView). s.head) c.deref.ensures)) in
    let start : c.width-at.result ≡ c.args.k * carrier_octets shape.head.rate = c.width-at.ensures.value ∙ ap (λ n. c.args.k * n) streams in
    rw (← c.self.view_is)
    (symbol_job (λ p. unwrap_or (label_of c.args.modulation p) 0) c.labels.result c.deref-2.result.now shape it.symbol (it.number + (c.args.k + j))
    c.deref-3.result.now it.octets.items c.args.k j c.width-at.result d c.deref-2.ensures c.deref-3.ensures.value start
    (c.labels.ensures.labels j it.symbol (it.number + (c.args.k + j)) d lt some))

pub returns-clause-other : goal.returns-clause-other
returns-clause-other c =
    let same = ap (λ (s : ShapeView). modulation_of s.head.rate) c.deref-2.ensures in
    rw (← c.self.view_is) (λ other. c.labels.ensures.other (λ e. other (sym same ∙ e)))
