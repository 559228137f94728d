use Rattle.std.proofs.Common.{ℕ, ◌+◌, ◌*◌, sym, subst, ◌∙◌, unwrap_or}
use Rattle.ht_map.specs.Gray.{label_of}
use Rattle.ht_metric.specs.Rows.{rows_of}
use Rattle.ht_rounding.specs.Columns.{HasSamples}
use Rattle.ht_capture.specs.Systems.{samples_at}
use Rattle.ht_capture.proofs.InLanes.{symbol_labelled}
use Rattle.ht_capture.proofs.shape.Shape.labels.Goals as goal

pub returns-clause-labels : goal.returns-clause-labels
returns-clause-labels c j symbol number d lt some =
    let it = c.self.inside in
    let octets = c.args.octets.now in
    let value = c.streams.ensures.value in
    rw (← c.self.view_is)
    (symbol_labelled it.head it.templates.items it.columns c.samples_of-samples.result (λ p. unwrap_or (label_of c.args.modulation p) 0) c.labels.result
    c.args.k c.args.at j symbol number octets d c.self.invariant.0 c.self.invariant.1 (rw (← c.self.view_is) at c.requires.inside) lt
    (λ ls size. subst (λ (n : ℕ). HasSamples c.samples_of-samples.result j (rows_of ls (samples_at n octets (c.args.at + j * (8 * n))))) value
    (c.samples_of-samples.ensures j ls lt (size ∙ sym value)))
    (λ jobs job are room like heard. c.labels.ensures.labels jobs j job are room lt like heard some))

pub returns-clause-other : goal.returns-clause-other
returns-clause-other c =
    rw (← c.self.view_is) (λ other. c.labels.ensures.other (λ e. other (sym c.self.invariant.1.modulation ∙ e)))
