use Rattle.std.proofs.Common.{ℕ, ◌≡◌, ◌≤◌, ◌<◌, ◌+◌, [], length, arith, ap, sym, subst, unwrap_or, ◌∙◌}
use Rattle.std.specs.Arc.{arc_value}
use Rattle.std.specs.Prelude.{Option}
use Rattle.ht_map.specs.Gray.{label_of}
use Rattle.ht_metric.specs.Jobs.{JobView}
use Rattle.ht_rate.specs.Rates.{modulation_of}
use Rattle.ht_rounding.specs.Labels.{IsLabelledIn}
use Rattle.ht_capture.specs.declared.places.Present.{Present}
use Rattle.ht_capture.specs.Parts.{SymbolPart, jobs_of, part_of}
use Rattle.ht_capture.proofs.Sharing.{jobs_length, part_job}
use Rattle.ht_capture.proofs.block.SymbolBlock.labels.Goals as goal

pub overflow_add-self-inside : goal.overflow_add-self-inside
overflow_add-self-inside c =
    let b = c.self.inside in
    let lt : c.args.at + 8 ≤ length (jobs_of (part_of (arc_value b.symbol) b.first b.count)) = rw (← c.self.view_is) at c.requires in
    omega (arith, lt, jobs_length (arc_value b.symbol) b.first b.count c.self.invariant.1, c.self.invariant.2)

pub labels-requires : goal.labels-requires
labels-requires c =
    let b = c.self.inside in
    let lt : c.args.at + 8 ≤ length (jobs_of (part_of (arc_value b.symbol) b.first b.count)) = rw (← c.self.view_is) at c.requires in
    omega (
      arith,
      lt,
      jobs_length (arc_value b.symbol) b.first b.count c.self.invariant.1,
      c.self.invariant.1,
      c.from.ensures,
      ap (λ (s : SymbolPart). length s.present) c.deref-symbol.ensures,
    )

pub returns-clause-labels : goal.returns-clause-labels
returns-clause-labels c = λ k small.
    let b = c.self.inside in
    let d : Present = record { carrier = 0; triangle = [] } in
    let room : c.args.at + 8 ≤ length (jobs_of (part_of (arc_value b.symbol) b.first b.count)) = rw (← c.self.view_is) at c.requires in
    let place : c.from.result + k ≡ b.first + (c.args.at + k) = omega (arith, c.from.ensures) in
    let is = part_job (arc_value b.symbol) c.deref-symbol.result.now b.first b.count (c.args.at + k) (c.from.result + k) d c.self.invariant.1
    (omega (arith, room, small)) c.deref-symbol.ensures place in
    rw (← c.self.view_is)
    (subst (λ (o : Option JobView). IsLabelledIn (λ p. unwrap_or (label_of c.args.modulation p) 0) c.labels.result k o) (sym is)
    (λ some. c.labels.ensures.labels k d small some))

pub returns-clause-other : goal.returns-clause-other
returns-clause-other c =
    let same = ap (λ (s : SymbolPart). modulation_of s.head.rate) c.deref-symbol.ensures in
    rw (← c.self.view_is) (λ other. c.labels.ensures.other (λ e. other (sym same ∙ e)))
