use Rattle.std.proofs.Common.{◌≡◌, ◌≤◌, ◌-◌, ◌+◌, arith, ap, length, sym, ◌∙◌, List, get_or, ℕ, suc}
use Rattle.ht_metric.specs.Rows.{Leg, no_leg, no_tap, entries_of}
use Rattle.ht_metric.specs.Arrays.{length-legs_of, entries_few}
use Rattle.ht_metric.proofs.RowLemmas.{entry-at}
use Rattle.ht_metric.proofs.triangle.Triangle.above.Goals as goal

pub row_start-requires-clause-last : goal.row_start-requires-clause-last
row_start-requires-clause-last c =
    let t = c.self.inside in
    omega (arith, c.requires.last, ap length c.self.view_is, length-legs_of t.streams t.diagonal t.above)

pub overflow_add-result : goal.overflow_add-result
overflow_add-result c =
    let t = c.self.inside in
    omega (arith, c.row_start.ensures, entries_few t.streams c.self.invariant.few)

pub offset_bounds-self-inside-row_start : goal.offset_bounds-self-inside-row_start
offset_bounds-self-inside-row_start c =
    let t = c.self.inside in
    omega (arith, c.row_start.ensures, entries_few t.streams c.self.invariant.few)

pub bounds-self-inside-row_start : goal.bounds-self-inside-row_start
bounds-self-inside-row_start c =
    let t = c.self.inside in
    let last : c.args.l ≤ t.streams = omega (arith, c.requires.last, ap length c.self.view_is, length-legs_of t.streams t.diagonal t.above) in
    let m : t.streams - (c.args.k - 1) ≡ suc (t.streams - c.args.k) = omega arith in
    let e : entries_of (t.streams - (c.args.k - 1)) ≡ (t.streams - c.args.k) + entries_of (t.streams - c.args.k) = ap entries_of m in
    omega (arith, c.row_start.ensures, entries_few t.streams c.self.invariant.few)

pub returns : goal.returns
returns c =
    let t = c.self.inside in
    let k = c.args.k - 1 in
    let i = c.args.l - c.args.k - 1 in
    let last : c.args.l ≤ t.streams = omega (arith, c.requires.last, ap length c.self.view_is, length-legs_of t.streams t.diagonal t.above) in
    let place : c.row_start.result + c.from.result - 1 ≡ c.row_start.result + i = omega arith in
    ap (λ (m : ℕ). get_or t.above m no_tap) place
    ∙ sym (entry-at t.streams k i c.row_start.result t.diagonal t.above (omega arith) (omega arith) c.row_start.ensures)
    ∙ ap (λ (legs : List Leg). get_or (get_or legs k no_leg).right i no_tap) c.self.view_is
