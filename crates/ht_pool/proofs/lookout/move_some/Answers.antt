use Rattle.std.proofs.Common.{rules, ◌≡◌, ◌+◌, ◌<◌, ◌%◌, ◌∷◌, [], ℕ, Option, Some, None, length, set, get_or, ap, subst}
use Rattle.ht_pool.specs.Takers.{Gets}
use Rattle.ht_pool.specs.Moving.{refused_by}
use Rattle.ht_pool.proofs.Looking.{gets-after, gets-at}
use Rattle.ht_pool.proofs.lookout.move_some.Goals as goal

pub returns-in-Moved : goal.returns-in-Moved
returns-in-Moved g c =
    let at : ℕ = (c.from.result + c.loop-turn.turn) % length c.args.takers.now in
    let small : at < length c.loop-turn.takers = search rules in
    let none : refused_by c.move_from.result ≡ None = ap refused_by c.in-Moved.is in
    let before = get_or c.loop-turn.takers at c.index-takers-at.result in
    let moved = subst (λ (task : Option g.row.T.Denot). Gets (before ∷ []) c.loop-turn.own (c.move_from.new.taker ∷ []) c.move_from.new.own task)
    none c.move_from.ensures in
    gets-after c.args.takers.now c.loop-turn.takers (set c.loop-turn.takers at c.move_from.new.taker) c.args.own.now c.loop-turn.own c.move_from.new.own None
    c.loop-turn.invariant.gets
    (gets-at c.loop-turn.takers at c.index-takers-at.result c.move_from.new.taker c.loop-turn.own c.move_from.new.own None small moved)

pub returns-in-Refused : goal.returns-in-Refused
returns-in-Refused g c =
    let at : ℕ = (c.from.result + c.loop-turn.turn) % length c.args.takers.now in
    let small : at < length c.loop-turn.takers = search rules in
    let some : refused_by c.move_from.result ≡ Some c.in-Refused.task = ap refused_by c.in-Refused.is in
    let before = get_or c.loop-turn.takers at c.index-takers-at.result in
    let moved = subst (λ (task : Option g.row.T.Denot). Gets (before ∷ []) c.loop-turn.own (c.move_from.new.taker ∷ []) c.move_from.new.own task)
    some c.move_from.ensures in
    gets-after c.args.takers.now c.loop-turn.takers (set c.loop-turn.takers at c.move_from.new.taker) c.args.own.now c.loop-turn.own c.move_from.new.own
    (Some c.in-Refused.task) c.loop-turn.invariant.gets
    (gets-at c.loop-turn.takers at c.index-takers-at.result c.move_from.new.taker c.loop-turn.own c.move_from.new.own (Some c.in-Refused.task) small moved)

pub loop-turn-preserved : goal.loop-turn-preserved
loop-turn-preserved g c =
    let at : ℕ = (c.from.result + c.loop-turn.turn) % length c.args.takers.now in
    let small : at < length c.loop-turn.takers = search rules in
    let none : refused_by c.move_from.result ≡ None = search rules in
    let before = get_or c.loop-turn.takers at c.index-takers-at.result in
    let moved = subst (λ (task : Option g.row.T.Denot). Gets (before ∷ []) c.loop-turn.own (c.move_from.new.taker ∷ []) c.move_from.new.own task)
    none c.move_from.ensures in
    record {
      same = search rules;
      gets = gets-after c.args.takers.now c.loop-turn.takers (set c.loop-turn.takers at c.move_from.new.taker) c.args.own.now c.loop-turn.own
          c.move_from.new.own None c.loop-turn.invariant.gets
          (gets-at c.loop-turn.takers at c.index-takers-at.result c.move_from.new.taker c.loop-turn.own c.move_from.new.own None small moved);
    }
