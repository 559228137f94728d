use Rattle.std.proofs.Common.{◌∙◌, ◌++◌, ℕ, List, ap, arith, length}
use Rattle.std.specs.List.{range_with_len}
use Rattle.ht_results.proofs.Stretches.{last_within, longer}
use Rattle.ht_results.proofs.placing.KeptPlaces.add.Goals as goal

pub overflow_add-self : goal.overflow_add-self
overflow_add-self c =
    let within = last_within c.self.inside.ended.items c.self.inside.last in
    let seen = ap (λ (ps : List ℕ). length ps) c.self.view_is in
    omega (arith, within, seen, c.in_ok-turn_to.ensures.shorter, c.requires)

pub returns : goal.returns
returns c =
    let turn = c.in_ok-turn_to.ensures in
    longer c.turn_to.new.ended.items c.turn_to.new.last c.args.at c.args.count turn.next
    ∙ ap (λ (ps : List ℕ). ps ++ range_with_len c.args.at c.args.count) (turn.same ∙ c.self.view_is)
