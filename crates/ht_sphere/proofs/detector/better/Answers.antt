use Rattle.std.proofs.Common.{◌≡◌, [], ◌∷◌, ◌+◌, ◌*◌, ◌≤◌, ℕ, ℤ, pos, List, take, drop, arith, sym, subst}
use Rattle.std.proofs.lemmas.List.{length-take}
use Rattle.ht_sphere.specs.Coordinates.{Real, down}
use Rattle.ht_sphere.specs.Tree.{inside}
use Rattle.ht_sphere.specs.Searching.{leaves, IsBestOf}
use Rattle.ht_sphere.proofs.Down.{down_system, none_left}
use Rattle.ht_sphere.proofs.detector.better.Goals as goal

abbrev zeros : List ℤ
zeros = pos 0 ∷ pos 0 ∷ pos 0 ∷ pos 0 ∷ pos 0 ∷ pos 0 ∷ pos 0 ∷ pos 0 ∷ []

no_levels : (n m k : ℕ) → m ≡ n → k ≡ m → drop (2 * k) (take (2 * n) zeros) ≡ []
no_levels n m k e f = none_left (take (2 * n) zeros) k (omega (arith, length-take (2 * n) zeros))

pub returns-clause-best : goal.returns-clause-best
returns-clause-best g c =
    let k = c.streams-streams.result in
    let all = down_system c.args.job.now c.system.result.now k c.system.ensures.job c.system.ensures.system c.streams-streams.ensures.number in
    let none = no_levels c.from.result k k (sym c.from.ensures) (omega arith) in
    subst (λ (cs : List Real). IsBestOf (c.args.best.now, c.args.distance) (leaves cs [] 0) (c.search.new.best, c.search.new.distance)) all
    (subst (λ (s : List ℤ). IsBestOf (c.args.best.now, c.args.distance) (leaves (down c.args.job.now.system c.args.job.now.grid k) s 0)
    (c.search.new.best, c.search.new.distance)) none c.search.ensures.best)

pub returns-clause-steps : goal.returns-clause-steps
returns-clause-steps g c =
    let k = c.streams-streams.result in
    let rho = c.args.distance in
    let all = down_system c.args.job.now c.system.result.now k c.system.ensures.job c.system.ensures.system c.streams-streams.ensures.number in
    let none = no_levels c.from.result k k (sym c.from.ensures) (omega arith) in
    subst (λ (cs : List Real). c.search.new.steps + 1 ≤ c.args.steps.now + 2 * inside rho cs [] 0) all
    (subst (λ (s : List ℤ). c.search.new.steps + 1 ≤ c.args.steps.now + 2 * inside rho (down c.args.job.now.system c.args.job.now.grid k) s 0) none
    (c.search.ensures.steps rho (omega arith) (omega arith)))
