use Rattle.std.proofs.Common.{◌≡◌, [], ◌+◌, ◌*◌, ◌<◌, ℕ, ℤ, List, drop, nat_lt, true, arith, refl, subst}
use Rattle.std.proofs.lemmas.Bool.Decides.{nat_tests}
use Rattle.ht_sphere.specs.Coordinates.{Real, from_last, down}
use Rattle.ht_sphere.specs.Tree.{Reached}
use Rattle.ht_sphere.proofs.Down.{down_system, none_left, found_all}
use Rattle.ht_sphere.proofs.Others.{OthersFrom, alone}
use Rattle.ht_sphere.proofs.detector.rounded.Goals as goal

pub returns-clause-found : goal.returns-clause-found
returns-clause-found g c =
    let rows = c.args.job.now.system in
    let grid = c.args.job.now.grid in
    let k = c.args.streams in
    let w : Reached = (c.round.new.levels, c.round.new.distance) in
    let all = down_system c.args.job.now c.args.job.now.system k c.requires.job refl c.requires.streams in
    let none = none_left c.args.levels.now k (omega (arith, c.requires.size, c.requires.streams)) in
    found_all (down rows grid k) (from_last rows grid) (drop (2 * k) c.args.levels.now) w all none c.round.ensures.found

some_left : (n : ℕ) → nat_lt 0 n ≡ true → 0 < n
some_left n e = grind (arith, nat_tests)

pub returns-clause-alone : goal.returns-clause-alone
returns-clause-alone g c is =
    let rows = c.args.job.now.system in
    let grid = c.args.job.now.grid in
    let k = c.args.streams in
    let some = some_left c.round.new.spare is in
    let off = c.round.new.distance + c.round.new.spare in
    let w : Reached = (c.round.new.levels, c.round.new.distance) in
    let all = down_system c.args.job.now c.args.job.now.system k c.requires.job refl c.requires.streams in
    let none = none_left c.args.levels.now k (omega (arith, c.requires.size, c.requires.streams)) in
    let others : OthersFrom (from_last rows grid) [] 0 w off =
    subst (λ (cs : List Real). OthersFrom cs [] 0 w off) all
    (subst (λ (s : List ℤ). OthersFrom (down rows grid k) s 0 w off) none (c.round.ensures.others some)) in
    alone (from_last rows grid) [] 0 off w others (omega (arith, some))
