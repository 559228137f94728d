use Rattle.std.proofs.Common.{◌≡◌, false}
use Rattle.std.specs.List.{list_any}
use Rattle.std.specs.Ordering.{int_eq}
use Rattle.ht_pam.specs.Ladders.{lowest}
use Rattle.ht_pam.proofs.ladder.Ladder.has.Given as goal

-- none of the lower levels is an allowed one and the level that is asked for
abbrev pub invariant-loop-j : goal.invariant-loop-j
invariant-loop-j l = list_any (λ y. int_eq y l.level) (lowest l.self l.j) ≡ false
