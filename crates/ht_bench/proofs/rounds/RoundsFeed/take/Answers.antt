use Rattle.std.proofs.Common.{◌≡◌, ◌+◌, Some, slice_get, ap, ◌∙◌, subst}
use Rattle.std.specs.declared.convert.Infallible.{Infallible}
use Rattle.ht_crew.specs.Feeds.{TakesHit}
use Rattle.ht_bench.specs.Rounds.{RoundsView, shown}
use Rattle.ht_bench.specs.contracts.rounds.Rounds.{the_view}
use Rattle.ht_bench.proofs.Numbering.{takes, some_due}
use Rattle.ht_bench.proofs.rounds.RoundsFeed.take.Goals as goal

pub returns-clause-takes : goal.returns-clause-takes
returns-clause-takes c =
    let f : RoundsView = the_view c.self.inside in
    let first : slice_get (shown {Fault = Infallible} f).due 0 ≡ Some c.args.hit.job =
    ap (λ (s : RoundsView). slice_get (shown {Fault = Infallible} s).due 0) c.self.view_is ∙ c.requires.first in
    subst (λ (s : RoundsView). TakesHit {Fault = Infallible} (shown s) (shown (record f { taken = f.taken + 1 }))) c.self.view_is
    (takes f (some_due f.jobs f.taken f.given c.args.hit.job first))
