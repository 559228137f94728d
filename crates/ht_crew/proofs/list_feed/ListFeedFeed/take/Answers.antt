use Rattle.std.proofs.Common.{◌≡◌, ◌∙◌, ◌++◌, ◌∷◌, [], List, length, slice_get, ap, sym, subst, arith}
use Rattle.ht_metric.specs.declared.hit.Hit.{Hit}
use Rattle.ht_crew.specs.Feeds.{TakesHit}
use Rattle.ht_crew.specs.Lists.{Listed, IsListed, took, shown, TakesInTurn}
use Rattle.ht_crew.specs.contracts.list_feed.ListFeed.{the_view}
use Rattle.ht_crew.proofs.Giving.{first_between, still_listed, takes_first, takes_in_turn}
use Rattle.ht_crew.proofs.list_feed.ListFeedFeed.take.Goals as goal
use Rattle.ht_crew.proofs.list_feed.ListFeedFeed.take.Goals.{In-Ok}

pub unreachable-requires : goal.unreachable-requires
unreachable-requires c =
    let is = c.self.view_is ∙ c.in_ok-call.ensures.counted in
    let old = c.args.self.now in
    let listed = subst (λ (s : Listed). IsListed s) is c.self.invariant.0 in
    let below = (first_between old.jobs (length old.hits) old.given c.args.hit.job c.requires.first).0 in
    let hits : length c.self.inside.hits.items ≡ length old.hits = ap (λ (s : Listed). length s.hits) is in
    let jobs : length c.self.inside.jobs.items ≡ length old.jobs = ap (λ (s : Listed). length s.jobs) is in
    omega (arith, below, hits, jobs, listed.given, c.in-Err.ensures.full, c.self.invariant.1)

pub invariant_of-self : goal.invariant_of-self
invariant_of-self c =
    let is = c.self.view_is ∙ c.in_ok-call.ensures.counted in
    let now : Listed = record {
      jobs = c.self.inside.jobs.items;
      given = c.self.inside.given;
      hits = c.self.inside.hits.items;
      failing =
          c.self.inside.failing.items;
      calls = c.self.inside.calls;
      ended = c.self.inside.ended;
      faults = c.self.inside.faults;
      failed = c.self.inside.failed;
    } in
    let due = ap (λ (s : Listed). slice_get (shown s).due 0) is ∙ c.requires.first in
    let listed = still_listed now c.args.hit c.self.invariant.0 due in (
      subst (λ (hits : List Hit). IsListed (record now { hits = hits })) (sym c.in-Ok.ensures.items) listed,
      omega (arith, c.self.invariant.1, c.push.ensures.capacity),
    )

-- the feed took the hit
took-it : (c : In-Ok) → record (the_view c.self.inside) { hits = c.push.new.self.items } ≡ took c.args.self.now c.args.hit
took-it c =
    ap (λ (hits : List Hit). let s : Listed = record (the_view c.self.inside) { hits = hits } in s) c.in-Ok.ensures.items
    ∙ ap (λ (s : Listed). record s { hits = s.hits ++ c.args.hit ∷ [] }) (c.self.view_is ∙ c.in_ok-call.ensures.counted)

pub returns-clause-takes : goal.returns-clause-takes
returns-clause-takes c =
    subst (λ (s : Listed). TakesHit (shown c.args.self.now) (shown s)) (sym (took-it (goal.at.returns-clause-takes c).In-Ok))
    (takes_first c.args.self.now c.args.hit)

pub returns-clause-leads : goal.returns-clause-leads
returns-clause-leads c =
    subst (λ (s : Listed). TakesInTurn c.args.self.now s) (sym (took-it (goal.at.returns-clause-leads c).In-Ok))
    (takes_in_turn c.args.self.now c.args.hit c.requires.first)
