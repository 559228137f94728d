use Rattle.std.proofs.Common.{◌≡◌, ◌+◌, ◌≤◌, ℕ, [], ◌∷◌, ◌++◌, length, ◌∙◌, sym, arith}
use Rattle.std.proofs.lemmas.Bool.{false≢true}
use Rattle.ht_lanes.specs.Lanes.{LaneJobs, due_of, most_jobs}
use Rattle.ht_lanes.proofs.Asked.{some_so}
use Rattle.ht_feed.proofs.Numbering.{length_numbered}
use Rattle.ht_lanes.proofs.Rings.{gives_block}
use Rattle.ht_lanes.proofs.lanes.LanesBlockFeed.next.Goals as goal

pub size-requires : goal.size-requires
size-requires g c =
    let block : LaneJobs = c.in-Ok-Some.block in
    let asked : ℕ × LaneJobs = (c.in-Ok-Some.lane, block) in
    let few = some_so c.in-Ok-Some.field-0 asked
    (λ (a : ℕ × LaneJobs). length a.1.jobs ≤ c.args.most) c.in-Ok-Some.field-0-is c.in-Ok-Some.ensures.gives.answers.block.few in
    omega (arith, few, c.ranges.most.fits, length_numbered block.first block.jobs)

pub overflow_add-self-in-Ok-Some : goal.overflow_add-self-in-Ok-Some
overflow_add-self-in-Ok-Some g c =
    let block : LaneJobs = c.in-Ok-Some.block in
    let asked : ℕ × LaneJobs = (c.in-Ok-Some.lane, block) in
    let few = some_so c.in-Ok-Some.field-0 asked
    (λ (a : ℕ × LaneJobs). length a.1.jobs ≤ c.args.most) c.in-Ok-Some.field-0-is c.in-Ok-Some.ensures.gives.answers.block.few in
    omega (
      arith,
      few,
      c.ranges.most.fits,
      length_numbered block.first block.jobs,
      c.from.ensures,
      c.from-in-Ok-Some.ensures,
      c.size.ensures,
      c.if-self-from.false,
    )

pub invariant_of-self-in-Ok-Some-clause-feed : goal.invariant_of-self-in-Ok-Some-clause-feed
invariant_of-self-in-Ok-Some-clause-feed g c =
    let f = c.args.self.now.feed in
    let all = c.give.ensures.leads [] in
    let lanes = all.lanes in
    let sources = all.sources in
    record {
      sources_are = sources ∙ (f.sources_are ∙ sym lanes);
      sinks_are = f.sinks_are ∙ sym lanes;
      rings = c.give.ensures.booked;
      ends = λ is. absurd (false≢true (sym c.requires.running ∙ is));
    }

pub invariant_of-self-in-Ok-Some-clause-few : goal.invariant_of-self-in-Ok-Some-clause-few
invariant_of-self-in-Ok-Some-clause-few g c =
    let block : LaneJobs = c.in-Ok-Some.block in
    let asked : ℕ × LaneJobs = (c.in-Ok-Some.lane, block) in
    let few = some_so c.in-Ok-Some.field-0 asked
    (λ (a : ℕ × LaneJobs). length a.1.jobs ≤ c.args.most) c.in-Ok-Some.field-0-is c.in-Ok-Some.ensures.gives.answers.block.few in
    omega (
      arith,
      few,
      c.ranges.most.fits,
      length_numbered block.first block.jobs,
      c.from.ensures,
      c.from-in-Ok-Some.ensures,
      c.size.ensures,
      c.if-self-from.false,
    )

pub returns-in-Ok-Some-clause-block : goal.returns-in-Ok-Some-clause-block
returns-in-Ok-Some-clause-block g c =
    let block : LaneJobs = c.in-Ok-Some.block in
    let e = c.in-Ok-Some.ensures.gives in
    let ring = c.args.self.now.due.now.items in
    let after = c.give.new.due.items in
    let count = c.args.self.now.count in
    let asked : ℕ × LaneJobs = (c.in-Ok-Some.lane, block) in
    let is = c.in-Ok-Some.field-0-is in
    let few = some_so c.in-Ok-Some.field-0 asked (λ (a : ℕ × LaneJobs). length a.1.jobs ≤ c.args.most) is e.answers.block.few in
    let some = some_so c.in-Ok-Some.field-0 asked (λ (a : ℕ × LaneJobs). 1 ≤ length a.1.jobs) is e.answers.block.some in
    let first = some_so c.in-Ok-Some.field-0 asked (λ (a : ℕ × LaneJobs). a.1.first ≡ count) is e.answers.block.first in
    let due = some_so c.in-Ok-Some.field-0 asked (λ (a : ℕ × LaneJobs). after ≡ ring ++ due_of a.0 a.1 ∷ []) is e.due in
    let total : count + c.from-in-Ok-Some.result ≤ most_jobs =
    omega (
      arith,
      few,
      c.ranges.most.fits,
      length_numbered block.first block.jobs,
      c.from.ensures,
      c.from-in-Ok-Some.ensures,
      c.size.ensures,
      c.if-self-from.false,
    ) in
    gives_block c.args.most count c.from-in-Ok-Some.result c.in-Ok-Some.lane ring after c.args.self.now.ended c.args.self.now.failed block c.requires.running
    due first some few (c.from-in-Ok-Some.ensures ∙ c.size.ensures) total
