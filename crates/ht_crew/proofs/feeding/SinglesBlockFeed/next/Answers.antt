use Rattle.ht_crew.proofs.InBlocks.{few_jobs}
use Rattle.ht_crew.proofs.feeding.SinglesBlockFeed.next.Goals as goal

pub next-requires-clause-few : goal.next-requires-clause-few
next-requires-clause-few g c = few_jobs (g.F.Feed.shown c.args.self.now.feed.now).due c.args._most 4096 c.requires.few_due c.requires.some
