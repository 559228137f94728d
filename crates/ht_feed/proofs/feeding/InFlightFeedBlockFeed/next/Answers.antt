use Rattle.std.proofs.Common.{refl, ap}
use Rattle.ht_feed.proofs.Leads.{ill, tells_given, tells_lacking, well}
use Rattle.ht_feed.proofs.feeding.InFlightFeedBlockFeed.next.Goals as goal

pub returns-in-Ok-clause-leads : goal.returns-in-Ok-clause-leads
returns-in-Ok-clause-leads g c = (
  refl,
  well _ _ _ _ c.in_default.is refl (tells_given _ _ _ _ _ _ _ (g.met.A.Consumer.more_due c.args.self.now.consumer.now) c.in-Ok.ensures.reads),
)

pub returns-in-Err-clause-leads : goal.returns-in-Err-clause-leads
returns-in-Err-clause-leads g c =
    let r = g.R.BlockReader in
    let same = c.in-Err.ensures.memory in (
      refl,
      ill _ _ _ _ c.in_default.is (tells_lacking r.means r.at _ _ _ _ _ same.0 (ap g.S.Source.shown same.1)),
    )
