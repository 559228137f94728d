use Rattle.std.proofs.Common.{rules}
use Rattle.ht_io.proofs.Calls.{later-later}
use Rattle.ht_fields.proofs.LowOctets.{low-piece, fails-among}
use Rattle.ht_fields.proofs.Pieces.{takes-more}
use Rattle.ht_fields.proofs.low.fill_low.Goals as goal

pub loop-count-preserved : goal.loop-count-preserved
loop-count-preserved g c =
    let was = c.loop-count.invariant in
    let read = c.in-Ok.ensures in
    let first = g.S.Source.shown c.args.source.now in
    let before = g.S.Source.shown c.loop-count.source in
    let after = g.S.Source.shown c.low_front.new.source in
    record {
      within = search rules;
      taken = takes-more first before after c.loop-count.count c.in-Ok.more _ c.loop-count.into c.low_front.new.into was.within
          (search rules) was.taken (search rules);
      low = low-piece c.args.last c.loop-count.count c.in-Ok.more _ c.loop-count.into c.low_front.new.into was.within
          (search rules) was.low (search rules);
      later = later-later first before after was.later read.later;
    }

pub returns-in-Err-clause-failed : goal.returns-in-Err-clause-failed
returns-in-Err-clause-failed g c =
    let was = c.loop-count.invariant in
    fails-among c.loop-count.count _ c.args.last c.args.at _ c.loop-count.into (g.S.Source.shown c.args.source.now) (g.S.Source.shown c.loop-count.source)
    (g.S.Source.shown c.low_front.new.source) c.in-Err.fault (search rules) was.within was.low was.taken was.later c.in-Err.ensures.failed
