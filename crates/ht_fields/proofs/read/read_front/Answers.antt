use Rattle.std.proofs.Common.{rules}
use Rattle.ht_io.proofs.Calls.{later-later}
use Rattle.ht_fields.proofs.Pieces.{takes-more}
use Rattle.ht_fields.proofs.read.read_front.Goals as goal

pub loop-count-preserved : goal.loop-count-preserved
loop-count-preserved g c =
    let was = c.loop-count.invariant in
    record {
      within = search rules;
      taken = takes-more (g.S.Source.shown c.args.source.now) (g.S.Source.shown c.loop-count.source) (g.S.Source.shown c.read.new.self) c.loop-count.count
          c.in-Ok.more _ c.loop-count.into c.read.new.into was.within (search rules) was.taken (search rules);
      later = later-later _ _ _ was.later c.in-Ok.ensures.later;
    }
