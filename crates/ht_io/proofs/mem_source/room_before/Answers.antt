use Rattle.std.proofs.Common.{arith}
use Rattle.ht_io.proofs.Stops.{passes_none-more, is_full-more}
use Rattle.ht_io.proofs.mem_source.room_before.Goals as goal

pub loop-stop-preserved : goal.loop-stop-preserved
loop-stop-preserved c =
    let was = c.loop-stop.invariant in
    let near = c.nearer-most.ensures in
    record {
      some = near.some;
      within = omega arith;
      passes_none = passes_none-more c.args.stops.now c.args.at c.loop-stop.most c.nearer-most.result c.loop-stop.stop-index
          (omega arith) was.passes_none near.within near.passes;
      full = is_full-more c.args.stops.now c.args.at c.args.room c.loop-stop.most c.nearer-most.result c.loop-stop.stop-index (omega arith) was.full near.full;
    }
