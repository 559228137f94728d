use Rattle.std.proofs.Common.{arith}
use Rattle.ht_io.proofs.Known.{appends-more}
use Rattle.ht_io.proofs.std_sink.write_whole.Goals as goal

pub loop-done-preserved-in-Ok : goal.loop-done-preserved-in-Ok
loop-done-preserved-in-Ok g c =
    let was = c.loop-done.invariant in
    record {
      retried = was.retried;
      within = omega (arith, c.in-Ok.ensures.bound);
      written = appends-more (g.W.Write.contents c.args.inner.now) (g.W.Write.contents c.loop-done.inner)
          (g.W.Write.contents c.write.new.self) c.args.piece.now c.loop-done.done c.in-Ok.count was.within was.written c.in-Ok.ensures.bytes;
    }
