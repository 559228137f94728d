use Rattle.std.proofs.Common.{◌∙◌}
use Rattle.ht_io.proofs.Calls.{later-later}
use Rattle.ht_fields.proofs.Putting.{on_err, on_err_then}
use Rattle.ht_counted.proofs.Packed.{moves_more, part_moved}
use Rattle.ht_counted.proofs.packing.put_packed.Goals as goal

pub returns-in_err-pack-clause-part : goal.returns-in_err-pack-clause-part
returns-in_err-pack-clause-part g c =
    on_err _ _ (part_moved g.P.Packer.octets c.args.items.now c.loop-item.item-index (g.K.Sink.shown c.args.sink.now) (g.K.Sink.shown c.loop-item.sink)
    (g.K.Sink.shown c.pack.new.sink) c.args.chunk.now c.loop-item.chunk c.loop-item.invariant.moved c.in_err-pack.ensures.part)

pub loop-item-preserved : goal.loop-item-preserved
loop-item-preserved g c =
    let was = c.loop-item.invariant in
    record {
      moved = moves_more g.P.Packer.octets c.args.items.now c.loop-item.item-index c.item-item.result (g.K.Sink.shown c.args.sink.now)
          (g.K.Sink.shown c.loop-item.sink) (g.K.Sink.shown c.pack.new.sink) c.args.chunk.now c.loop-item.chunk c.pack.new.chunk
          c.loop-item-test.true c.item-item.is was.moved c.in_ok-pack.ensures.moved;
      later = later-later _ _ _ was.later c.in_ok-pack.ensures.later;
      steady = c.in_ok-pack.ensures.steady ∙ was.steady;
    }

pub returns-clause-part : goal.returns-clause-part
returns-clause-part g c =
    on_err_then _ _ _
    (part_moved g.P.Packer.octets c.args.items.now c.loop-item.item-index (g.K.Sink.shown c.args.sink.now) (g.K.Sink.shown c.loop-item.sink)
    (g.K.Sink.shown c.put_chunk.new.sink) c.args.chunk.now c.loop-item.chunk c.loop-item.invariant.moved)
    c.put_chunk.ensures.part
