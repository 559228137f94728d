-- The first items were packed.
use Rattle.std.proofs.Common.{◌≡◌, take, flat_map}
use Rattle.ht_io.specs.Devices.{IsLater}
use Rattle.ht_counted.specs.Packing.{Moves}
use Rattle.ht_counted.proofs.packing.put_packed.Given as goal

abbrev pub invariant-loop-item : goal.invariant-loop-item
invariant-loop-item g l = record {
  moved : Moves (g.K.Sink.shown l.fn.sink) (g.K.Sink.shown l.sink) l.fn.chunk l.chunk (flat_map g.P.Packer.octets (take l.item-index l.items));
  later : IsLater (g.K.Sink.shown l.fn.sink) (g.K.Sink.shown l.sink);
  steady : (g.K.Sink.shown l.sink).faults ≡ (g.K.Sink.shown l.fn.sink).faults;
}
