-- The first entries were put.
use Rattle.std.proofs.Common.{◌≡◌, ◌++◌, take, length, flat_map}
use Rattle.ht_io.specs.Devices.{Grows, IsLater}
use Rattle.ht_heads.specs.Starts.{started_octets}
use Rattle.ht_counted.proofs.writing.write_whole.Given as goal

abbrev pub invariant-loop-entry : goal.invariant-loop-entry
invariant-loop-entry g l = record {
  put : Grows (g.K.Sink.shown l.fn.sink) (g.K.Sink.shown l.sink)
      (started_octets l.fn.magic 2 (length l.entries) ++ flat_map g.P.Putter.octets (take l.entry-index l.entries));
  later : IsLater (g.K.Sink.shown l.fn.sink) (g.K.Sink.shown l.sink);
  steady : (g.K.Sink.shown l.sink).faults ≡ (g.K.Sink.shown l.fn.sink).faults;
}
