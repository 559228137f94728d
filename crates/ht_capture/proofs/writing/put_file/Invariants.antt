use Rattle.std.proofs.Common.{◌≡◌, ◌++◌, take, length, flat_map}
use Rattle.ht_io.specs.Devices.{Grows, IsLater}
use Rattle.ht_capture.specs.Files.{capture_start, capture_frame_octets}
use Rattle.ht_capture.proofs.writing.put_file.Given as goal

-- the octets of this many frames were put
abbrev pub invariant-loop-frame : goal.invariant-loop-frame
invariant-loop-frame g l = record {
  put : Grows (g.K.Sink.shown l.fn.sink) (g.K.Sink.shown l.sink)
      (capture_start l.version (length l.frames) ++ flat_map (capture_frame_octets l.version) (take l.frame-index l.frames));
  later : IsLater (g.K.Sink.shown l.fn.sink) (g.K.Sink.shown l.sink);
  steady : (g.K.Sink.shown l.sink).faults ≡ (g.K.Sink.shown l.fn.sink).faults;
}
