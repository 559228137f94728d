use Rattle.std.proofs.Common.{◌≡◌, ◌++◌, List, ℕ, length, flat_map}
use Rattle.ht_io.specs.Devices.{Grows, IsLater}
use Rattle.ht_capture.specs.Files.{sample_octets}
use Rattle.ht_capture.proofs.writing.put_samples.Given as goal

-- the octets that were put, with those of the samples left, are those of all
abbrev pub invariant-loop-rest : goal.invariant-loop-rest
invariant-loop-rest g l = record {
  put : (front : List ℕ) × (front ++ flat_map sample_octets l.rest ≡ flat_map sample_octets l.samples)
      × Grows (g.K.Sink.shown l.fn.sink) (g.K.Sink.shown l.sink) front;
  later : IsLater (g.K.Sink.shown l.fn.sink) (g.K.Sink.shown l.sink);
  steady : (g.K.Sink.shown l.sink).faults ≡ (g.K.Sink.shown l.fn.sink).faults;
}

abbrev pub decreases-loop-rest : goal.decreases-loop-rest
decreases-loop-rest g l = length l.rest
