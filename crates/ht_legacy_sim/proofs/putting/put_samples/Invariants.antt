use Rattle.std.proofs.Common.{◌≡◌, ◌+◌, [], List, ℕ, length}
use Rattle.ht_io.specs.Devices.{Grows, IsLater}
use Rattle.ht_capture.specs.Files.{sample_octets}
use Rattle.ht_sim.specs.Channel.{sample_drawn}
use Rattle.ht_sim.specs.Draws.{each}
use Rattle.ht_legacy_sim.specs.Drawing.{exact_from}
use Rattle.ht_legacy_sim.proofs.Drawn.{behind}
use Rattle.ht_legacy_sim.proofs.putting.put_samples.Given as goal

-- the octets that were put, with those of the points left, are those of all
abbrev pub invariant-loop-rest : goal.invariant-loop-rest
invariant-loop-rest g l = record {
  put : (front : List ℕ) × (behind sample_octets front (each (sample_drawn l.noise) (exact_from l.diagonals l.place l.rest) l.words)
      ≡ behind sample_octets [] (each (sample_drawn l.noise) (exact_from l.diagonals 0 l.points) l.fn.words))
      × Grows (g.K.Sink.shown l.fn.sink) (g.K.Sink.shown l.sink) front;
  place : l.place + length l.rest ≡ length l.points;
  later : IsLater (g.K.Sink.shown l.fn.sink) (g.K.Sink.shown l.sink);
  steady : (g.K.Sink.shown l.sink).faults ≡ (g.K.Sink.shown l.fn.sink).faults;
}

abbrev pub decreases-loop-rest : goal.decreases-loop-rest
decreases-loop-rest g l = length l.rest
