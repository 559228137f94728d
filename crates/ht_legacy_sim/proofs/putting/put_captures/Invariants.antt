use Rattle.std.proofs.Common.{◌≡◌, List, ℕ, drop, length}
use Rattle.ht_io.specs.Devices.{Grows, IsLater}
use Rattle.ht_heads.specs.Starts.{started_octets}
use Rattle.ht_sim.specs.Draws.{each}
use Rattle.ht_sim.specs.Words.{first}
use Rattle.ht_legacy_files.specs.CaptureFiles.{capture_octets}
use Rattle.ht_legacy_files.specs.CaptureFormats.{captures_magic}
use Rattle.ht_legacy_sim.specs.Drawing.{capture_drawn}
use Rattle.ht_legacy_sim.proofs.Drawn.{behind}
use Rattle.ht_legacy_sim.proofs.putting.put_captures.Given as goal

-- the octets that were put, with those of the frames left, are those of all
abbrev pub invariant-loop-frame : goal.invariant-loop-frame
invariant-loop-frame g l = record {
  put : (front : List ℕ) × (behind capture_octets front (each (capture_drawn l.noise) (drop l.frame-index l.frames) l.words)
      ≡ behind capture_octets (started_octets captures_magic 2 (length l.frames)) (each (capture_drawn l.noise) l.frames (first l.seed)))
      × Grows (g.K.Sink.shown l.fn.sink) (g.K.Sink.shown l.sink) front;
  later : IsLater (g.K.Sink.shown l.fn.sink) (g.K.Sink.shown l.sink);
  steady : (g.K.Sink.shown l.sink).faults ≡ (g.K.Sink.shown l.fn.sink).faults;
}
