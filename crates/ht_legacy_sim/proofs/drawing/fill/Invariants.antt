use Rattle.std.proofs.Common.{◌≡◌, ◌+◌, ◌*◌, [], length, drop}
use Rattle.ht_capture.specs.Files.{sample_octets}
use Rattle.ht_sim.specs.Channel.{sample_drawn}
use Rattle.ht_sim.specs.Draws.{each}
use Rattle.ht_legacy_sim.specs.Drawing.{exact_from}
use Rattle.ht_legacy_sim.proofs.Drawn.{behind}
use Rattle.ht_legacy_sim.proofs.drawing.fill.Given as goal

-- the samples so far and those of the points that are left are all samples
abbrev pub invariant-loop-point : goal.invariant-loop-point
invariant-loop-point l = record {
  place : l.place ≡ l.first + l.point-index;
  size : length l.chunk ≡ 8 * l.point-index;
  drawn : behind sample_octets l.chunk (each (sample_drawn l.noise) (exact_from l.diagonals l.place (drop l.point-index l.points)) l.words)
      ≡ behind sample_octets [] (each (sample_drawn l.noise) (exact_from l.diagonals l.first l.points) l.fn.words);
}
