use Rattle.std.proofs.Common.{◌≡◌, ◌-◌, ◌*◌, drop, length}
use Rattle.ht_capture.specs.Contents.{AreSamples}
use Rattle.ht_sim.specs.Channel.{sample_drawn, symbol_mixed}
use Rattle.ht_sim.specs.Draws.{each, joined}
use Rattle.ht_sim.proofs.captures.add_symbol.Given as goal

-- the samples so far and those of the subcarriers that are left are all samples
abbrev pub invariant-loop-triangle : goal.invariant-loop-triangle
invariant-loop-triangle l = record {
  added : joined l.samples.items (each (sample_drawn l.noise) (symbol_mixed l.streams (drop l.triangle-index l.triangles) l.rest) l.words)
      ≡ joined l.fn.samples.items (each (sample_drawn l.noise) (symbol_mixed l.streams l.triangles l.points) l.fn.words);
  left : length l.rest ≡ (length l.triangles - l.triangle-index) * l.streams;
  typed : AreSamples l.fn.samples.items → AreSamples l.samples.items;
}
