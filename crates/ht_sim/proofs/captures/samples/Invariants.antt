use Rattle.std.proofs.Common.{◌≡◌, ◌-◌, ◌*◌, length}
use Rattle.ht_capture.specs.Contents.{AreSamples}
use Rattle.ht_sim.specs.Channel.{sample_drawn, symbols_mixed}
use Rattle.ht_sim.specs.Draws.{each, joined}
use Rattle.ht_sim.proofs.captures.samples.Given as goal

-- the samples so far and those of the symbols that are left are all samples
abbrev pub invariant-loop-symbol : goal.invariant-loop-symbol
invariant-loop-symbol l = record {
  added : joined l.samples.items (each (sample_drawn l.noise) (symbols_mixed (l.symbols - l._symbol) l.streams l.triangles l.rest) l.words)
      ≡ each (sample_drawn l.noise) (symbols_mixed l.symbols l.streams l.triangles l.points) l.fn.words;
  left : length l.rest ≡ (l.symbols - l._symbol) * (length l.triangles * l.streams);
  typed : AreSamples l.samples.items;
}
