use Rattle.std.proofs.Common.{◌≡◌, drop}
use Rattle.ht_capture.specs.Contents.{AreSamples}
use Rattle.ht_sim.specs.Channel.{mixed, sample_drawn}
use Rattle.ht_sim.specs.Draws.{each, joined}
use Rattle.ht_sim.proofs.rows.add_samples.Given as goal

-- the samples so far and those of the rows that are left are all samples
abbrev pub invariant-loop-row : goal.invariant-loop-row
invariant-loop-row l = record {
  added : joined l.samples.items (each (sample_drawn l.noise) (mixed (drop l.row l.triangle) (drop l.row l.vector)) l.words)
      ≡ joined l.fn.samples.items (each (sample_drawn l.noise) (mixed l.triangle l.vector) l.fn.words);
  typed : AreSamples l.fn.samples.items → AreSamples l.samples.items;
}
