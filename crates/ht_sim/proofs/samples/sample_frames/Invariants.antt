use Rattle.std.proofs.Common.{◌≡◌, ◌-◌}
use Rattle.ht_sim.specs.Samples.{sample_frame_drawn}
use Rattle.ht_sim.specs.Draws.{joined, several}
use Rattle.ht_sim.specs.Words.{first}
use Rattle.ht_sim.proofs.samples.sample_frames.Given as goal

-- the frames so far and those that are left are all frames
abbrev pub invariant-loop-index : goal.invariant-loop-index
invariant-loop-index l =
    joined l.frames.items (several (sample_frame_drawn l.rate l.length) (l.count - l._index) l.words)
    ≡ several (sample_frame_drawn l.rate l.length) l.count (first l.seed)
