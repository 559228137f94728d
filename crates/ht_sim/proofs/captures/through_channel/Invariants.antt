use Rattle.std.proofs.Common.{◌≡◌, drop, length, All}
use Rattle.ht_capture.specs.Contents.{AreTyped}
use Rattle.ht_capture.specs.Files.{FitsFrame, HasAllCarriers}
use Rattle.ht_sim.specs.Channel.{frame_drawn}
use Rattle.ht_sim.specs.Draws.{each, joined}
use Rattle.ht_sim.specs.Words.{first}
use Rattle.ht_sim.proofs.captures.through_channel.Given as goal

-- the captures so far and those of the frames that are left are all captures
abbrev pub invariant-loop-frame : goal.invariant-loop-frame
invariant-loop-frame l = record {
  drawn : joined l.captured.items (each (frame_drawn l.noise) (drop l.frame-index l.frames) l.words) ≡ each (frame_drawn l.noise) l.frames (first l.seed);
  count : length l.captured.items ≡ l.frame-index;
  fit : All FitsFrame l.captured.items;
  whole : All HasAllCarriers l.captured.items;
  typed : AreTyped l.captured.items;
}
