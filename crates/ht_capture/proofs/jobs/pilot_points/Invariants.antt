use Rattle.std.proofs.Common.{◌≡◌, map, length}
use Rattle.std.specs.List.{range_with_len}
use Rattle.ht_pilot.specs.Pilots.{pilot_of}
use Rattle.ht_capture.specs.Frames.{one_point}
use Rattle.ht_capture.proofs.jobs.pilot_points.Given as goal

-- the streams so far have their points
abbrev pub invariant-loop-stream : goal.invariant-loop-stream
invariant-loop-stream l = record {
  points : l.grid ≡ map (λ stream. one_point (pilot_of l.rate l.symbol l.index stream)) (range_with_len 1 l.stream);
  count : length l.grid ≡ l.stream;
}
