use Rattle.std.proofs.Common.{◌≡◌, ◌*◌, length, take, flat_map}
use Rattle.ht_capture.specs.Files.{sample_octets}
use Rattle.ht_capture.proofs.writing.fill.Given as goal

-- this many samples are there
abbrev pub invariant-loop-sample : goal.invariant-loop-sample
invariant-loop-sample l = record {
  put : l.chunk ≡ flat_map sample_octets (take l.sample-index l.samples);
  size : length l.chunk ≡ 8 * l.sample-index;
}
