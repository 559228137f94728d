use Rattle.std.proofs.Common.{◌≡◌, ◌+◌, ◌*◌, ◌++◌, length, drop, flat_map}
use Rattle.ht_metric.specs.Arrays.{samples}
use Rattle.ht_capture.specs.Files.{sample_octets}
use Rattle.ht_cert.proofs.writing.add_samples.Given as goal

-- this number of samples is there, and the others complete them
abbrev pub invariant-loop-row : goal.invariant-loop-row
invariant-loop-row l = record {
  put : l.chunk ++ flat_map sample_octets (samples (drop l.row l.system)) ≡ l.fn.chunk ++ flat_map sample_octets (samples l.system);
  size : length l.chunk ≡ length l.fn.chunk + 8 * l.row;
}
