use Rattle.std.proofs.Common.{◌≡◌, ◌*◌, ◌++◌, List, drop, flat_map}
use Rattle.ht_metric.specs.declared.sample.Sample.{Sample}
use Rattle.ht_capture.specs.Files.{sample_octets}
use Rattle.ht_capture.specs.Contents.{AreSamples}
use Rattle.ht_capture.proofs.reading.add_samples.Given as goal

-- this many samples were added
abbrev pub invariant-loop-index : goal.invariant-loop-index
invariant-loop-index l =
    (more : List Sample) × (l.samples.items ≡ l.fn.samples.items ++ more) × AreSamples more
    × (flat_map sample_octets more ++ drop (8 * l.index) l.octets ≡ l.octets)
