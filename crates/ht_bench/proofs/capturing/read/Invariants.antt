use Rattle.ht_capture.specs.Readers.{more}
use Rattle.ht_bench.proofs.capturing.read.Given as goal

abbrev pub decreases-loop-job : goal.decreases-loop-job
decreases-loop-job l = more l.reader
