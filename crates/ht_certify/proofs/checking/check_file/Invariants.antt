use Rattle.std.proofs.Common.{◌≡◌, ◌+◌, ◌<◌, ◌≤◌, None}
use Rattle.std.specs.Prelude.{length, string_bytes}
use Rattle.ht_cert.specs.Readers.{finished, more, shown_by}
use Rattle.ht_certify.specs.Running.{Checks}
use Rattle.ht_certify.proofs.checking.check_file.Given as goal

-- records were read, judged and counted, and of their lines those that don't wait were put
abbrev pub invariant-loop-text : goal.invariant-loop-text
invariant-loop-text g l = record {
  going : finished l.reader ≡ None;
  few : l.score.jobs + more l.reader ≤ 137438953472;
  waits : length (string_bytes l.text) < 16384;
  checks : Checks (g.S.Source.shown l.fn.source) (g.K.Sink.shown l.fn.sink) (shown_by l.reader (g.S.Source.shown l.source)) (g.K.Sink.shown l.sink)
      l.score (string_bytes l.text);
}

abbrev pub decreases-loop-text : goal.decreases-loop-text
decreases-loop-text g l = more l.reader
