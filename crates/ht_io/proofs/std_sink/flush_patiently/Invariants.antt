use Rattle.std.specs.Io.KnownBytes.{Keeps}
use Rattle.ht_io.proofs.std_sink.flush_patiently.Given as goal

-- interrupted calls keep what the writer holds
abbrev pub invariant-loop : goal.invariant-loop
invariant-loop g l = Keeps (g.W.Write.contents l.fn.inner) (g.W.Write.contents l.inner)
