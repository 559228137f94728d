use Rattle.std.specs.Io.KnownBytes.{Keeps}
use Rattle.ht_io.proofs.std_source.read_patiently.Given as goal

-- interrupted calls keep what the reader has left
abbrev pub invariant-loop : goal.invariant-loop
invariant-loop g l = Keeps (g.R.Read.remaining l.fn.inner) (g.R.Read.remaining l.inner)
