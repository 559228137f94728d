use Rattle.ht_legacy_return.proofs.Captured.{captured_file, captured_fit}
use Rattle.ht_legacy_return.proofs.laws.captured.Goals as goal

pub returns-clause-fit : goal.returns-clause-fit
returns-clause-fit c = captured_fit

pub returns-clause-file : goal.returns-clause-file
returns-clause-file c = captured_file
