use Rattle.std.specs.Prelude.{ℕ, List}
use Rattle.std.proofs.Common.{refl, subst}
use Rattle.ht_io.specs.Devices.{Grows}
use Rattle.ht_cli.proofs.laws.clauses_of_demo.Goals as goal

pub returns-clause-noiseless : goal.returns-clause-noiseless
returns-clause-noiseless c = λ seed count length workers window rate a b k l run.
    subst (λ (text : List ℕ). Grows k l text) (run.made.noiseless refl) run.put
