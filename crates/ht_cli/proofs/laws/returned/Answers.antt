use Rattle.ht_cli.proofs.Returning.{exact_text, passed_text, upgraded_text}
use Rattle.ht_cli.proofs.laws.returned.Goals as goal

pub returns-clause-passed : goal.returns-clause-passed
returns-clause-passed c = λ frames seed symbols capture sends. passed_text frames sends.0 sends.1 seed symbols capture sends.2

pub returns-clause-upgraded : goal.returns-clause-upgraded
returns-clause-upgraded c = λ frames seed symbols capture output sends.
    upgraded_text frames sends.0 sends.1 seed symbols capture output sends.2

pub returns-clause-exact : goal.returns-clause-exact
returns-clause-exact c = λ version frames sent captured sends received.
    exact_text frames sends.0 sends.1 version sent captured received.0 received.1 sends.2 received.2
