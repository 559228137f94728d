use Rattle.std.proofs.Common.{ℕ, List, sym, subst}
use Rattle.std.proofs.lemmas.Result.{IfOk-weaker}
use Rattle.ht_results.specs.Results.{results_of}
use Rattle.ht_demo.specs.Demos.{SumsFit}
use Rattle.ht_demo.proofs.Bounded.{have_fit}
use Rattle.ht_demo.proofs.sent.capture.Goals as goal

-- the octets are the file of frames whose numbers fit its fields
pub returns-clause-sums : goal.returns-clause-sums
returns-clause-sums c =
    let captured = c.in_ok-captured in
    let sums = have_fit captured.captured.items captured.ensures.fit captured.ensures.typed captured.ensures.whole in
    IfOk-weaker c.written.result _ _ (λ octets is. subst (λ (xs : List ℕ). SumsFit (results_of xs)) (sym is) sums) c.written.ensures
