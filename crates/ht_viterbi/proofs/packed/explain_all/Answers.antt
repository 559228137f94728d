use Rattle.std.proofs.Common.{◌≡◌, ℕ, sym, subst}
use Rattle.std.proofs.lemmas.Bool.{eqb-true}
use Rattle.ht_conv.specs.Puncturing.{sent_count}
use Rattle.ht_viterbi.specs.Packed.{packed}
use Rattle.ht_viterbi.proofs.Explaining.{explained-all, explained-ends}
use Rattle.ht_viterbi.proofs.Packing.{packed-length}
use Rattle.ht_viterbi.proofs.packed.explain_all.Goals as goal

pub returns-in-Some-explain_rest-clause-explained : goal.returns-in-Some-explain_rest-clause-explained
returns-in-Some-explain_rest-clause-explained c = λ zero_state.
    let count = sent_count c.args.pattern c.args.steps in
    explained-all c.args.pattern (packed c.args.words.now count) c.explain_rest.new.input.items c.args.steps count c.in-Some-explain_rest.end
    (packed-length c.args.words.now count) c.in-Some-explain_rest.ensures.explained

pub returns-in-Some-explain_rest-clause-terminated : goal.returns-in-Some-explain_rest-clause-terminated
returns-in-Some-explain_rest-clause-terminated c = λ zero_state many.
    let count = sent_count c.args.pattern c.args.steps in
    explained-ends c.args.pattern (packed c.args.words.now count) c.explain_rest.new.input.items c.args.steps count c.in-Some-explain_rest.end
    (eqb-true c.in-Some-explain_rest.end 0 zero_state) many c.in-Some-explain_rest.ensures.explained
