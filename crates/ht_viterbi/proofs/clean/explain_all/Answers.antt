use Rattle.std.proofs.Common.{◌≡◌, ◌+◌, ◌-◌, ◌%◌, ◌<◌, ℕ, List, length, map, sym, subst, arith}
use Rattle.std.proofs.Math.Nat.{mod-le}
use Rattle.std.proofs.lemmas.Bool.{eqb-true}
use Rattle.ht_conv.specs.declared.puncture.Kept.{Kept}
use Rattle.ht_viterbi.specs.Explained.{IsExplained}
use Rattle.ht_viterbi.specs.Received.{known_of}
use Rattle.ht_viterbi.proofs.Explaining.{explained-ends, period-some, sent-within}
use Rattle.ht_viterbi.proofs.Turns.{sent-low}
use Rattle.ht_viterbi.proofs.clean.explain_all.Goals as goal

pub explain_turn-requires-clause-places : goal.explain_turn-requires-clause-places
explain_turn-requires-clause-places c =
    let within = sent-within c.args.pattern c.args.steps c.loop-turn.turn (length c.period-len.result.now)
    (subst (λ (p : List Kept). 0 < length p) (sym c.period-len.ensures) (period-some c.args.pattern)) c.loop-turn-test.true in
    omega (arith, within, c.requires.received)

pub explain_turn-requires-clause-few : goal.explain_turn-requires-clause-few
explain_turn-requires-clause-few c = omega (arith, sent-low c.args.pattern c.args.steps, c.requires.few, c.requires.received)

pub explain_turn-requires-2-clause-few : goal.explain_turn-requires-2-clause-few
explain_turn-requires-2-clause-few c = omega (arith, sent-low c.args.pattern c.args.steps, c.requires.few, c.requires.received)

pub returns-in-Some-explain_turn-clause-terminated : goal.returns-in-Some-explain_turn-clause-terminated
returns-in-Some-explain_turn-clause-terminated c = λ zero_state many.
    let len = length c.period-len.result.now in
    let less = mod-le c.args.steps len in
    let whole : c.args.steps - c.args.steps % len + c.args.steps % len ≡ c.args.steps = omega (arith, less) in
    explained-ends c.args.pattern (map known_of c.args.received.now) c.explain_turn-2.new.input.items c.args.steps c.in-Some-explain_turn.end.place
    c.in-Some-explain_turn.end.state
    (eqb-true c.in-Some-explain_turn.end.state 0 zero_state) many
    (subst (λ (n : ℕ). IsExplained c.args.pattern (map known_of c.args.received.now) c.explain_turn-2.new.input.items n c.in-Some-explain_turn.end.place
    c.in-Some-explain_turn.end.state)
    whole c.in-Some-explain_turn.ensures.explained)
