use Rattle.std.proofs.Common.{arith}
use Rattle.ht_viterbi.specs.Trellis.{first_from}
use Rattle.ht_viterbi.proofs.Steps.{word-taken, choices-drop, walked}
use Rattle.ht_viterbi.proofs.walk.forwards.Goals as goal

pub loop-word-preserved : goal.loop-word-preserved
loop-word-preserved c =
    let was = c.loop-word.invariant in
    let at = c.loop-word.word-index in
    record {
      state = c.state_after-state.ensures.bound;
      input = λ pairs len are.
          let next = word-taken pairs c.args.choices.now at c.loop-word.state c.is_set-bit.result
          (omega arith) len was.state (choices-drop at pairs c.args.choices.now are) c.is_set-bit.ensures in
          walked (first_from pairs 0) c.loop-word.input.items c.push_reserved.new.self.items c.is_set-bit.result c.loop-word.state
          c.state_after-state.result at pairs c.push_reserved.ensures.items c.state_after-state.ensures.value next.0 (was.input pairs len are);
      count = omega arith;
      room = omega arith;
    }
