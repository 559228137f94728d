use Rattle.std.proofs.Common.{◌≡◌, ◌∙◌, ◌+◌, ℕ, arith, subst, refl, sym}
use Rattle.ht_conv.specs.Puncturing.{kept_count, sent_count}
use Rattle.ht_viterbi.specs.Explained.{Explains}
use Rattle.ht_viterbi.specs.Packed.{packed}
use Rattle.ht_viterbi.proofs.Explaining.{explained-more}
use Rattle.ht_viterbi.proofs.Packing.{packed-length, place-fits}
use Rattle.ht_viterbi.proofs.Turns.{start-next}
use Rattle.ht_viterbi.proofs.packed.explain_rest.Goals as goal

pub explaining_bit-requires-clause-within : goal.explaining_bit-requires-clause-within
explaining_bit-requires-clause-within c =
    let next = start-next c.args.pattern c.args.steps c.loop-step.step (c.loop-step.step + 1) c.loop-step.place (kept_count c.kept_at-kept.result)
    c.kept_at-kept.result c.loop-step-test.true refl c.loop-step.invariant.explained.place c.kept_at-kept.ensures refl in
    omega (arith, next.1, c.sent-count.ensures)

pub overflow_add-place : goal.overflow_add-place
overflow_add-place c =
    let next = start-next c.args.pattern c.args.steps c.loop-step.step (c.loop-step.step + 1) c.loop-step.place c.places_of-place.result
    c.kept_at-kept.result c.loop-step-test.true refl c.loop-step.invariant.explained.place c.kept_at-kept.ensures c.places_of-place.ensures in
    let low = place-fits c.args.pattern c.args.steps (c.loop-step.place + c.places_of-place.result) c.requires.few next.1 in
    record { fits = omega (arith, low) }

pub loop-step-preserved : goal.loop-step-preserved
loop-step-preserved c =
    let was = c.loop-step.invariant.explained in
    let count = sent_count c.args.pattern c.args.steps in
    let next = start-next c.args.pattern c.args.steps c.loop-step.step (c.loop-step.step + 1) c.loop-step.place c.places_of-place.result
    c.kept_at-kept.result c.loop-step-test.true refl was.place c.kept_at-kept.ensures c.places_of-place.ensures in
    let many = packed-length c.args.words.now count in
    record {
      explained = explained-more c.args.pattern (packed c.args.words.now count) c.loop-step.input.items c.push_reserved.new.self.items
          c.loop-step.step (c.loop-step.step + 1) c.loop-step.place (c.loop-step.place + c.places_of-place.result) c.loop-step.state
          c.state_after-state.result c.kept_at-kept.result c.in-Some.bit refl c.kept_at-kept.ensures (omega (arith, c.places_of-place.ensures)) next.0
          (omega (arith, next.1, many)) c.state_after-state.ensures.value c.push_reserved.ensures.items
          (subst (λ (n : ℕ). Explains c.kept_at-kept.result (packed c.args.words.now n) c.loop-step.place c.loop-step.state c.in-Some.bit)
          c.sent-count.ensures c.in-Some.ensures) was;
      capacity = c.push_reserved.ensures.capacity ∙ c.loop-step.invariant.capacity;
    }
