use Rattle.std.proofs.Common.{◌≡◌, ◌∙◌, ◌+◌, length, map, refl, arith}
use Rattle.std.proofs.lemmas.List.{length-map}
use Rattle.ht_viterbi.specs.Received.{known_of}
use Rattle.ht_viterbi.proofs.Explaining.{explained-more}
use Rattle.ht_viterbi.proofs.Turns.{turn-step}
use Rattle.ht_viterbi.proofs.clean.explain_turn.Goals as goal

pub explaining_bit-requires-clause-within : goal.explaining_bit-requires-clause-within
explaining_bit-requires-clause-within c =
    let turn = turn-step c.args.pattern c.period-period.result.now (c.args.first + c.args.count) c.args.first c.args.count c.loop-phase.phase
    c.loop-phase.place _ c.period-period.ensures c.requires.turn c.requires.count (omega arith) c.loop-phase-test.true
    c.loop-phase.invariant.explained.place refl in
    let within = turn.2 in
    omega (arith, within, c.requires.places)

pub loop-phase-preserved : goal.loop-phase-preserved
loop-phase-preserved c =
    let was = c.loop-phase.invariant.explained in
    let turn = turn-step c.args.pattern c.period-period.result.now (c.args.first + c.args.count) c.args.first c.args.count c.loop-phase.phase
    c.loop-phase.place c.places_of-place.result c.period-period.ensures c.requires.turn c.requires.count (omega arith) c.loop-phase-test.true
    was.place c.places_of-place.ensures in
    let within = turn.2 in
    let received = map known_of c.args.received.now in
    let whole : length received ≡ length c.args.received.now = length-map c.args.received.now known_of in
    let end = c.places_of-place.ensures in
    record {
      explained = explained-more c.args.pattern received c.loop-phase.input.items c.push_reserved.new.self.items
          (c.args.first + c.loop-phase.phase) (c.args.first + (c.loop-phase.phase + 1)) c.loop-phase.place
          (c.loop-phase.place + c.places_of-place.result) c.loop-phase.state c.state_after-state.result _ c.in-Some.bit
          (omega arith) turn.0 (omega (arith, end)) turn.1 (omega (arith, within, whole, c.requires.places))
          c.state_after-state.ensures.value c.push_reserved.ensures.items c.in-Some.ensures was;
      capacity = c.push_reserved.ensures.capacity ∙ c.loop-phase.invariant.capacity;
    }
