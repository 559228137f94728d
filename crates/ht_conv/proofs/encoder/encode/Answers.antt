use Rattle.std.proofs.Common.{◌≡◌, get_or, ◌∙◌}
use Rattle.ht_conv.specs.declared.puncture.Kept.TheVariants.{Both}
use Rattle.ht_conv.specs.Puncturing.{kept_of}
use Rattle.ht_conv.proofs.Running.{starts, goes_on, kept-phase, phase-starts, phase-more, count-more, room-for}
use Rattle.ht_conv.proofs.encoder.encode.Goals as goal

pub loop-bit-init : goal.loop-bit-init
loop-bit-init c = record {
  items = starts c.args.pattern c.args.input.now c.new-register.result c.in_ok-coded.coded.items c.in_ok-coded.ensures.items c.new-register.ensures;
  phase = phase-starts c.args.pattern;
  count = c.in_ok-coded.ensures.len;
  room = c.in_ok-coded.ensures.exact ∙ c.kept_of_steps.ensures;
}

pub push_kept-requires : goal.push_kept-requires
push_kept-requires c =
    room-for c.args.pattern c.loop-bit.bit-index _ _ _ _ c.loop-bit-test.true
    (kept-phase c.args.pattern c.loop-bit.bit-index c.loop-bit.phase c.period-period.result.now c.period-period.ensures c.loop-bit.invariant.phase)
    c.loop-bit.invariant.count c.loop-bit.invariant.room

pub loop-bit-preserved : goal.loop-bit-preserved
loop-bit-preserved c =
    let kept : get_or c.period-period.result.now c.loop-bit.phase Both ≡ kept_of c.args.pattern c.loop-bit.bit-index =
    kept-phase c.args.pattern c.loop-bit.bit-index c.loop-bit.phase c.period-period.result.now c.period-period.ensures c.loop-bit.invariant.phase in record {
      items =
          goes_on c.args.pattern c.args.input.now c.loop-bit.bit-index c.loop-bit.register c.enter-a.new.self
          (get_or c.period-period.result.now c.loop-bit.phase Both) c.enter-a.result.0 c.enter-a.result.1 c.loop-bit.coded.items c.push_kept.new.coded.items _
          c.loop-bit-test.true kept c.enter-a.ensures.a c.enter-a.ensures.b c.enter-a.ensures.next c.push_kept.ensures.items c.loop-bit.invariant.items;
      phase = phase-more c.args.pattern c.loop-bit.bit-index c.loop-bit.phase _ c.period-period.result.now
          c.period-period.ensures c.loop-bit.invariant.phase c.phase_after-phase.ensures;
      count = count-more c.args.pattern c.loop-bit.bit-index _ _ _ kept c.loop-bit.invariant.count c.push_kept.ensures.len;
      room = c.push_kept.ensures.capacity ∙ c.loop-bit.invariant.room;
    }
