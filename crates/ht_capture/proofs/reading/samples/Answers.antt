use Rattle.std.proofs.Common.{◌≡◌, ◌<◌, ◌≤◌, ◌+◌, ◌*◌, List, [], length, flat_map, refl, sym, ap, subst, ◌∙◌, arith}
use Rattle.ht_io.proofs.Calls.{later-refl, later-later}
use Rattle.ht_io.proofs.Pieces.{taken-none}
use Rattle.ht_rate.specs.Rates.{streams_of}
use Rattle.ht_metric.specs.declared.sample.Sample.{Sample}
use Rattle.ht_capture.specs.declared.items.FrameHead.{FrameHead}
use Rattle.ht_capture.specs.declared.places.SymbolTurn.{SymbolTurn}
use Rattle.ht_capture.specs.Fields.{symbol_due}
use Rattle.ht_capture.specs.Files.{sample_octets}
use Rattle.ht_capture.specs.Contents.{AreSamples}
use Rattle.ht_capture.proofs.Octets.{takes_as}
use Rattle.ht_capture.proofs.Endings.{adding, frame_is_due, given_to, is_next, symbol_is_due}
use Rattle.ht_fields.proofs.Endings.{given_ends, given_more, given_none}
use Rattle.ht_capture.proofs.reading.samples.Goals as goal

pub loop-due-init : goal.loop-due-init
loop-due-init g c =
    let due = c.args.due.now in
    let items = c.new-samples.ensures.items in
    let w = due.count * streams_of due.head.rate in
    let zero : 0 * w ≡ 0 = omega arith in
    let some : due.symbol < due.symbols = omega (arith, c.requires.first, c.requires.low) in
    record {
      told = λ present. given_to _ _ _ _ _ (sym (symbol_is_due due present some)) (given_none _);
      octets = takes_as _ _ [] _ (ap (λ (s : List Sample). flat_map sample_octets s) (sym items)) (taken-none _);
      typed = subst AreSamples (sym items) tt;
      count = ap (λ (s : List Sample). length s) items ∙ (sym zero ∙ ap (λ n. n * w) (sym c.requires.first));
      head = refl;
      present = refl;
      turn = (refl, refl, refl);
      symbol = omega (arith, c.requires.first);
      symbols = refl;
      number = omega arith;
      place = omega arith;
      later = later-refl _;
    }

pub returns-in-Err-clause-told : goal.returns-in-Err-clause-told
returns-in-Err-clause-told g c = λ present.
    let due = c.loop-due.due in
    let lt : due.symbol < due.symbols = c.loop-due-test.true in
    given_ends _ _ (g.S.Source.shown c.symbol.new.source) _ (given_to _ _ _ _ _ (symbol_is_due due present lt) (c.loop-due.invariant.told present))
    c.loop-due.invariant.later (c.in-Err.ensures.told present)

pub loop-due-smaller : goal.loop-due-smaller
loop-due-smaller g c =
    let step = is_next c.next.result c.loop-due.due c.next.ensures in
    omega (arith, step.symbol, step.symbols, c.loop-due-test.true)

pub loop-due-preserved : goal.loop-due-preserved
loop-due-preserved g c =
    let due = c.loop-due.due in
    let was = c.loop-due.invariant in
    let step = is_next c.next.result due c.next.ensures in
    let first = c.args.due.now in
    let w = first.count * streams_of first.head.rate in
    let lt : due.symbol < due.symbols = c.loop-due-test.true in
    let more = c.in-Ok.ensures.added in
    let start = g.S.Source.shown c.args.source.now in
    let before = g.S.Source.shown c.loop-due.source in
    let after = g.S.Source.shown c.symbol.new.source in
    let wide : length more.0 ≡ 8 * w = more.2
    ∙ (ap (λ n. n * (8 * streams_of due.head.rate)) was.present ∙ (ap (λ (h : FrameHead). first.count * (8 * streams_of h.rate)) was.head ∙ omega arith)) in
    let add = adding c.loop-due.samples.items c.symbol.new.samples.items more.0 start before after w was.octets was.typed more.1 wide more.3 in
    let times : (due.symbol + 1) * w ≡ due.symbol * w + w = omega arith in
    record {
      told = λ present. given_to _ _ _ _ _ (ap (λ (s : SymbolTurn). symbol_due s present) (sym c.next.ensures))
          (given_more _ _ _ (given_to _ _ _ _ _ (symbol_is_due due present lt) (was.told present)) (c.in-Ok.ensures.told present));
      octets = add.octets;
      typed = add.typed;
      count = add.count ∙ (ap (λ n. n + w) was.count ∙ (sym times ∙ ap (λ n. n * w) (sym step.symbol)));
      head = step.head ∙ was.head;
      present = step.count ∙ was.present;
      turn = (step.turn.0 ∙ was.turn.0, step.turn.1 ∙ was.turn.1, step.turn.2 ∙ was.turn.2);
      symbol = omega (arith, step.symbol, step.symbols, c.loop-due-test.true);
      symbols = step.symbols ∙ was.symbols;
      number = omega (arith, step.symbol, step.number, was.number, was.present, c.requires.few);
      place = omega (arith, step.symbol, was.place, c.in-Ok.ensures.place);
      later = later-later _ _ _ was.later c.in-Ok.ensures.later;
    }

pub returns-clause-told : goal.returns-clause-told
returns-clause-told g c = λ present.
    let due = c.loop-due.due in
    let le : due.symbols ≤ due.symbol = omega (arith, c.loop-due-test.false) in
    given_to _ _ _ _ _ (frame_is_due due present le) (c.loop-due.invariant.told present)
