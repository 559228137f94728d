use Rattle.std.proofs.Common.{◌≡◌, ◌+◌, ◌-◌, ◌*◌, [], ◌∷◌, ◌++◌, List, length, take, drop, refl, sym, ap, subst, ◌∙◌, arith, rules}
use Rattle.ht_io.specs.declared.faults.InFault.{InFault}
use Rattle.ht_fields.specs.Readers.{Gives}
use Rattle.ht_capture.specs.declared.items.Item.TheVariants.{Frame}
use Rattle.ht_capture.specs.declared.places.Present.{Present}
use Rattle.ht_capture.specs.declared.places.Turn.{Turn}
use Rattle.ht_capture.specs.declared.stage.Stage.{Stage}
use Rattle.ht_capture.specs.declared.stage.Stage.TheVariants.{NextFrame, Stopped}
use Rattle.ht_capture.specs.Fields.{Over, Symbol, turn_due}
use Rattle.ht_capture.specs.Reading.{AreSeen, here}
use Rattle.ht_capture.specs.Blocks.{KeepsLent}
use Rattle.ht_capture.specs.Readers.{KeepsGrid, StageFits, TurnFits, counted}
use Rattle.ht_capture.proofs.Grids.{written-all}
use Rattle.ht_capture.proofs.Turns.{completes_over, halts_from, halts_real, over_is}
use Rattle.ht_fields.proofs.Halting.{halts_as}
use Rattle.ht_capture.proofs.reader.Reader.frame.Goals as goal

pub invariant_of-self-in-Err-frame : goal.invariant_of-self-in-Err-frame
invariant_of-self-in-Err-frame g c =
    let old = c.self-else-turn-eq0.inside in
    let present = c.frame.new.present in
    let len : length present ≡ 114 = omega arith in
    let whole : length present ≡ old.present.len = omega arith in
    let is : old.stage ≡ NextFrame c.args.turn = rw (← c.self-else-turn-eq0.view_is) at c.requires.stage in
    let fits : TurnFits c.args.turn old.at = rw (← c.self-else-turn-eq0.view_is) at c.requires.fits in (
      record {
        present = ap (λ (p : List Present). length p) (written-all present _ _ whole) ∙ len;
        samples = search rules;
        stage = subst (λ (s : Stage). StageFits s old.at (take old.present.len (present ++ drop (length present) old.present.items))) (sym is) fits;
      },
      subst (λ (s : Stage). KeepsGrid s old.grid) (sym is) tt,
      subst (λ (s : Stage). KeepsLent s (take old.present.len (present ++ drop (length present) old.present.items)) old.samples.items old.lent) (sym is) tt,
    )

-- the fault that was read is the one that the reader stops with
stopped_as : (stage : Stage) (fault result : InFault) → result ≡ fault → stage ≡ Stopped fault → stage ≡ Stopped result
stopped_as stage fault result same is = subst (λ (f : InFault). stage ≡ Stopped f) (sym same) is

pub returns-in-Ok : goal.returns-in-Ok
returns-in-Ok g c =
    record {
      told = rw (← c.self.view_is) (completes_over c.args.turn c.self.inside.at _ _ c.if-turn-eq0.true c.in-Ok.ensures.told);
      stopped = tt;
      done = λ e. refl;
      memory = tt;
      counted = tt;
      placed = tt;
      on = tt;
      fewer = omega arith;
      later = c.in-Ok.ensures.later;
    }

pub returns-in-Err : goal.returns-in-Err
returns-in-Err g c =
    record {
      told = rw (← c.self.view_is) (halts_as _ _ c.in-Err.fault c.stop.result c.stop.ensures.same
          (halts_from (turn_due c.args.turn) Over c.self.inside.at _ _ c.in-Err.fault (over_is c.args.turn c.if-turn-eq0.true) c.in-Err.ensures.told));
      stopped = stopped_as _ c.in-Err.fault c.stop.result c.stop.ensures.same c.stop.ensures.stage;
      done = λ e. absurd cc;
      memory = λ e. halts_real _ _ c.in-Err.fault c.in-Err.ensures.told (sym c.stop.ensures.same ∙ e);
      counted = tt;
      placed = tt;
      on = tt;
      fewer = omega (arith, c.stop.ensures.none);
      later = c.in-Err.ensures.later;
    }

pub returns-in-Ok-frame : goal.returns-in-Ok-frame
returns-in-Ok-frame g c =
    let old = c.self-else-turn-eq0.inside in
    let turn = c.args.turn in
    let due = c.in-Ok-frame.due in
    let present = c.frame.new.present in
    let got = c.in-Ok-frame.ensures in
    let whole : length present ≡ old.present.len = omega arith in
    let kept : take old.present.len (present ++ drop (length present) old.present.items) ≡ present = written-all present _ _ whole in
    let first : due.symbols - due.symbol ≡ due.symbols = omega (arith, got.turn.1) in
    let jobs : (due.symbols - due.symbol) * due.count ≡ due.symbols * due.count = ap (λ n. n * due.count) first in
    let left : due.turn.left ≡ turn.left = ap (λ (t : Turn). t.left) got.turn.0 in
    let frame : due.turn.frame ≡ turn.frame = ap (λ (t : Turn). t.frame) got.turn.0 in
    record {
      told = rw (← c.self-else-turn-eq0.view_is)
          (subst (λ (p : List Present). Gives (here (turn_due turn) old.at (g.S.Source.shown c.args.source.now))
          (here (Symbol due (take due.count p)) c.in-Ok-frame.behind (g.S.Source.shown c.frame.new.source)) (Frame due.head ∷ [])) (sym kept) got.told);
      stopped = tt;
      done = λ e. absurd cc;
      memory = tt;
      counted = (got.number, ap (λ (t : Turn). counted (t.frame + 1) t.number) got.turn.0, omega (arith, frame, c.requires.fits.frames, c.if-turn-eq0.false));
      placed = (due, refl, refl, got.turn.1);
      on = refl;
      fewer = omega (arith, jobs, left, got.jobs, c.if-turn-eq0.false);
      later = got.later;
    }

pub returns-in-Err-frame : goal.returns-in-Err-frame
returns-in-Err-frame g c =
    let fault = c.in-Err-frame.fault in
    let stop = c.stop-in-Err-frame.ensures in
    record {
      told = rw (← c.self-else-turn-eq0.view_is) (halts_as _ _ fault c.stop-in-Err-frame.result stop.same c.in-Err-frame.ensures.told);
      stopped = stopped_as _ fault c.stop-in-Err-frame.result stop.same stop.stage;
      done = λ e. absurd cc;
      memory = λ e. halts_real _ _ fault c.in-Err-frame.ensures.told (sym stop.same ∙ e);
      counted = tt;
      placed = tt;
      on = tt;
      fewer = omega (arith, stop.none);
      later = c.in-Err-frame.ensures.later;
    }

pub invariant_of-self-in-Ok-frame : goal.invariant_of-self-in-Ok-frame
invariant_of-self-in-Ok-frame g c =
    let old = c.self-else-turn-eq0.inside in
    let turn = c.args.turn in
    let due = c.in-Ok-frame.due in
    let present = c.frame.new.present in
    let got = c.in-Ok-frame.ensures in
    let len : length present ≡ 114 = omega arith in
    let whole : length present ≡ old.present.len = omega arith in
    let kept : take old.present.len (present ++ drop (length present) old.present.items) ≡ present = written-all present _ _ whole in
    let fits : TurnFits turn old.at = rw (← c.self-else-turn-eq0.view_is) at c.requires.fits in
    let left : due.turn.left ≡ turn.left = ap (λ (t : Turn). t.left) got.turn.0 in
    let frame : due.turn.frame ≡ turn.frame = ap (λ (t : Turn). t.frame) got.turn.0 in
    let number : due.turn.number ≡ turn.number = ap (λ (t : Turn). t.number) got.turn.0 in (
      record {
        present = ap (λ (p : List Present). length p) kept ∙ len;
        samples = c.self-else-turn-eq0.invariant.0.samples;
        stage = record {
          frame = record {
            frames = omega (arith, frame, left, fits.frames);
            left = omega (arith, left, c.if-turn-eq0.false);
            count = got.some;
            few = got.few;
            places = got.places;
            symbols = got.symbols.1;
            whole = got.whole;
            seen = subst (λ (p : List Present). AreSeen due.head.rate due.count p) (sym kept) got.seen;
          };
          symbol = omega (arith, got.turn.1, got.symbols.0);
          place = omega (arith, got.place, frame, fits.place);
          number = omega (arith, number, frame, fits.number);
        };
      },
      c.grid-self-inside.ensures,
      tt,
    )
