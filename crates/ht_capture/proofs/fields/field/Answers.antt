use Rattle.std.proofs.Common.{◌≡◌, ◌+◌, ◌++◌, List, ℕ, length, take, sym, ap, subst, arith}
use Rattle.std.proofs.lemmas.List.{length-take-le}
use Rattle.ht_fields.proofs.Halting.{lacks_halts}
use Rattle.ht_capture.specs.declared.items.Item.{Item}
use Rattle.ht_capture.specs.Fields.{CaptureState, captures, capture_due}
use Rattle.ht_capture.specs.Reading.{IsGood}
use Rattle.ht_capture.proofs.Grids.{written-all}
use Rattle.ht_capture.proofs.Halting.{field_width, good_gives}
use Rattle.ht_capture.proofs.fields.field.Goals as goal

-- what was read to the front of a buffer is the field
in_front : (due next : CaptureState) (items : List Item) (width : ℕ) (into rest : List ℕ) → length into ≡ width
    → IsGood due (take width (into ++ rest)) next items → IsGood due into next items
in_front due next items width into rest wide good =
    subst (λ (o : List ℕ). IsGood due o next items) (written-all into rest width wide) good

pub returns-in-Ok-clause-told : goal.returns-in-Ok-clause-told
returns-in-Ok-clause-told g c = λ due next items good.
    let into = c.fill.new.into in
    let wide : length into ≡ c.args.width = omega (arith, length-take-le c.args.width c.args.buffer.now c.requires.space) in
    good_gives due next c.args.at (c.args.at + c.args.width) items _ _ into
    (in_front due next items c.args.width into _ wide good) c.in-Ok.ensures.whole (ap (λ n. c.args.at + n) (sym wide))

pub returns-in-Err-clause-told : goal.returns-in-Err-clause-told
returns-in-Err-clause-told g c = λ due next items good.
    let into = c.fill.new.into in
    let wide : length into ≡ c.args.width = omega (arith, length-take-le c.args.width c.args.buffer.now c.requires.space) in
    lacks_halts captures due c.args.at (length into) _ _ c.in-Err.fault
    (field_width (capture_due due) into _ (in_front due next items c.args.width into _ wide good)) c.in-Err.ensures.lacking
