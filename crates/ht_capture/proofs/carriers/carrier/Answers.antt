use Rattle.std.proofs.Common.{◌≡◌, ◌+◌, Bool, [], inl, refl, length, take, sym, subst, arith}
use Rattle.std.proofs.lemmas.List.{length-take-le}
use Rattle.ht_fields.proofs.Halting.{gives_halts}
use Rattle.ht_fields.proofs.Joins.{gives_more}
use Rattle.ht_capture.specs.declared.items.FrameHead.{FrameHead}
use Rattle.ht_capture.specs.Fields.{carriers_due}
use Rattle.ht_capture.specs.Reading.{ReachesCarrier, here}
use Rattle.ht_capture.specs.Taking.{TakesFlag}
use Rattle.ht_capture.proofs.Gathering.{adds_kept}
use Rattle.ht_capture.proofs.Turns.{flagged_false, flagged_true, same_erased}
use Rattle.ht_capture.proofs.carriers.carrier.Goals as goal

pub returns-in-Ok-true-clause-told : goal.returns-in-Ok-true-clause-told
returns-in-Ok-true-clause-told g c =
    let turn = c.args.turn.now in
    let present = take c.args.so_far.count c.args.present.now in
    let count : length present ≡ c.args.so_far.count = length-take-le c.args.so_far.count c.args.present.now (omega (arith, c.requires.space)) in
    let due = carriers_due turn c.args.head.now c.args.carrier present in
    subst (λ (h : FrameHead). ReachesCarrier (here due c.args.so_far.at (g.S.Source.shown c.args.source.now)) turn h (c.args.carrier + 1) present
    c.is_erased.new.at (g.S.Source.shown c.is_erased.new.source)) (sym c.erased.ensures)
    (flagged_true due turn c.args.head.now c.args.carrier present _ _ _ _ _ c.in-Ok-true.field-0-test (c.in-Ok-true.ensures.told present count))

pub returns-in-Ok-true-clause-same : goal.returns-in-Ok-true-clause-same
returns-in-Ok-true-clause-same g c = same_erased c.args.head.now c.erased.result c.args.carrier c.erased.ensures

pub returns-in-Ok-true-clause-added : goal.returns-in-Ok-true-clause-added
returns-in-Ok-true-clause-added g c =
    let taken = subst (λ (b : Bool). TakesFlag c.args.turn.now.version (g.S.Source.shown c.args.source.now) (g.S.Source.shown c.is_erased.new.source) b)
    c.in-Ok-true.field-0-test c.in-Ok-true.ensures.octets in
    inl (taken.0, c.erased.ensures, refl, taken.1)

pub returns-in-Ok-clause-told : goal.returns-in-Ok-clause-told
returns-in-Ok-clause-told g c =
    let present = take c.args.so_far.count c.args.present.now in
    let count : length present ≡ c.args.so_far.count = length-take-le c.args.so_far.count c.args.present.now (omega (arith, c.requires.space)) in
    gives_more _ _ _ [] _ (flagged_false _ c.args.turn.now c.args.head.now c.args.carrier present _ _ _ _ _ c.in-Ok-false.field-0-test
    (c.in-Ok-false.ensures.told present count)) (c.in-Ok.ensures.told c.args.turn.now c.args.head.now refl)

pub returns-in-Ok-clause-added : goal.returns-in-Ok-clause-added
returns-in-Ok-clause-added g c =
    let taken = subst (λ (b : Bool). TakesFlag c.args.turn.now.version (g.S.Source.shown c.args.source.now) (g.S.Source.shown c.is_erased.new.source) b)
    c.in-Ok-false.field-0-test c.in-Ok-false.ensures.octets in
    adds_kept c.args.turn.now.version c.args.carrier c.args.head.now _ _ (g.S.Source.shown c.args.source.now) (g.S.Source.shown c.is_erased.new.source)
    (g.S.Source.shown c.plain.new.source) taken c.in-Ok.ensures.added

pub returns-in-Err-plain-clause-told : goal.returns-in-Err-plain-clause-told
returns-in-Err-plain-clause-told g c =
    let present = take c.args.so_far.count c.args.present.now in
    let count : length present ≡ c.args.so_far.count = length-take-le c.args.so_far.count c.args.present.now (omega (arith, c.requires.space)) in
    gives_halts _ _ _ _ (flagged_false _ c.args.turn.now c.args.head.now c.args.carrier present _ _ _ _ _ c.in-Ok-false.field-0-test
    (c.in-Ok-false.ensures.told present count)) c.in-Ok-false.ensures.later
    (c.in-Err-plain.ensures.told c.args.turn.now c.args.head.now refl)

pub returns-in-Err-clause-told : goal.returns-in-Err-clause-told
returns-in-Err-clause-told g c =
    let present = take c.args.so_far.count c.args.present.now in
    let count : length present ≡ c.args.so_far.count = length-take-le c.args.so_far.count c.args.present.now (omega (arith, c.requires.space)) in
    c.in-Err.ensures.told present count
