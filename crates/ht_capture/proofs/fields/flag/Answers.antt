use Rattle.std.proofs.Common.{◌≡◌, ◌≤◌, ◌+◌, ℕ, subst, true, false, ◌∙◌, [], ◌∷◌, refl, sym, ap, arith, length}
use Rattle.ht_fields.proofs.Halting.{lacks_halts}
use Rattle.ht_capture.proofs.Halting.{bad_halts, good_gives}
use Rattle.ht_io.specs.declared.faults.Kind.TheVariants.{BadErased}
use Rattle.ht_capture.specs.Fields.{Flag, Triangle, captures, carriers_due, head_given, bad_flag}
use Rattle.ht_capture.specs.Frames.{erase}
use Rattle.ht_io.specs.Devices.{Takes}
use Rattle.ht_capture.proofs.Encoded.{only_one}
use Rattle.ht_capture.proofs.Judges.{zero_flag, flag_good, flag_bad, some_left}
use Rattle.ht_capture.proofs.fields.flag.Goals as goal

pub returns-then-flag-eq0-clause-told : goal.returns-then-flag-eq0-clause-told
returns-then-flag-eq0-clause-told g c = λ turn present e.
    good_gives (Flag turn c.args.head.now c.args.carrier present)
    (Triangle turn c.args.head.now c.args.carrier present) c.args.at (c.args.at + 1) [] _ _ (c.in-Ok.flag ∷ [])
    (refl, zero_flag turn c.args.head.now c.args.carrier present c.in-Ok.flag c.if-flag-eq0.true) c.in-Ok.ensures.whole refl

pub returns-then-is_refused-clause-told : goal.returns-then-is_refused-clause-told
returns-then-is_refused-clause-told g c = λ turn present e.
    let refused : bad_flag c.args.head.now c.args.carrier (length present) c.in-Ok.flag ≡ true =
    ap (λ n. bad_flag c.args.head.now c.args.carrier n c.in-Ok.flag) e ∙ sym c.if-is_refused.ensures in
    let some : 1 ≤ c.in-Ok.flag = omega (arith, c.if-flag-eq0.false) in
    bad_halts (Flag turn c.args.head.now c.args.carrier present) c.args.at BadErased _ _ (c.in-Ok.flag ∷ []) c.bad.result
    (refl, flag_bad turn c.args.head.now c.args.carrier present c.in-Ok.flag some refused) (λ e. cc, λ e. cc) c.in-Ok.ensures.whole c.bad.ensures

pub returns-else-is_refused-clause-told : goal.returns-else-is_refused-clause-told
returns-else-is_refused-clause-told g c = λ turn present e.
    let kept : bad_flag c.args.head.now c.args.carrier (length present) c.in-Ok.flag ≡ false =
    ap (λ n. bad_flag c.args.head.now c.args.carrier n c.in-Ok.flag) e ∙ sym c.if-is_refused.ensures in
    let some : 1 ≤ c.in-Ok.flag = omega (arith, c.if-flag-eq0.false) in
    let head = erase c.args.head.now c.args.carrier in
    good_gives (Flag turn c.args.head.now c.args.carrier present) (carriers_due turn head (c.args.carrier + 1) present) c.args.at
    (c.args.at + 1) (head_given head (c.args.carrier + 1)) _ _ (c.in-Ok.flag ∷ [])
    (refl, flag_good turn c.args.head.now c.args.carrier present c.in-Ok.flag some kept) c.in-Ok.ensures.whole refl

pub returns-else-is_refused-clause-some : goal.returns-else-is_refused-clause-some
returns-else-is_refused-clause-some g c = λ ok last. some_left c.args.head.now c.args.carrier c.args.count c.in-Ok.flag c.if-is_refused.ensures last

pub returns-in-Err-clause-told : goal.returns-in-Err-clause-told
returns-in-Err-clause-told g c = λ turn present e.
    lacks_halts captures (Flag turn c.args.head.now c.args.carrier present) c.args.at 1 _ _ c.in-Err.fault refl c.in-Err.ensures.lacking

pub returns-else-is_refused-clause-octets : goal.returns-else-is_refused-clause-octets
returns-else-is_refused-clause-octets g c =
    let one : c.in-Ok.flag ≡ 1 =
    only_one c.args.head.now c.args.carrier c.args.count c.in-Ok.flag c.if-is_refused.ensures (omega (arith, c.if-flag-eq0.false)) in
    subst (λ (x : ℕ). Takes (g.S.Source.shown c.args.source.now) (g.S.Source.shown c.octet.new.source) (x ∷ [])) one c.in-Ok.ensures.whole
