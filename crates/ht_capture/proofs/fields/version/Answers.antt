use Rattle.std.proofs.Common.{◌+◌, [], ◌∷◌, refl, sym}
use Rattle.ht_fields.proofs.Halting.{lacks_halts}
use Rattle.ht_capture.proofs.Halting.{bad_halts, good_gives}
use Rattle.ht_io.specs.declared.faults.Kind.TheVariants.{BadVersion}
use Rattle.ht_capture.specs.Fields.{Version, Count, captures}
use Rattle.ht_capture.proofs.Judges.{good_version, bad_version}
use Rattle.ht_capture.proofs.fields.version.Goals as goal

pub returns-then-is_known-clause-told : goal.returns-then-is_known-clause-told
returns-then-is_known-clause-told g c =
    good_gives Version (Count c.in-Ok.version) c.args.at (c.args.at + 1) [] _ _ (c.in-Ok.version ∷ [])
    (refl, good_version c.in-Ok.version (sym c.if-is_known.ensures)) c.in-Ok.ensures.whole refl

pub returns-else-is_known-clause-told : goal.returns-else-is_known-clause-told
returns-else-is_known-clause-told g c =
    bad_halts Version c.args.at BadVersion _ _ (c.in-Ok.version ∷ []) c.bad.result
    (refl, bad_version c.in-Ok.version (sym c.if-is_known.ensures)) (λ e. cc, λ e. cc) c.in-Ok.ensures.whole c.bad.ensures

pub returns-in-Err-clause-told : goal.returns-in-Err-clause-told
returns-in-Err-clause-told g c = lacks_halts captures Version c.args.at 1 _ _ c.in-Err.fault refl c.in-Err.ensures.lacking
