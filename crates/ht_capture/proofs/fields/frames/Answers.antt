use Rattle.std.proofs.Common.{◌+◌, [], refl, sym, arith}
use Rattle.byteorder.specs.Endian.{big_bytes}
use Rattle.byteorder.specs.Numbers.{big_number-reads_back}
use Rattle.ht_fields.proofs.Halting.{lacks_halts}
use Rattle.ht_capture.specs.Fields.{Count, captures, turn_due}
use Rattle.ht_capture.proofs.Halting.{good_gives}
use Rattle.ht_capture.proofs.Judges.{good_count}
use Rattle.ht_capture.proofs.fields.frames.Goals as goal

pub returns-in-Ok-clause-told : goal.returns-in-Ok-clause-told
returns-in-Ok-clause-told g c =
    let left = c.in-Ok.left in
    good_gives (Count c.args.version) (turn_due (record { version = c.args.version; left = left; frame = 0; number = 0 })) c.args.at
    (c.args.at + 2) [] _ _ (big_bytes 2 left)
    (refl, good_count c.args.version left (big_bytes 2 left) (sym (big_number-reads_back 2 left [] (omega arith)))) c.in-Ok.ensures.whole refl

pub returns-in-Err-clause-told : goal.returns-in-Err-clause-told
returns-in-Err-clause-told g c = lacks_halts captures (Count c.args.version) c.args.at 2 _ _ c.in-Err.fault refl c.in-Err.ensures.lacking
