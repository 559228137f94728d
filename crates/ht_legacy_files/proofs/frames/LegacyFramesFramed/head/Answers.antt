use Rattle.ht_fields.specs.Readers.{reader_in}
use Rattle.ht_fields.proofs.Endings.{halts_ends}
use Rattle.ht_legacy_files.specs.HeadedFormats.{frames_due}
use Rattle.ht_legacy_files.specs.Formats.{framed, frames}
use Rattle.ht_legacy_files.proofs.HeadRoutes.{length_halts, rate_halts}
use Rattle.ht_legacy_files.proofs.frames.LegacyFramesFramed.head.Goals as goal

pub returns-in-Err-clause-failed : goal.returns-in-Err-clause-failed
returns-in-Err-clause-failed g c = λ left some.
    let a = g.S.Source.shown c.args.source.now in
    let z = g.S.Source.shown c.rate.new.source in
    halts_ends (reader_in frames (frames_due left) c.args.at a) z c.in-Err.fault
    (rate_halts framed left c.args.at a z c.in-Err.fault some c.in-Err.ensures.failed)

pub returns-in-Err-length-clause-failed : goal.returns-in-Err-length-clause-failed
returns-in-Err-length-clause-failed g c = λ left some.
    let a = g.S.Source.shown c.args.source.now in
    let z = g.S.Source.shown c.length.new.source in
    halts_ends (reader_in frames (frames_due left) c.args.at a) z c.in-Err-length.fault
    (length_halts framed left c.args.at c.in-Ok.rate a z c.in-Err-length.fault some
    (g.S.Source.shown c.rate.new.source, c.in-Ok.ensures.whole, c.in-Ok.ensures.later, c.in-Err-length.ensures.failed))
