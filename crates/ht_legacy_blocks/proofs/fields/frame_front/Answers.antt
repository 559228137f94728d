use Rattle.std.proofs.Common.{arith, rules}
use Rattle.ht_legacy_files.proofs.HeadRoutes.{length_halts, rate_halts}
use Rattle.ht_legacy_files.specs.CaptureFormats.{captured}
use Rattle.ht_legacy_blocks.proofs.Fronts.{diagonals_halts, front_gives}
use Rattle.ht_legacy_blocks.proofs.fields.frame_front.Goals as goal

pub returns-in_err-rate-clause-told : goal.returns-in_err-rate-clause-told
returns-in_err-rate-clause-told g c = λ left some.
    let halts = rate_halts captured left c.args.at (g.S.Source.shown c.args.source.now) (g.S.Source.shown c.rate.new.source) c.in_err-rate.field-0.0 some
    c.in_err-rate.ensures.failed in
    search rules

pub returns-in_err-length-clause-told : goal.returns-in_err-length-clause-told
returns-in_err-length-clause-told g c = λ left some.
    let halts = length_halts captured left c.args.at c.in_ok-rate.rate (g.S.Source.shown c.args.source.now) (g.S.Source.shown c.length.new.source)
    c.in_err-length.field-0.0 some
    (g.S.Source.shown c.rate.new.source, c.in_ok-rate.ensures.whole, c.in_ok-rate.ensures.later, c.in_err-length.ensures.failed) in
    search rules

pub returns-in_err-fill-clause-told : goal.returns-in_err-fill-clause-told
returns-in_err-fill-clause-told g c = λ left some.
    let halts = diagonals_halts left c.args.at (g.S.Source.shown c.args.source.now) (g.S.Source.shown c.rate.new.source)
    (g.S.Source.shown c.length.new.source) (g.S.Source.shown c.fill.new.source) c.in_err-fill.field-0.0 c.in_ok-rate.rate c.in_ok-length.length _ some
    c.in_ok-length.ensures.least c.in_ok-length.ensures.most (omega arith) c.in_ok-rate.ensures.whole c.in_ok-length.ensures.whole
    c.in_ok-rate.ensures.later c.in_ok-length.ensures.later c.in_err-fill.ensures.lacking in
    search rules

pub returns-clause-told : goal.returns-clause-told
returns-clause-told g c = λ left some.
    front_gives left c.args.at (g.S.Source.shown c.args.source.now) (g.S.Source.shown c.rate.new.source) (g.S.Source.shown c.length.new.source)
    (g.S.Source.shown c.fill.new.source) c.in_ok-rate.rate c.in_ok-length.length c.fill.new.into some c.in_ok-length.ensures.least
    c.in_ok-length.ensures.most (omega arith) c.in_ok-rate.ensures.whole c.in_ok-length.ensures.whole c.in_ok-fill.ensures.whole
