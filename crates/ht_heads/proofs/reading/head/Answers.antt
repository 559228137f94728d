use Rattle.std.proofs.Common.{inl, inr}
use Rattle.ht_io.proofs.Calls.{later-later}
use Rattle.ht_heads.proofs.Taking.{takes_code, takes_head}
use Rattle.ht_heads.proofs.reading.head.Goals as goal

pub returns-in-Err-clause-failed : goal.returns-in-Err-clause-failed
returns-in-Err-clause-failed g c = inl c.in-Err.ensures.failed

pub returns-in-Err-mcs-clause-failed : goal.returns-in-Err-mcs-clause-failed
returns-in-Err-mcs-clause-failed g c =
    inr (inl (
      c.in-Ok.code,
      c.in-Ok.ensures.few,
      (g.S.Source.shown c.bandwidth.new.source, c.in-Ok.ensures.whole, c.in-Ok.ensures.later, c.in-Err-mcs.ensures.failed),
    ))

pub returns-in-Ok-length-clause-whole : goal.returns-in-Ok-length-clause-whole
returns-in-Ok-length-clause-whole g c =
    takes_head c.in-Ok-mcs.rate c.in-Ok.code c.in-Ok-length.length (g.S.Source.shown c.args.source.now) (g.S.Source.shown c.bandwidth.new.source)
    (g.S.Source.shown c.mcs.new.source)
    (g.S.Source.shown c.length.new.source) c.in-Ok-mcs.ensures.code c.in-Ok.ensures.whole c.in-Ok-mcs.ensures.whole c.in-Ok-length.ensures.whole

pub returns-in-Err-length-clause-failed : goal.returns-in-Err-length-clause-failed
returns-in-Err-length-clause-failed g c =
    let a = g.S.Source.shown c.args.source.now in
    let b = g.S.Source.shown c.bandwidth.new.source in
    let m = g.S.Source.shown c.mcs.new.source in
    inr (inr (
      c.in-Ok-mcs.rate,
      (
        m,
        takes_code c.in-Ok-mcs.rate c.in-Ok.code a b m c.in-Ok-mcs.ensures.code c.in-Ok.ensures.whole c.in-Ok-mcs.ensures.whole,
        later-later a b m c.in-Ok.ensures.later c.in-Ok-mcs.ensures.later,
        c.in-Err-length.ensures.failed,
      ),
    ))
