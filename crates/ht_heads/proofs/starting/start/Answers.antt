use Rattle.std.proofs.Common.{◌≡◌, ◌+◌, ◌++◌, inl, inr, [], ◌∷◌, ℕ, length, subst, arith, length-append}
use Rattle.ht_io.proofs.Calls.{later-later, takes-append}
use Rattle.ht_io.specs.declared.faults.Kind.TheVariants.{BadVersion}
use Rattle.ht_fields.specs.Lacking.{FailsField}
use Rattle.ht_fields.specs.Tests.{differs}
use Rattle.ht_heads.specs.Starts.{is_outside, started_octets}
use Rattle.byteorder.specs.Endian.{big_bytes}
use Rattle.ht_heads.proofs.starting.start.Goals as goal

pub returns-in-Err-one_octet-clause-failed : goal.returns-in-Err-one_octet-clause-failed
returns-in-Err-one_octet-clause-failed g c =
    let wanted = c.args.wanted.now in
    let four : 4 ≡ 0 + length wanted = omega arith in
    let between = g.S.Source.shown c.magic.new.source in
    inr (inl (
      between,
      c.in-Ok.ensures.whole,
      c.in-Ok.ensures.later,
      subst (λ (n : ℕ). FailsField 1 BadVersion (differs 1) n between (g.S.Source.shown c.one_octet.new.source) c.in-Err-one_octet.fault)
          four c.in-Err-one_octet.ensures.failed,
    ))

pub returns-in-Ok-count-clause-whole : goal.returns-in-Ok-count-clause-whole
unfolding started_octets
returns-in-Ok-count-clause-whole g c =
    let a = g.S.Source.shown c.args.source.now in
    let b = g.S.Source.shown c.magic.new.source in
    let m = g.S.Source.shown c.one_octet.new.source in
    let z = g.S.Source.shown c.count.new.source in
    let octets = big_bytes c.args.limits.now.width c.in-Ok-count.count in
    takes-append a b z c.args.wanted.now (1 ∷ octets) c.in-Ok.ensures.whole
    (takes-append b m z (1 ∷ []) octets c.in-Ok-one_octet.ensures.whole c.in-Ok-count.ensures.whole)

pub returns-in-Err-count-clause-failed : goal.returns-in-Err-count-clause-failed
returns-in-Err-count-clause-failed g c =
    let a = g.S.Source.shown c.args.source.now in
    let b = g.S.Source.shown c.magic.new.source in
    let m = g.S.Source.shown c.one_octet.new.source in
    let wanted = c.args.wanted.now in
    let limits = c.args.limits.now in
    let five : 5 ≡ 0 + length (wanted ++ (1 ∷ [])) = omega (arith, length-append wanted (1 ∷ [])) in
    inr (inr (
      m,
      takes-append a b m wanted (1 ∷ []) c.in-Ok.ensures.whole c.in-Ok-one_octet.ensures.whole,
      later-later a b m c.in-Ok.ensures.later c.in-Ok-one_octet.ensures.later,
      subst (λ (n : ℕ). FailsField limits.width limits.kind (is_outside limits) n m (g.S.Source.shown c.count.new.source) c.in-Err-count.fault)
          five c.in-Err-count.ensures.failed,
    ))
