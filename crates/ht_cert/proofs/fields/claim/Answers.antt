use Rattle.std.proofs.Common.{◌≡◌, ℕ, length, ap, subst, ◌∙◌, arith}
use Rattle.std.proofs.lemmas.List.{length-take}
use Rattle.ht_fields.specs.Lacking.{LacksField}
use Rattle.ht_capture.proofs.Grids.{written-all}
use Rattle.ht_cert.specs.Records.{claimed}
use Rattle.ht_cert.proofs.fields.claim.Goals as goal

pub returns-in-Ok-clause-whole : goal.returns-in-Ok-clause-whole
returns-in-Ok-clause-whole g c =
    let into = c.fill.new.into in
    let wide : length into ≡ c.claim_width-width.result =
    omega (arith, c.claim_width-width.ensures.high, c.no_claim-octets.ensures, length-take {A = ℕ} c.claim_width-width.result c.no_claim-octets.result) in (
      into,
      wide ∙ c.claim_width-width.ensures.value,
      c.fill_record.ensures ∙ ap (λ z. claimed c.args.number c.args.modulation c.args.streams z) (written-all into _ _ wide),
      c.in-Ok.ensures.whole,
    )

pub returns-in-Err-clause-failed : goal.returns-in-Err-clause-failed
returns-in-Err-clause-failed g c =
    let into = c.fill.new.into in
    let wide : length into ≡ c.claim_width-width.result =
    omega (arith, c.claim_width-width.ensures.high, c.no_claim-octets.ensures, length-take {A = ℕ} c.claim_width-width.result c.no_claim-octets.result) in
    subst (λ n. LacksField n c.args.at (g.S.Source.shown c.args.source.now) (g.S.Source.shown c.fill.new.source) c.in-Err.fault)
    (wide ∙ c.claim_width-width.ensures.value) c.in-Err.ensures.lacking
