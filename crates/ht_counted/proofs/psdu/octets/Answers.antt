use Rattle.std.proofs.Common.{◌≡◌, ℕ, inr, length, drop, sym, ap, subst, ◌∙◌, arith}
use Rattle.std.proofs.lemmas.List.{length-replicate}
use Rattle.ht_fields.proofs.Putting.{takes_as}
use Rattle.ht_fields.specs.Lacking.{LacksField}
use Rattle.ht_counted.proofs.Seeded.{filled}
use Rattle.ht_counted.proofs.psdu.octets.Goals as goal

pub returns-in-Ok-fill-clause-whole : goal.returns-in-Ok-fill-clause-whole
returns-in-Ok-fill-clause-whole g c =
    let into = c.fill.new.into in
    let had : length c.in-Ok.octets.items ≡ c.args.count = ap length c.in-Ok.ensures.zeros ∙ length-replicate c.args.count 0 in
    let wide : c.in-Ok.octets.len ≡ length into = omega (arith, had) in
    takes_as (g.S.Source.shown c.args.source.now) (g.S.Source.shown c.fill.new.source) into _
    (sym (filled c.in-Ok.octets.len into (drop (length into) c.in-Ok.octets.items) wide)) c.in-Ok-fill.ensures.whole

pub returns-in-Ok-fill-clause-size : goal.returns-in-Ok-fill-clause-size
returns-in-Ok-fill-clause-size g c =
    let into = c.fill.new.into in
    let had : length c.in-Ok.octets.items ≡ c.args.count = ap length c.in-Ok.ensures.zeros ∙ length-replicate c.args.count 0 in
    let wide : c.in-Ok.octets.len ≡ length into = omega (arith, had) in
    let size : length into ≡ c.args.count = omega (arith, had) in
    ap length (filled c.in-Ok.octets.len into (drop (length into) c.in-Ok.octets.items) wide) ∙ size

pub returns-in-Err-fill-clause-failed : goal.returns-in-Err-fill-clause-failed
returns-in-Err-fill-clause-failed g c =
    let had : length c.in-Ok.octets.items ≡ c.args.count = ap length c.in-Ok.ensures.zeros ∙ length-replicate c.args.count 0 in
    let size : length c.fill.new.into ≡ c.args.count = omega (arith, had) in
    inr (subst (λ (n : ℕ). LacksField n c.args.at (g.S.Source.shown c.args.source.now) (g.S.Source.shown c.fill.new.source) c.in-Err-fill.fault) size
    c.in-Err-fill.ensures.lacking)
