use Rattle.std.proofs.Common.{◌∷◌, ℕ, List, ap, ◌∙◌, w8, SFits, to_z, of_z, to_z-of_z, rules, drop}
use Rattle.ht_rx.proofs.Writing.{behind, minus_put, space_put}
use Rattle.ht_rx.proofs.pieces.write_level.Goals as goal

pub returns-then-sign-eq45-clause-written : goal.returns-then-sign-eq45-clause-written
returns-then-sign-eq45-clause-written c =
    let sign = c.sign_of-sign in
    let fits : SFits w8 c.args.level = search rules in
    c.write_octet-first.ensures.written
    ∙ (ap (λ (l : List ℕ). 32 ∷ l) (c.write_octet-second.ensures.written ∙ ap (λ (l : List ℕ). sign.result ∷ l) c.write_size-at.ensures.written)
    ∙ minus_put sign.result (drop c.args.end c.args.into.now) c.args.level (to_z w8 (of_z w8 c.args.level)) (to_z-of_z fits) _
    c.unsigned_abs.ensures.value sign.ensures.other c.if-sign-eq45.true)

pub returns-else-sign-eq45-clause-written : goal.returns-else-sign-eq45-clause-written
returns-else-sign-eq45-clause-written c =
    let sign = c.sign_of-sign in
    let fits : SFits w8 c.args.level = search rules in
    behind c.write_octet-first.new.into _ c.write_octet-first.result c.write_octet-second.result 32 c.write_octet-first.ensures.start
    c.write_octet-first.ensures.written
    ∙ (c.write_octet-second.ensures.written ∙ ap (λ (l : List ℕ). sign.result ∷ l) c.write_size-at.ensures.written
    ∙ space_put sign.result (drop c.args.end c.args.into.now) c.args.level (to_z w8 (of_z w8 c.args.level)) (to_z-of_z fits) _
    c.unsigned_abs.ensures.value sign.ensures.negative sign.ensures.other c.if-sign-eq45.false)
