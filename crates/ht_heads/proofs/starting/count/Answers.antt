use Rattle.std.proofs.Common.{◌≡◌, ◌<◌, ◌^◌, ◌||◌, nat_lt, ℕ, [], ◌∷◌, length, sym, ap, subst, ◌∙◌, arith, inr, true}
use Rattle.std.proofs.lemmas.List.{length-take}
use Rattle.byteorder.specs.Endian.{big_number}
use Rattle.byteorder.specs.Numbers.{big_from-lt}
use Rattle.ht_fields.proofs.Putting.{takes_as}
use Rattle.ht_heads.specs.Starts.{is_outside}
use Rattle.ht_heads.proofs.Counts.{bytes_back_as}
use Rattle.ht_heads.proofs.starting.count.Goals as goal

pub returns-then-is_refused-clause-failed : goal.returns-then-is_refused-clause-failed
unfolding is_outside
returns-then-is_refused-clause-failed g c =
    let into = c.fill.new.into in
    let limits = c.args.limits.now in
    let wide : length into ≡ limits.width =
    omega (arith, c.requires.few, length-take {A = ℕ} limits.width (0 ∷ 0 ∷ 0 ∷ 0 ∷ 0 ∷ 0 ∷ 0 ∷ 0 ∷ [])) in
    let number : c.read_uint-count.result ≡ big_number limits.width into = c.read_uint-count.ensures in
    let outside : (nat_lt (big_number limits.width into) limits.least || nat_lt limits.most (big_number limits.width into)) ≡ true =
    ap (λ n. nat_lt n limits.least || nat_lt limits.most n) (sym number) ∙ (sym c.is_refused.ensures ∙ c.if-is_refused.true) in
    inr (into, wide, outside, c.in-Ok.ensures.whole, c.bad.ensures)

pub returns-else-is_refused-clause-whole : goal.returns-else-is_refused-clause-whole
returns-else-is_refused-clause-whole g c =
    let into = c.fill.new.into in
    let limits = c.args.limits.now in
    let wide : length into ≡ limits.width =
    omega (arith, c.requires.few, length-take {A = ℕ} limits.width (0 ∷ 0 ∷ 0 ∷ 0 ∷ 0 ∷ 0 ∷ 0 ∷ 0 ∷ [])) in
    takes_as (g.S.Source.shown c.args.source.now) (g.S.Source.shown c.fill.new.source) _ _
    (sym (bytes_back_as into limits.width c.read_uint-count.result wide c.read_uint-count.ensures c.fill.ensures.bytes)) c.in-Ok.ensures.whole

pub returns-else-is_refused-clause-fits : goal.returns-else-is_refused-clause-fits
returns-else-is_refused-clause-fits g c =
    let into = c.fill.new.into in
    let number : c.read_uint-count.result ≡ big_number c.args.limits.now.width into = c.read_uint-count.ensures in
    subst (λ n. n < 256 ^ c.args.limits.now.width) (sym number) (big_from-lt 0 c.args.limits.now.width into c.fill.ensures.bytes)
