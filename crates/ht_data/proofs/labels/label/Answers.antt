use Rattle.std.proofs.Common.{◌≡◌, ℕ, ◌-◌, ◌^◌, ◌<◌, ◌==◌, length, false, get_or, ap, sym, ◌∙◌, subst, arith}
use Rattle.std.specs.Int.{bit_at}
use Rattle.ht_data.proofs.Written.{written-below, written-bit}
use Rattle.ht_data.proofs.labels.label.Goals as goal

pub returns-clause-below : goal.returns-clause-below
returns-clause-below c =
    let test = c.loop-place-test.false in
    let done : c.loop-place.place-index ≡ length c.args.places.now = omega (arith, c.loop-place.auto.place-index-end) in
    subst (λ n. c.loop-place.label < 2 ^ n) done
    (subst (λ x. x < 2 ^ c.loop-place.place-index) (sym c.loop-place.invariant.value)
    (written-below (λ e. get_or c.args.coded.now (get_or c.args.places.now e 0) false) c.loop-place.place-index))

pub returns-clause-bits : goal.returns-clause-bits
returns-clause-bits c e lt =
    let test = c.loop-place-test.false in
    let done : c.loop-place.place-index ≡ length c.args.places.now = omega (arith, c.loop-place.auto.place-index-end) in
    let below : e < c.loop-place.place-index = omega arith in
    ap (λ (n : ℕ). bit_at c.loop-place.label (n - 1 - e) == 1) (sym done)
    ∙ ap (λ (n : ℕ). bit_at n (c.loop-place.place-index - 1 - e) == 1) c.loop-place.invariant.value
    ∙ written-bit (λ e. get_or c.args.coded.now (get_or c.args.places.now e 0) false) c.loop-place.place-index e below
