use Rattle.std.proofs.Common.{◌≡◌, ◌∙◌, ◌-◌, ℕ, ap, sym, arith}
use Rattle.std.proofs.Common.{nat_le}
use Rattle.std.proofs.lemmas.Bool.{cond-true, le-leb}
use Rattle.ht_viterbi.specs.Packed.{flag}
use Rattle.ht_clean.specs.Planes.{lagged_bit}
use Rattle.ht_clean.proofs.Gathering.{five-flags}
use Rattle.ht_clean.proofs.planes.coded.Goals as goal

here : (current previous width step : ℕ) → flag current step ≡ lagged_bit current previous width step 0
here current previous width step =
    let same : step ≡ step - 0 = omega arith in
    ap (flag current) same ∙ sym (cond-true (nat_le 0 step) _ _ (le-leb 0 step (omega arith)))

pub returns-clause-a : goal.returns-clause-a
returns-clause-a c = λ step lt.
    five-flags c.args.current c.lagged-by_two.result c.lagged-by_three.result c.lagged-by_five.result c.lagged-by_six.result step _ _ _ _ _
    (here c.args.current c.args.previous c.args.width step)
    (c.lagged-by_two.ensures step lt) (c.lagged-by_three.ensures step lt) (c.lagged-by_five.ensures step lt) (c.lagged-by_six.ensures step lt)

pub returns-clause-b : goal.returns-clause-b
returns-clause-b c = λ step lt.
    five-flags c.args.current c.lagged-by_one.result c.lagged-by_two.result c.lagged-by_three.result c.lagged-by_six.result step _ _ _ _ _
    (here c.args.current c.args.previous c.args.width step)
    (c.lagged-by_one.ensures step lt) (c.lagged-by_two.ensures step lt) (c.lagged-by_three.ensures step lt) (c.lagged-by_six.ensures step lt)
