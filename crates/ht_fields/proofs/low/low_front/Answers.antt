use Rattle.std.proofs.Common.{◌≡◌, ◌∷◌, [], take, set, rules, sym, subst}
use Rattle.ht_fields.specs.Tests.{AreLow}
use Rattle.ht_fields.proofs.LowOctets.{first-set, one-low}
use Rattle.ht_fields.proofs.low.low_front.Goals as goal

pub returns-clause-taken : goal.returns-clause-taken
returns-clause-taken g c =
    let front : take 1 (set c.take_low-count.new.into 0 c.in_ok-into.field-0) ≡ c.in_ok-into.field-0 ∷ [] =
    first-set c.take_low-count.new.into c.in_ok-into.field-0 (search rules) in
    rw front (search rules)

pub returns-clause-low : goal.returns-clause-low
returns-clause-low g c =
    let front : take 1 (set c.take_low-count.new.into 0 c.in_ok-into.field-0) ≡ c.in_ok-into.field-0 ∷ [] =
    first-set c.take_low-count.new.into c.in_ok-into.field-0 (search rules) in
    subst (λ xs. AreLow c.args.last xs) (sym front) (one-low c.args.last c.in_ok-into.field-0 c.in_ok-into.ensures.low)
