use Rattle.ht_sphere.proofs.Bests.{less_is_before, tied}
use Rattle.ht_witness.proofs.claim.Claim.is_farther.Goals as goal

pub returns-then-partial-self-2 : goal.returns-then-partial-self-2
returns-then-partial-self-2 c =
    tied c.args.partial c.args.self.now.distance c.args.levels.now c.args.self.now.claimed.now c.lt.result c.if-partial-self-2.true
    (less_is_before c.args.levels.now c.args.self.now.claimed.now c.lt.result c.lt.ensures)
