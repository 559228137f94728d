use Rattle.std.proofs.Common.{◌*◌, ◌≤◌, arith}
use Rattle.std.proofs.lemmas.Nat.{mul-le}
use Rattle.ht_parse.proofs.Places.{product-small}
use Rattle.ht_parse.proofs.Sizes.{sizes-small, sizes-share}
use Rattle.ht_parse.proofs.layout.Layout.share.Goals as goal

groups : (c : goal.Start) → c.args.self.now.rounds * c.args.self.now.streams ≤ 864
groups c =
    let small = sizes-small _ _ _ _ _ c.args.self.now.sizes in
    mul-le c.args.self.now.rounds c.args.self.now.streams 216 4 small.3 small.1

pub overflow_mul-result : goal.overflow_mul-result
overflow_mul-result c = omega (arith, groups c)

pub overflow_mul-result-2 : goal.overflow_mul-result-2
overflow_mul-result-2 c =
    let small = sizes-small _ _ _ _ _ c.args.self.now.sizes in
    let few : c.args.self.now.rounds * c.args.self.now.streams ≤ 1728 = omega (arith, groups c) in
    omega (arith, product-small (c.args.self.now.rounds * c.args.self.now.streams) c.args.self.now.group few small.2)

pub returns : goal.returns
returns c = omega (arith, sizes-share _ _ _ _ _ c.args.self.now.sizes)
