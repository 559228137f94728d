use Rattle.std.proofs.Common.{◌+◌, ◌*◌, ◌<◌, ◌≤◌, arith}
use Rattle.ht_parse.proofs.Places.{group-within, groups-small, product-small}
use Rattle.ht_parse.proofs.Sizes.{sizes-small, sizes-share}
use Rattle.ht_parse.proofs.layout.Layout.bit.Goals as goal

groups : (c : goal.Start) → c.args.round * c.args.self.now.streams + c.args.stream < 864
groups c =
    let small = sizes-small _ _ _ _ _ c.args.self.now.sizes in
    groups-small c.args.self.now.streams c.args.self.now.rounds c.args.round c.args.stream c.requires.stream c.requires.round small.1 small.3

pub overflow_mul-result : goal.overflow_mul-result
overflow_mul-result c = omega (arith, groups c)

pub overflow_add-result : goal.overflow_add-result
overflow_add-result c = omega (arith, groups c)

pub overflow_mul-result-2 : goal.overflow_mul-result-2
overflow_mul-result-2 c =
    let small = sizes-small _ _ _ _ _ c.args.self.now.sizes in
    let few : c.args.round * c.args.self.now.streams + c.args.stream ≤ 1728 = omega (arith, groups c) in
    omega (arith, product-small (c.args.round * c.args.self.now.streams + c.args.stream) c.args.self.now.group few small.2)

pub returns-clause-within : goal.returns-clause-within
returns-clause-within c =
    let share = sizes-share _ _ _ _ _ c.args.self.now.sizes in
    let within = group-within c.args.self.now.streams c.args.self.now.group c.args.self.now.rounds
    c.args.round c.args.stream c.requires.stream c.requires.round in
    omega (arith, share, within)
