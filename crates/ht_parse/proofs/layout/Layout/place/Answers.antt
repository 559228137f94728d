use Rattle.std.proofs.Common.{ℕ, ◌+◌, ◌*◌, ◌<◌, ◌≤◌, arith}
use Rattle.ht_parse.proofs.Places.{place-within, places-small, product-small}
use Rattle.ht_parse.proofs.Sizes.{sizes-small, sizes-symbol}
use Rattle.ht_parse.proofs.layout.Layout.place.Goals as goal

abbrev rounds : goal.Start → ℕ
rounds c = c.args.stream * c.args.self.now.rounds + c.args.round

numbers : (c : goal.Start)
    → (c.args.stream * c.args.self.now.rounds ≤ 864) × (rounds c < 864)
    × (rounds c * c.args.self.now.encoders ≤ 1728) × (rounds c * c.args.self.now.encoders + c.args.encoder < 1728)
numbers c =
    let small = sizes-small _ _ _ _ _ c.args.self.now.sizes in
    places-small c.args.self.now.encoders c.args.self.now.streams c.args.self.now.rounds c.args.stream
    c.args.round c.args.encoder c.requires.stream c.requires.round c.requires.encoder small.0 small.1 small.3

pub overflow_mul-result : goal.overflow_mul-result
overflow_mul-result c = omega (arith, (numbers c).0)

pub overflow_add-result : goal.overflow_add-result
overflow_add-result c = omega (arith, (numbers c).1)

pub overflow_mul-result-2 : goal.overflow_mul-result-2
overflow_mul-result-2 c = omega (arith, (numbers c).2)

pub overflow_add-result-2 : goal.overflow_add-result-2
overflow_add-result-2 c = omega (arith, (numbers c).3)

pub overflow_mul-result-3 : goal.overflow_mul-result-3
overflow_mul-result-3 c =
    let small = sizes-small _ _ _ _ _ c.args.self.now.sizes in
    let few : rounds c * c.args.self.now.encoders + c.args.encoder ≤ 1728 = omega (arith, (numbers c).3) in
    omega (arith, product-small (rounds c * c.args.self.now.encoders + c.args.encoder) c.args.self.now.group few small.2)

pub returns-clause-within : goal.returns-clause-within
returns-clause-within c =
    let symbol = sizes-symbol _ _ _ _ _ c.args.self.now.sizes in
    let within = place-within c.args.self.now.encoders c.args.self.now.streams c.args.self.now.group c.args.self.now.rounds
    c.args.stream c.args.round c.args.encoder c.requires.stream c.requires.round c.requires.encoder in
    omega (arith, symbol, within)
