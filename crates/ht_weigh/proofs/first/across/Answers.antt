use Rattle.std.proofs.Common.{◌<◌, unsigned_abs, w8, arith, refl, subst, sym}
use Rattle.ht_pam.proofs.Products.{held}
use Rattle.ht_weigh.specs.Walks.{IsAcross}
use Rattle.ht_weigh.proofs.Across.{across_at, below_eight, entry}
use Rattle.ht_weigh.proofs.first.across.Goals as goal

pub bounds-from-3 : goal.bounds-from-3
bounds-from-3 c =
    let few = below_eight c.args.count c.args.name c.requires.few c.requires.name in
    omega (arith, few, c.from-3.ensures)

pub returns-clause-across : goal.returns-clause-across
returns-clause-across c =
    let level = across_at c.from.result c.from-2.result c.from-3.result in
    let e = entry c.args.count c.args.bit c.args.name c.from.result c.from-2.result c.from-3.result c.requires.some c.requires.few c.requires.bit
    c.requires.name c.from.ensures c.from-2.ensures c.from-3.ensures in
    let small : unsigned_abs level < 128 = omega (arith, e.small) in
    subst (IsAcross c.args.count c.args.bit c.args.name) (sym (held w8 level level refl small)) e.across
