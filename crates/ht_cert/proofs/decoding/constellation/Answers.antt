use Rattle.std.proofs.Common.{◌≡◌, ◌+◌, ◌*◌, ◌-◌, ◌≤◌, ap, ◌∙◌, arith}
use Rattle.ht_rate.specs.declared.rates.Rate.{Rate}
use Rattle.ht_rate.specs.Rates.{rate_at}
use Rattle.ht_map.specs.Constellation.{grid_of}
use Rattle.ht_cert.proofs.Grids.{grid_is}
use Rattle.ht_cert.proofs.Starting.{rate_is}
use Rattle.ht_cert.proofs.decoding.constellation.Goals as goal

pub returns : goal.returns
returns c =
    let streams = c.args.streams in
    let n = 8 * (streams - 1) + c.scheme.result in
    let few : n ≤ 31 = omega (arith, c.requires.few, c.scheme.ensures.few) in
    let is : c.in-Ok.rate ≡ rate_at 0 n = rate_is n c.in-Ok.rate few c.in-Ok.ensures.value in
    c.grid.ensures
    ∙ (ap (λ (r : Rate). grid_of r) is
    ∙ (ap (λ k. grid_of (rate_at 0 (8 * (streams - 1) + k))) c.scheme.ensures.value ∙ grid_is c.args.modulation streams c.requires.some c.requires.few))
