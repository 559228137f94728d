use Rattle.std.proofs.Common.{◌≤◌, List, length, ap, arith}
use Rattle.ht_rate.proofs.RateFacts.{carriers_of-range}
use Rattle.ht_rate.specs.Rates.{carriers_of}
use Rattle.ht_metric.specs.Rows.{Leg}
use Rattle.ht_capture.proofs.Written.{present_most}
use Rattle.ht_capture.proofs.writing.front.Goals as goal

pub add_triangles-requires-clause-few : goal.add_triangles-requires-clause-few
add_triangles-requires-clause-few c =
    let f = c.args.frame.now in
    let most : length f.triangles ≤ 114 =
    omega (arith, c.requires.fits.triangles, present_most (carriers_of f.rate) 0 f.erased, (carriers_of-range f.rate).1) in
    omega (arith, most, ap (λ (ts : List (List Leg)). length ts) c.as_slice.ensures)
