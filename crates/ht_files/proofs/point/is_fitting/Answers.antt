use Rattle.std.proofs.Common.{◌≡◌, ◌∙◌, ◌+◌, ◌%◌, ℕ, ap, w8, FitsSigned, rules}
use Rattle.ht_rate.specs.Rates.{streams_of}
use Rattle.ht_pilot.specs.Pilots.{pilot_of}
use Rattle.ht_files.proofs.Levels.{pilot_no, pilot_yes}
use Rattle.ht_files.proofs.point.is_fitting.Goals as goal

pub returns-then-point-pilot : goal.returns-then-point-pilot
returns-then-point-pilot c =
    let p = c.args.point in
    let i : FitsSigned w8 p.i = search rules in
    let q : FitsSigned w8 p.q = search rules in
    let v : FitsSigned w8 c.pilot.result = search rules in
    let value : c.pilot.result ≡ pilot_of c.args.rate.now c.args.symbol c.in-Pilot.index (c.args.place % streams_of c.args.rate.now + 1) =
    c.pilot.ensures.value ∙ ap (λ (n : ℕ). pilot_of c.args.rate.now c.args.symbol c.in-Pilot.index n) c.stream.ensures.value in
    pilot_yes c.args.rate.now c.args.symbol c.args.carrier c.in-Pilot.index (c.args.place % streams_of c.args.rate.now + 1) p c.pilot.result c.in-Pilot.is value
    i q v c.if-point-pilot.true

pub returns-else-point-pilot : goal.returns-else-point-pilot
returns-else-point-pilot c =
    let p = c.args.point in
    let i : FitsSigned w8 p.i = search rules in
    let v : FitsSigned w8 c.pilot.result = search rules in
    let value : c.pilot.result ≡ pilot_of c.args.rate.now c.args.symbol c.in-Pilot.index (c.args.place % streams_of c.args.rate.now + 1) =
    c.pilot.ensures.value ∙ ap (λ (n : ℕ). pilot_of c.args.rate.now c.args.symbol c.in-Pilot.index n) c.stream.ensures.value in
    pilot_no c.args.rate.now c.args.symbol c.args.carrier c.in-Pilot.index (c.args.place % streams_of c.args.rate.now + 1) p c.pilot.result c.in-Pilot.is value
    i v c.if-point-pilot.false
