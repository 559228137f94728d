use Rattle.std.proofs.Common.{◌≡◌, ◌∙◌, ◌<◌, arith, sym}
use Rattle.ht_rate.specs.declared.kinds.Bandwidth.TheVariants.{Mhz20, Mhz40}
use Rattle.ht_rate.specs.Rates.{bandwidth_of, carriers_of}
use Rattle.ht_rx.proofs.DataRuns.{below, runs_in}
use Rattle.ht_rx.proofs.data_runs.data_run.Goals as goal

pub run_20-requires : goal.run_20-requires
run_20-requires c =
    let few = c.if-carrier-carriers.false in
    let all = c.carriers.ensures.value in
    let inside : c.args.carrier < carriers_of c.args.rate.now = omega (arith, few, all) in
    below c.args.rate.now Mhz20 c.args.carrier (sym c.in-Mhz20.is ∙ c.bandwidth.ensures) inside

pub returns-in-Mhz20 : goal.returns-in-Mhz20
returns-in-Mhz20 c =
    let few = c.if-carrier-carriers.false in
    let all = c.carriers.ensures.value in
    let inside : c.args.carrier < carriers_of c.args.rate.now = omega (arith, few, all) in
    runs_in c.args.rate.now Mhz20 c.args.carrier c.run_20.result (sym c.in-Mhz20.is ∙ c.bandwidth.ensures) inside c.run_20.ensures.run
    c.run_20.ensures.within

pub returns-in-Mhz40 : goal.returns-in-Mhz40
returns-in-Mhz40 c =
    let few = c.if-carrier-carriers.false in
    let all = c.carriers.ensures.value in
    let inside : c.args.carrier < carriers_of c.args.rate.now = omega (arith, few, all) in
    runs_in c.args.rate.now Mhz40 c.args.carrier c.run_40.result (sym c.in-Mhz40.is ∙ c.bandwidth.ensures) inside c.run_40.ensures.run
    c.run_40.ensures.within
