use Rattle.std.proofs.Common.{◌≡◌, ◌*◌, List, length, All, ap, ◌∙◌, sym, subst}
use Rattle.ht_metric.specs.Rows.{Leg}
use Rattle.ht_metric.specs.declared.sample.Sample.{Sample}
use Rattle.ht_rate.specs.Rates.{carriers_of, streams_of, symbols_of}
use Rattle.ht_sim.proofs.Typed.{frame_fits}
use Rattle.ht_sim.proofs.captures.capture.Goals as goal

pub samples-requires-clause-points : goal.samples-requires-clause-points
samples-requires-clause-points c =
    let rate = c.args.rate in
    let count : length c.deref.result.now ≡ carriers_of rate =
    ap (λ (ts : List (List Leg)). length ts) c.deref.ensures.value ∙ c.in_ok-triangles.ensures.count in
    c.requires.points
    ∙ ap (λ n. n * (carriers_of rate * streams_of rate)) (sym c.symbols-symbols.ensures.value)
    ∙ ap (λ n. c.symbols-symbols.result * (n * streams_of rate)) (sym count)
    ∙ ap (λ n. c.symbols-symbols.result * (length c.deref.result.now * n)) (sym (c.from-streams.ensures ∙ c.streams.ensures.value))

pub returns-clause-fits : goal.returns-clause-fits
returns-clause-fits c =
    let rate = c.args.rate in
    let made = c.from.ensures in
    let count : length c.from.result ≡ carriers_of rate = ap (λ (ts : List (List Leg)). length ts) made ∙ c.in_ok-triangles.ensures.count in
    let held : length c.deref.result.now ≡ carriers_of rate =
    ap (λ (ts : List (List Leg)). length ts) c.deref.ensures.value ∙ c.in_ok-triangles.ensures.count in
    let samples : length c.from-2.result ≡ symbols_of rate c.args.octets * (carriers_of rate * streams_of rate) =
    ap (λ (ss : List Sample). length ss) c.from-2.ensures ∙ c.in_ok-samples.ensures.count
    ∙ ap (λ n. n * (length c.deref.result.now * c.from-streams.result)) c.symbols-symbols.ensures.value
    ∙ ap (λ n. symbols_of rate c.args.octets * (n * c.from-streams.result)) held
    ∙ ap (λ n. symbols_of rate c.args.octets * (carriers_of rate * n)) (c.from-streams.ensures ∙ c.streams.ensures.value) in
    frame_fits rate c.args.octets c.from.result c.from-2.result c.requires.some count
    (subst (λ (ts : List (List Leg)). All (λ t. length t ≡ streams_of rate) ts) (sym made) c.in_ok-triangles.ensures.streams) samples
