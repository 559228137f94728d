use Rattle.std.proofs.Common.{◌≡◌, ◌+◌, ◌*◌, ◌<◌, ◌∙◌, ap, sym, subst, arith, length}
use Rattle.ht_rate.specs.Carriers.{carrier_of}
use Rattle.ht_rate.specs.Rates.{carriers_of, streams_of}
use Rattle.ht_tx.specs.Transmitted.{Carries}
use Rattle.ht_tx.proofs.Carried.{carried-more}
use Rattle.ht_tx.proofs.mapper.push_carrier.Goals as goal

pub loop-stream-preserved : goal.loop-stream-preserved
loop-stream-preserved c =
    let f = c.args.frame.now in
    let test = c.loop-stream-test.true in
    let streams : c.streams-stream-end.result ≡ streams_of f.rate = c.streams-stream-end.ensures.value ∙ ap streams_of c.rate-2.ensures in
    let below : c.loop-stream.stream < streams_of f.rate = omega arith in
    let count = c.loop-stream.invariant.count in
    let start = c.requires.len in
    let len : length c.loop-stream.points.items ≡ (c.args.symbol * carriers_of f.rate + c.args.index) * streams_of f.rate + c.loop-stream.stream =
    sym c.loop-stream.points.ok.0 ∙ omega arith in
    let fits : Carries f c.args.symbol (carrier_of f.rate c.args.index) (c.loop-stream.stream + 1) c.point_for.result =
    subst (λ x. Carries f c.args.symbol x (c.loop-stream.stream + 1) c.point_for.result)
    (c.carrier-carrier.ensures.value ∙ ap (λ r. carrier_of r c.args.index) c.rate.ensures) c.point_for.ensures in
    record {
      count = omega (arith, c.push_reserved.ensures.len);
      capacity = c.push_reserved.ensures.capacity ∙ c.loop-stream.invariant.capacity;
      carried =
          carried-more f c.loop-stream.points.items c.push_reserved.new.self.items c.args.symbol c.args.index c.loop-stream.stream c.point_for.result
          c.requires.index below len c.push_reserved.ensures.items fits c.loop-stream.invariant.carried;
    }
