use Rattle.std.proofs.Common.{◌≡◌, ◌∙◌, ◌++◌, ap, arith, map}
use Rattle.std.specs.List.{range_with_len}
use Rattle.ht_clause18.specs.Carriers.{carrier_of}
use Rattle.ht_clause18.specs.Interleaver.{interleaved}
use Rattle.ht_clause18.specs.Points.{carried, symbol_points}
use Rattle.ht_clause18.proofs.Sent.{symbol-more}
use Rattle.ht_clause18.proofs.mapper.push_symbol.Goals as goal

pub loop-index-preserved : goal.loop-index-preserved
loop-index-preserved c = record {
  items =
      symbol-more (λ index. carried c.args.rate (interleaved c.args.rate c.args.bits.now) c.args.symbol (carrier_of index)) c.args.points.now.items
      c.loop-index.points.items c.push_reserved.new.self.items c.loop-index.index c.point_for.result
      c.loop-index.invariant.items c.push_reserved.ensures.items
      (c.point_for.ensures ∙ ap (carried c.args.rate (interleaved c.args.rate c.args.bits.now) c.args.symbol) c.legacy_carrier.ensures.value);
  count = omega (arith, c.push_reserved.ensures.len, c.loop-index.invariant.count);
  capacity = c.push_reserved.ensures.capacity ∙ c.loop-index.invariant.capacity;
}

pub returns-clause-items : goal.returns-clause-items
unfolding symbol_points
returns-clause-items c =
    let test = c.loop-index-test.false in
    let done : c.loop-index.index ≡ 52 = omega (arith, c.loop-index.auto.index-end) in
    c.loop-index.invariant.items
    ∙ ap (λ n. c.args.points.now.items
    ++ map (λ index. carried c.args.rate (interleaved c.args.rate c.args.bits.now) c.args.symbol (carrier_of index)) (range_with_len 0 n)) done
