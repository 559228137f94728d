use Rattle.std.proofs.Common.{◌∙◌, ap, arith}
use Rattle.ht_clause18.specs.Coded.{symbol_bits}
use Rattle.ht_clause18.specs.Points.{symbol_points}
use Rattle.ht_clause18.proofs.Coding.{part-within, part-is, part-length}
use Rattle.ht_clause18.proofs.Sent.{frame-more}
use Rattle.ht_clause18.proofs.transmitter.legacy_transmit.Goals as goal

pub part-bits-requires : goal.part-bits-requires
part-bits-requires c =
    part-within c.args.frame.now c.rate-rate.result c.octets.result.now c.symbols-symbols.result c.from-share.result c.loop-symbol.symbol
    c.in_ok-coded.coded.items c.as_slice.result.now c.rate-rate.ensures c.octets.ensures.value (c.from-share.ensures ∙ c.coded_bits.ensures.value)
    c.symbols-symbols.ensures.value c.loop-symbol-test.true c.in_ok-coded.ensures c.as_slice.ensures.value

pub push_symbol-requires-clause-bits : goal.push_symbol-requires-clause-bits
push_symbol-requires-clause-bits c =
    part-length c.args.frame.now c.rate-rate.result c.octets.result.now c.symbols-symbols.result c.from-share.result c.loop-symbol.symbol
    c.in_ok-coded.coded.items c.as_slice.result.now c.rate-rate.ensures c.octets.ensures.value (c.from-share.ensures ∙ c.coded_bits.ensures.value)
    c.symbols-symbols.ensures.value c.loop-symbol-test.true c.in_ok-coded.ensures c.as_slice.ensures.value c.part-bits.result.now c.part-bits.ensures

pub loop-symbol-preserved : goal.loop-symbol-preserved
loop-symbol-preserved c =
    let f = c.args.frame.now in
    let n = c.loop-symbol.symbol in
    let part =
    part-is f c.rate-rate.result c.octets.result.now c.symbols-symbols.result c.from-share.result n
    c.in_ok-coded.coded.items c.as_slice.result.now c.rate-rate.ensures c.octets.ensures.value (c.from-share.ensures ∙ c.coded_bits.ensures.value)
    c.symbols-symbols.ensures.value c.loop-symbol-test.true c.in_ok-coded.ensures c.as_slice.ensures.value c.part-bits.result.now c.part-bits.ensures in
    record {
      items =
          frame-more (λ n. symbol_points f.rate (symbol_bits f n) n) c.loop-symbol.points.items c.push_symbol.new.points.items
          (symbol_points c.rate-rate.result c.part-bits.result.now n) n c.loop-symbol.invariant.items c.push_symbol.ensures.items
          (ap (λ r. symbol_points r c.part-bits.result.now n) c.rate-rate.ensures ∙ ap (λ l. symbol_points f.rate l n) part);
      count = omega (arith, c.push_symbol.ensures.len, c.loop-symbol.invariant.count);
      capacity = c.push_symbol.ensures.capacity ∙ c.loop-symbol.invariant.capacity;
    }
