use Rattle.std.proofs.Common.{◌≡◌, ◌∙◌, sym, subst, arith}
use Rattle.ht_tx.specs.Symbols.{IsSymbols, SymbolsView}
use Rattle.ht_tx.proofs.Carried.{capacity-for-all, room-left, none-carried, finished, sent-out}
use Rattle.ht_tx.proofs.Wired.{symbol-starts, wired-out}
use Rattle.ht_tx.proofs.transmitter.transmit.Goals as goal

pub loop-symbol-init : goal.loop-symbol-init
loop-symbol-init c = record {
  count = c.in_ok-points.ensures.len ∙ omega arith;
  capacity =
      capacity-for-all c.args.frame.now c.rate-rate.result c.octets.result.now c.symbols-symbols.result c.from-3.result c.from-4.result _
      c.rate-rate.ensures c.octets.ensures.value c.symbols-symbols.ensures.value
      (c.from-3.ensures ∙ c.carriers.ensures.value) (c.from-4.ensures ∙ c.streams.ensures.value)
      c.in_ok-points.ensures.exact;
  carried = none-carried c.args.frame.now c.in_ok-points.points.items c.in_ok-points.ensures.items;
}

pub behind-coded-requires : goal.behind-coded-requires
behind-coded-requires c =
    symbol-starts c.args.frame.now c.rate-rate.result c.octets.result.now c.from.result c.from-2.result c.symbols-symbols.result c.loop-symbol.symbol
    c.in_ok-coded.coded.items c.as_slice.result.now c.rate-rate.ensures c.octets.ensures.value
    (c.from.ensures ∙ c.coded_bits.ensures.value) (c.from-2.ensures ∙ c.encoders.ensures.value)
    c.symbols-symbols.ensures.value c.loop-symbol-test.true c.in_ok-coded.ensures c.as_slice.ensures.value

pub push_symbol-requires-clause-wired : goal.push_symbol-requires-clause-wired
push_symbol-requires-clause-wired c =
    wired-out c.args.frame.now c.rate-rate.result c.octets.result.now c.from.result c.from-2.result c.symbols-symbols.result c.loop-symbol.symbol
    c.in_ok-coded.coded.items c.as_slice.result.now c.behind-coded.result.now c.in_ok-sources.sources.items c.as_slice-in-loop-symbol.result.now
    c.rate-rate.ensures c.octets.ensures.value (c.from.ensures ∙ c.coded_bits.ensures.value) (c.from-2.ensures ∙ c.encoders.ensures.value)
    c.symbols-symbols.ensures.value c.loop-symbol-test.true c.in_ok-coded.ensures
    c.as_slice.ensures.value c.behind-coded.ensures c.as_slice-in-loop-symbol.ensures.value
    c.in_ok-sources.ensures.len c.in_ok-sources.ensures.places

pub push_symbol-requires-clause-room : goal.push_symbol-requires-clause-room
push_symbol-requires-clause-room c =
    room-left c.args.frame.now c.rate-rate.result c.octets.result.now c.symbols-symbols.result c.loop-symbol.symbol _
    c.rate-rate.ensures c.octets.ensures.value c.symbols-symbols.ensures.value c.loop-symbol-test.true c.loop-symbol.invariant.capacity

pub loop-symbol-preserved : goal.loop-symbol-preserved
loop-symbol-preserved c = record {
  count = c.push_symbol.ensures.len;
  capacity = c.push_symbol.ensures.capacity ∙ c.loop-symbol.invariant.capacity;
  carried = c.push_symbol.ensures.carried;
}

pub new-requires : goal.new-requires
new-requires c =
    let test = c.loop-symbol-test.false in
    let done : c.loop-symbol.symbol ≡ c.symbols-symbols.result = omega arith in
    finished c.args.frame.now c.rate-rate.result c.octets.result.now c.loop-symbol.points.items
    c.from-5.result c.loop-symbol.points.len c.loop-symbol.symbol c.symbols-symbols.result
    c.rate-rate.ensures c.octets.ensures.value c.octets.ensures.range c.from-5.ensures c.symbols-symbols.ensures.value c.loop-symbol.points.ok.0
    c.loop-symbol.invariant.count done c.loop-symbol.invariant.carried

pub returns-clause-sent : goal.returns-clause-sent
returns-clause-sent c =
    let test = c.loop-symbol-test.false in
    let done : c.loop-symbol.symbol ≡ c.symbols-symbols.result = omega arith in
    sent-out c.args.frame.now c.rate-rate.result c.octets.result.now c.loop-symbol.points.items
    c.from-5.result c.loop-symbol.points.len c.loop-symbol.symbol c.symbols-symbols.result
    c.new.result c.rate-rate.ensures c.octets.ensures.value c.from-5.ensures c.symbols-symbols.ensures.value c.loop-symbol.points.ok.0
    c.loop-symbol.invariant.count done c.loop-symbol.invariant.carried c.new.ensures

pub returns-clause-whole : goal.returns-clause-whole
returns-clause-whole c =
    let test = c.loop-symbol-test.false in
    let done : c.loop-symbol.symbol ≡ c.symbols-symbols.result = omega arith in
    subst (λ (s : SymbolsView). IsSymbols s.rate s.length s.points) (sym c.new.ensures)
    (finished c.args.frame.now c.rate-rate.result c.octets.result.now c.loop-symbol.points.items
    c.from-5.result c.loop-symbol.points.len c.loop-symbol.symbol c.symbols-symbols.result
    c.rate-rate.ensures c.octets.ensures.value c.octets.ensures.range c.from-5.ensures c.symbols-symbols.ensures.value c.loop-symbol.points.ok.0
    c.loop-symbol.invariant.count done c.loop-symbol.invariant.carried)
