use Rattle.std.proofs.Common.{◌≡◌, suc, ◌+◌, ◌-◌, ◌*◌, ◌++◌, [], length, flat_map, refl, sym, ap, ◌∙◌, rules, arith}
use Rattle.ht_cert.specs.Files.{record_octets}
use Rattle.ht_certify.specs.Making.{records_of_symbol, records_of_symbols}
use Rattle.ht_certify.proofs.Left.{one_less, symbols_left}
use Rattle.ht_certify.proofs.Passing.{one_breaks, one_more, passes_none}
use Rattle.ht_certify.proofs.putting.put_symbols.Given.{Over}
use Rattle.ht_certify.proofs.putting.put_symbols.Goals.{After-put_symbol}
use Rattle.ht_certify.proofs.putting.put_symbols.Goals as goal

pub loop-symbol-init : goal.loop-symbol-init
loop-symbol-init g c =
    let all : c.args.symbols ≡ c.args.symbols - 0 = omega arith in
    record {
      passes = (
        [],
        passes_none c.args.block.now (g.K.Sink.shown c.args.sink.now),
        ap (λ j. flat_map record_octets (records_of_symbols c.args.recorded.now.modulation c.args.grid.now
            (length c.args.grid.now) j c.args.subcarriers.now c.args.samples.now)) (sym all),
      );
      left = c.requires.samples ∙ ap (λ k. k * (length c.args.subcarriers.now * length c.args.grid.now)) all;
      modulation = refl;
    }

-- what was left are the records of this symbol, and those of the others
next_left : (g : Over) (c : After-put_symbol g)
    → flat_map record_octets (records_of_symbols c.args.recorded.now.modulation c.args.grid.now (length c.args.grid.now)
    (c.args.symbols - c.loop-symbol._symbol) c.args.subcarriers.now c.loop-symbol.rest.now)
    ≡ flat_map record_octets (records_of_symbol c.loop-symbol.recorded.modulation c.args.grid.now (length c.args.grid.now)
    c.args.subcarriers.now c.split_at.result.0.now)
    ++ flat_map record_octets (records_of_symbols c.args.recorded.now.modulation c.args.grid.now (length c.args.grid.now)
    (c.args.symbols - (c.loop-symbol._symbol + 1)) c.args.subcarriers.now c.split_at.result.1.now)
next_left g c =
    let k = c.loop-symbol._symbol in
    let ss = c.args.subcarriers.now in
    let step : c.args.symbols - k ≡ suc (c.args.symbols - (k + 1)) = omega (arith, c.loop-symbol-test.true) in
    symbols_left c.args.recorded.now.modulation c.loop-symbol.recorded.modulation c.args.grid.now (length c.args.grid.now) (c.args.symbols - k)
    (c.args.symbols - (k + 1)) (length ss * c.from.result) ss c.loop-symbol.rest.now c.split_at.result.0.now c.split_at.result.1.now step
    c.loop-symbol.invariant.modulation (ap (λ j. length ss * j) (c.from.ensures ∙ c.streams.ensures.number)) c.split_at.ensures.front c.split_at.ensures.back

pub returns-in_err-put_symbol-clause-writes : goal.returns-in_err-put_symbol-clause-writes
returns-in_err-put_symbol-clause-writes g c =
    let breaks = one_breaks _ _ _ _ _ _ _ _ _ _ c.loop-symbol.invariant.passes (next_left g c.before.before.before) c.in_err-put_symbol.ensures.writes in
    search rules

pub loop-symbol-preserved : goal.loop-symbol-preserved
loop-symbol-preserved g c =
    let ss = c.args.subcarriers.now in
    let width = ap (λ j. length ss * j) (c.from.ensures ∙ c.streams.ensures.number) in
    record {
      passes = one_more _ _ _ _ _ _ _ _ _ _ c.loop-symbol.invariant.passes (next_left g c.before.before)
          c.in_ok-put_symbol.ensures.writes;
      left = one_less (length c.split_at.result.1.now) (length c.loop-symbol.rest.now) c.args.symbols c.loop-symbol._symbol
          (length ss * length c.args.grid.now) (omega (arith, c.loop-symbol-test.true))
          (ap (λ j. length c.split_at.result.1.now + j) (sym width) ∙ c.split_at.ensures.back_len) c.loop-symbol.invariant.left;
      modulation = c.in_ok-put_symbol.ensures.modulation ∙ c.loop-symbol.invariant.modulation;
    }
