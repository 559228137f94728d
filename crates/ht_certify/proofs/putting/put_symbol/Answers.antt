use Rattle.std.proofs.Common.{◌≡◌, ◌+◌, ◌-◌, ◌*◌, ◌<◌, ◌++◌, [], length, take, drop, flat_map, refl, sym, ap, subst, ◌∙◌, rules, arith}
use Rattle.std.proofs.lemmas.List.Elements.{All-get_or}
use Rattle.ht_cert.specs.Files.{record_octets}
use Rattle.ht_certify.specs.declared.subcarriers.Subcarrier.{Subcarrier}
use Rattle.ht_certify.specs.Making.{records_of_symbol, records_on}
use Rattle.ht_certify.proofs.Left.{one_less, symbol_left}
use Rattle.ht_certify.proofs.Passing.{one_breaks, one_more, passes_none}
use Rattle.ht_certify.proofs.putting.put_symbol.Given.{Over}
use Rattle.ht_certify.proofs.putting.put_symbol.Goals.{After-put_subcarrier}
use Rattle.ht_certify.proofs.putting.put_symbol.Goals as goal

pub loop-subcarrier-init : goal.loop-subcarrier-init
loop-subcarrier-init g c =
    let all : length c.args.subcarriers.now ≡ length c.args.subcarriers.now - 0 = omega arith in
    record {
      passes = ([], passes_none c.args.block.now (g.K.Sink.shown c.args.sink.now), refl);
      left = c.requires.samples ∙ ap (λ k. k * length c.args.grid.now) all;
      modulation = refl;
    }

-- what was left are the records on this subcarrier, and those of the others
next_left : (g : Over) (c : After-put_subcarrier g)
    → flat_map record_octets (records_of_symbol c.args.recorded.now.modulation c.args.grid.now (length c.args.grid.now)
    (drop c.loop-subcarrier.subcarrier-index c.args.subcarriers.now) c.loop-subcarrier.rest.now)
    ≡ flat_map record_octets (records_on c.loop-subcarrier.recorded.modulation c.args.grid.now c.subcarrier-item.result c.split_at.result.0.now)
    ++ flat_map record_octets (records_of_symbol c.args.recorded.now.modulation c.args.grid.now (length c.args.grid.now)
    (drop (c.loop-subcarrier.subcarrier-index + 1) c.args.subcarriers.now) c.split_at.result.1.now)
next_left g c =
    let k = c.loop-subcarrier.subcarrier-index in
    let n = length c.args.grid.now in
    let ss = c.args.subcarriers.now in
    let rest = c.loop-subcarrier.rest.now in
    let lt : k < length ss = omega (arith, c.loop-subcarrier-test.true) in
    let size : length c.subcarrier-item.result.triangle ≡ n = subst (λ (x : Subcarrier). length x.triangle ≡ n) (sym c.subcarrier-item.is)
    (All-get_or (λ (x : Subcarrier). length x.triangle ≡ n) ss k c.subcarrier-item.result lt c.requires.streams) in
    let width : c.from-streams.result ≡ n = c.from-streams.ensures ∙ c.streams.ensures.number in
    symbol_left c.args.recorded.now.modulation c.loop-subcarrier.recorded.modulation c.args.grid.now n ss rest
    c.split_at.result.0.now c.split_at.result.1.now k c.subcarrier-item.result lt c.subcarrier-item.is size c.loop-subcarrier.invariant.modulation
    (c.split_at.ensures.front ∙ ap (λ w. take w rest) width) (c.split_at.ensures.back ∙ ap (λ w. drop w rest) width)

pub returns-in_err-put_subcarrier-clause-writes : goal.returns-in_err-put_subcarrier-clause-writes
returns-in_err-put_subcarrier-clause-writes g c =
    let breaks = one_breaks _ _ _ _ _ _ _ _ _ _ c.loop-subcarrier.invariant.passes (next_left g c.before.before.before)
    c.in_err-put_subcarrier.ensures.writes in
    search rules

pub loop-subcarrier-preserved : goal.loop-subcarrier-preserved
loop-subcarrier-preserved g c =
    let width = c.from-streams.ensures ∙ c.streams.ensures.number in
    record {
      passes = one_more _ _ _ _ _ _ _ _ _ _ c.loop-subcarrier.invariant.passes (next_left g c.before.before)
          c.in_ok-put_subcarrier.ensures.writes;
      left = one_less (length c.split_at.result.1.now) (length c.loop-subcarrier.rest.now) (length c.args.subcarriers.now)
          c.loop-subcarrier.subcarrier-index (length c.args.grid.now) (omega (arith, c.loop-subcarrier-test.true))
          (ap (λ w. length c.split_at.result.1.now + w) (sym width) ∙ c.split_at.ensures.back_len) c.loop-subcarrier.invariant.left;
      modulation = c.in_ok-put_subcarrier.ensures.modulation ∙ c.loop-subcarrier.invariant.modulation;
    }
