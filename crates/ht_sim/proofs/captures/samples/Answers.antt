use Rattle.std.proofs.Common.{◌≡◌, ◌+◌, ◌-◌, ◌*◌, ◌<◌, ◌++◌, length, take, ap, ◌∙◌, sym, arith}
use Rattle.ht_sim.specs.Channel.{sample_drawn, symbol_mixed, symbols_mixed}
use Rattle.ht_sim.specs.Draws.{each, joined}
use Rattle.ht_sim.proofs.Drawing.{counted, each-part}
use Rattle.ht_sim.proofs.Mixing.{one_less, symbols-more}
use Rattle.ht_sim.proofs.Shapes.{length-symbols_mixed}
use Rattle.ht_sim.proofs.captures.samples.Goals as goal

pub loop-symbol-preserved : goal.loop-symbol-preserved
loop-symbol-preserved c =
    let n = c.args.symbols in
    let k = c.loop-symbol._symbol in
    let ts = c.args.triangles.now in
    let streams = c.args.streams in
    let points = c.loop-symbol.rest.now in
    let width = length ts * streams in
    let below : k < n = omega arith in
    record {
      added = each-part (sample_drawn c.args.noise) (symbol_mixed streams ts (take width points))
          (symbols_mixed (n - (k + 1)) streams ts c.split_at.result.1.now)
          (symbols_mixed (n - k) streams ts points) c.loop-symbol.samples.items c.add_symbol.new.samples.items c.loop-symbol.words c.add_symbol.new.words _
          (symbols-more (n - k) (n - (k + 1)) streams ts points (omega arith)
          ∙ ap (λ ys. symbol_mixed streams ts (take width points) ++ symbols_mixed (n - (k + 1)) streams ts ys) (sym c.split_at.ensures.back))
          c.loop-symbol.invariant.added
          (c.in_ok-add_symbol.ensures.added
          ∙ ap (λ ys. joined c.loop-symbol.samples.items (each (sample_drawn c.args.noise) (symbol_mixed streams ts ys) c.loop-symbol.words))
          c.split_at.ensures.front);
      left = one_less (length c.split_at.result.1.now) (length points) n k width below c.split_at.ensures.back_len c.loop-symbol.invariant.left;
      typed = c.in_ok-add_symbol.ensures.typed c.loop-symbol.invariant.typed;
    }

pub returns-clause-count : goal.returns-clause-count
returns-clause-count c =
    let n = c.args.symbols in
    let ts = c.args.triangles.now in
    let streams = c.args.streams in
    let end : n - c.loop-symbol._symbol ≡ 0 = omega arith in
    counted (sample_drawn c.args.noise) c.loop-symbol.samples.items
    (symbols_mixed (n - c.loop-symbol._symbol) streams ts c.loop-symbol.rest.now)
    (symbols_mixed n streams ts c.args.points.now) c.loop-symbol.words c.args.words.now
    (ap (λ m. symbols_mixed m streams ts c.loop-symbol.rest.now) end) c.loop-symbol.invariant.added
    ∙ length-symbols_mixed n streams ts c.args.points.now c.requires.streams

pub returns-clause-typed : goal.returns-clause-typed
returns-clause-typed c = c.loop-symbol.invariant.typed
