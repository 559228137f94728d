use Rattle.std.proofs.Common.{◌≡◌, ◌+◌, ◌<◌, ◌++◌, get_or, length, take, drop, ap, ◌∙◌, sym, arith}
use Rattle.ht_sim.specs.Channel.{mixed, sample_drawn, symbol_mixed}
use Rattle.ht_sim.specs.Draws.{each, joined}
use Rattle.ht_sim.proofs.Drawing.{each-part}
use Rattle.ht_sim.proofs.Mixing.{symbol-drop, one_less}
use Rattle.ht_sim.proofs.captures.add_symbol.Goals as goal

pub loop-triangle-preserved : goal.loop-triangle-preserved
loop-triangle-preserved c =
    let k = c.loop-triangle.triangle-index in
    let ts = c.args.triangles.now in
    let streams = c.args.streams in
    let points = c.loop-triangle.rest.now in
    let below : k < length ts = omega arith in
    let t = c.triangle-item.result in
    let here : get_or ts k t ≡ t = sym c.triangle-item.is in
    record {
      added = each-part (sample_drawn c.args.noise) (mixed t (take streams points)) (symbol_mixed streams (drop (k + 1) ts) c.split_at.result.1.now)
          (symbol_mixed streams (drop k ts) points) c.loop-triangle.samples.items
          c.add_samples.new.samples.items c.loop-triangle.words c.add_samples.new.words _
          (symbol-drop streams ts points k t below
          ∙ ap (λ u. mixed u (take streams points) ++ symbol_mixed streams (drop (k + 1) ts) (drop streams points)) here
          ∙ ap (λ ys. mixed t (take streams points) ++ symbol_mixed streams (drop (k + 1) ts) ys) (sym c.split_at.ensures.back))
          c.loop-triangle.invariant.added
          (c.in_ok-add_samples.ensures.added
          ∙ ap (λ ys. joined c.loop-triangle.samples.items (each (sample_drawn c.args.noise) (mixed t ys) c.loop-triangle.words)) c.split_at.ensures.front);
      left = one_less (length c.split_at.result.1.now) (length points) (length ts) k streams below c.split_at.ensures.back_len c.loop-triangle.invariant.left;
      typed = λ were. c.in_ok-add_samples.ensures.typed (c.loop-triangle.invariant.typed were);
    }

pub returns-clause-typed : goal.returns-clause-typed
returns-clause-typed c = c.loop-triangle.invariant.typed
