use Rattle.std.proofs.Common.{◌<◌, ◌+◌, get_or, drop, length, ap, ◌∙◌, arith}
use Rattle.ht_metric.specs.Rows.{no_leg}
use Rattle.ht_metric.specs.declared.complex.Complex.{Complex}
use Rattle.ht_sim.specs.Channel.{mixed, row_mixed, sample_drawn}
use Rattle.ht_sim.proofs.Drawing.{each-step}
use Rattle.ht_sim.proofs.Mixing.{mixed-drop}
use Rattle.ht_sim.proofs.Typed.{one_more_sample}
use Rattle.ht_sim.proofs.rows.add_samples.Goals as goal

pub loop-row-preserved : goal.loop-row-preserved
loop-row-preserved c =
    let row = c.loop-row.row in
    let t = c.args.triangle.now in
    let vector = c.args.vector.now in
    let z = c.loop-row.words in
    let below : row < length t = omega (arith, c.loop-row-test.true, c.streams-row-end.ensures.number) in
    record {
      added = each-step (sample_drawn c.args.noise) (row_mixed (get_or t row no_leg) (drop row vector))
          (mixed (drop (row + 1) t) (drop (row + 1) vector)) (mixed (drop row t) (drop row vector)) c.loop-row.samples.items c.push.new.self.items
          c.sample.result z c.sample.new.self _ (mixed-drop t vector row below) c.loop-row.invariant.added c.in_ok-push.ensures.items
          (c.sample.ensures.value ∙ ap (λ (e : Complex). (sample_drawn c.args.noise e z).value) c.exact.ensures.value)
          (c.sample.ensures.behind ∙ ap (λ (e : Complex). (sample_drawn c.args.noise e z).state) c.exact.ensures.value);
      typed = λ were. one_more_sample c.loop-row.samples.items c.push.new.self.items c.sample.result c.in_ok-push.ensures.items
          (c.loop-row.invariant.typed were) c.sample.ensures.fits_re c.sample.ensures.fits_im;
    }

pub returns-clause-typed : goal.returns-clause-typed
returns-clause-typed c = c.loop-row.invariant.typed
