use Rattle.std.proofs.Common.{rules, true, false, ℕ, Bool, slice_index}
use Rattle.ht_viterbi.specs.Trellis.{way, chosen, lesser}
use Rattle.ht_viterbi.proofs.Filling.{costs_more, flags_more, none_later}
use Rattle.ht_viterbi.proofs.plain.step.Goals as goal

pub loop-state-preserved : goal.loop-state-preserved
loop-state-preserved c =
    let was = c.loop-state.invariant in
    let state = c.loop-state.state in
    let word = c.with_flag-choices.ensures in
    let by : ℕ → Bool → ℕ = λ k bit. way (slice_index c.args.costs.now) c.args.branches k bit in
    let takes : ℕ → Bool = λ k. chosen c.args.free (by k false) (by k true) in
    record {
      costs = costs_more (λ k. lesser c.args.free (by k false) (by k true)) c.loop-state.into state _ (search rules) c.picked-taken.ensures.least was.costs;
      choices = flags_more takes c.loop-state.choices _ state word.others _ c.picked-taken.ensures.taken word.here was.choices;
      later = none_later takes c.loop-state.choices _ state word.others was.later;
    }
