use Rattle.std.proofs.Common.{◌≡◌, ◌∙◌, ℕ, ap, length}
use Rattle.ht_viterbi.specs.Trellis.{word_steps}
use Rattle.ht_viterbi.proofs.Found.{found}
use Rattle.ht_viterbi.proofs.Steps.{written}
use Rattle.ht_viterbi.proofs.backwards.Word.decode.Goals as goal

pub returns : goal.returns
returns g c =
    let count : length c.as_mut_slice.result.now ≡ c.args.self.now.steps = c.as_mut_slice.ensures.len ∙ c.in_ok-choices.ensures.len in
    found g.P.CodedPlace.cost c.args.self.now.steps c.args.self.now.pattern c.args.self.now.received.now
    (word_steps g.P.CodedPlace.cost c.args.self.now.pattern c.args.self.now.received.now (length c.as_mut_slice.result.now))
    c.backwards-cost.new.choices c.deref.result.now c.from.result c.backwards-cost.result c.args.self.now.least c.args.self.now.places
    (ap (λ (n : ℕ). word_steps g.P.CodedPlace.cost c.args.self.now.pattern c.args.self.now.received.now n) count) c.backwards-cost.ensures.choices
    (c.deref.ensures.value ∙ written c.backwards-cost.new.choices _ c.in_ok-choices.choices.len
    (c.backwards-cost.auto.choices ∙ c.as_mut_slice.ensures.len))
    (c.deref.ensures.len ∙ c.in_ok-choices.ensures.len) c.backwards-cost.ensures.least
    (λ all many are. c.from.ensures ∙ c.forwards.ensures all many are)
