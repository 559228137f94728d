use Rattle.std.proofs.Common.{ℕ, ◌∷◌, ◌/◌, ◌%◌, ◌==◌, List, Bool, take, ap, ◌∙◌}
use Rattle.std.specs.Prelude.{bit_and, count_ones}
use Rattle.ht_conv.specs.Code.{taps_a, taps_b}
use Rattle.ht_conv.specs.Continued.{tapped}
use Rattle.ht_conv.specs.Register.{history_of}
use Rattle.ht_conv.proofs.Window.{window, window-a, window-b, window-next}
use Rattle.ht_conv.proofs.register.Register.enter.Goals as goal

pub returns-clause-a : goal.returns-clause-a
returns-clause-a c =
    c.parity.ensures
    ∙ (ap (λ (x : ℕ). count_ones (bit_and (window c.self.inside.bits x) 91) % 2 == 1) c.from.ensures
    ∙ (window-a c.args.bit c.self.inside.bits c.self.invariant
    ∙ ap (λ (h : List Bool). tapped taps_a (c.args.bit ∷ h)) c.self.view_is))

pub returns-clause-b : goal.returns-clause-b
returns-clause-b c =
    c.parity-2.ensures
    ∙ (ap (λ (x : ℕ). count_ones (bit_and (window c.self.inside.bits x) 121) % 2 == 1) c.from.ensures
    ∙ (window-b c.args.bit c.self.inside.bits c.self.invariant
    ∙ ap (λ (h : List Bool). tapped taps_b (c.args.bit ∷ h)) c.self.view_is))

pub returns-clause-next : goal.returns-clause-next
returns-clause-next c =
    ap (λ (x : ℕ). history_of (window c.self.inside.bits x / 2)) c.from.ensures
    ∙ (window-next c.args.bit c.self.inside.bits c.self.invariant
    ∙ ap (λ (h : List Bool). c.args.bit ∷ take 5 h) c.self.view_is)
