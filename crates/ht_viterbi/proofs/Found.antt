-- What is found along the choices of a word's steps is its first cheapest input, and what that costs; and what is found
-- where nothing was lost.
use Rattle.std.proofs.Common.{◌≡◌, ◌∙◌, ℕ, ◌≤◌, List, Bool, ap, sym, subst, length, map, Option, Some}
use Rattle.std.specs.Prelude.{IsTrue}
use Rattle.ht_rate.specs.declared.kinds.Pattern.{Pattern}
use Rattle.ht_conv.specs.Code.{sent_bits}
use Rattle.ht_conv.specs.Puncturing.{sent_count}
use Rattle.ht_viterbi.specs.Inputs.{IsCheapest, IsDecoded, IsFound, cost_of, is_terminated, place_cost, tail}
use Rattle.ht_viterbi.specs.Trellis.{StepCosts, AreChoices, costs_of, first_from, least_from, word_steps}
use Rattle.ht_viterbi.proofs.Orders.{distance-sent, sent-decoded, zeros-end}
use Rattle.ht_viterbi.proofs.Sending.{first-cheapest, first-cost, length-pairs}

pub found : {P : Type 0} (cost : P → Bool → ℕ) (steps : ℕ) (pattern : Pattern) (received : List P) (pairs : List StepCosts)
    (written choices : List ℕ) (input : List Bool) (least : ℕ)
    → tail ≤ steps → length received ≡ sent_count pattern steps → pairs ≡ word_steps cost pattern received steps
    → AreChoices pairs written → choices ≡ written → length choices ≡ steps → least ≡ least_from pairs 0
    → ((all : List StepCosts) → length all ≡ length choices → AreChoices all choices → input ≡ first_from all 0)
    → IsFound cost steps pattern received input least
found cost steps pattern received pairs written choices input least some many same are kept count least-is walks =
    let word = word_steps cost pattern received steps in
    let held : AreChoices word choices =
    subst (λ (ws : List ℕ). AreChoices word ws) (sym kept) (subst (λ (ps : List StepCosts). AreChoices ps written) same are) in
    let is : input ≡ first_from word 0 = walks word (length-pairs pattern (map (costs_of cost) received) 0 steps ∙ sym count) held in
    let cheapest = subst (λ (u : List Bool). IsCheapest cost steps pattern received u) (sym is) (first-cheapest cost steps pattern received many) in
    let ends = zeros-end steps input some cheapest.within in
    record {
      input = cheapest;
      cost = least-is ∙ (ap (λ (ps : List StepCosts). least_from ps 0) same
          ∙ (sym (first-cost cost steps pattern received many) ∙ ap (cost_of cost pattern received) (sym is)));
      steps = ends.0;
      ending = ends.1;
    }

-- An input that sends what was received is the nearest one, at distance 0.
pub found-sent : (steps : ℕ) (pattern : Pattern) (received : List (Option Bool)) (input answer : List Bool) → tail ≤ steps
    → map Some (sent_bits pattern input) ≡ received → IsTrue (is_terminated steps input) → answer ≡ input
    → IsFound place_cost steps pattern received answer 0
found-sent steps pattern received input answer some sent ends is =
    let within : IsTrue (is_terminated steps answer) = subst (λ (u : List Bool). IsTrue (is_terminated steps u)) (sym is) ends in
    let same : map Some (sent_bits pattern answer) ≡ received = ap (λ (u : List Bool). map Some (sent_bits pattern u)) is ∙ sent in
    let parts = zeros-end steps answer some within in
    record {
      input = subst (λ (r : List (Option Bool)). IsDecoded steps pattern r answer) same (sent-decoded steps pattern answer within);
      cost = subst (λ (r : List (Option Bool)). 0 ≡ cost_of place_cost pattern r answer) same (sym (distance-sent pattern answer));
      steps = parts.0;
      ending = parts.1;
    }
