use Rattle.std.proofs.Common.{◌≡◌, ℕ, [], ◌∷◌, get_or, ◌<◌, ◌≤◌, ◌++◌, List, length, ap, ◌∙◌, sym, rules, append-nil}
use Rattle.std.specs.Prelude.{Option, Some}
use Rattle.std.specs.List.{position_or_len, remove}
use Rattle.std.specs.Option.{option_to_list}
use Rattle.ht_metric.specs.declared.hit.Hit.{Hit}
use Rattle.ht_machine.specs.Machine.{has_number, hit_of}
use Rattle.ht_machine.proofs.Lists.{without_index, without_past, hit_index, hit_past}
use Rattle.ht_machine.proofs.moves.hand_over.Goals as goal

pub returns-in_default-clause-out : goal.returns-in_default-clause-out
returns-in_default-clause-out c =
    let hits = c.args.from.now.items in
    let ge : length hits ≤ position_or_len (has_number c.args.number) hits = search rules in
    sym (without_past c.args.number hits ge)

pub returns-in_default-clause-put : goal.returns-in_default-clause-put
returns-in_default-clause-put c =
    let hits = c.args.from.now.items in
    let ge : length hits ≤ position_or_len (has_number c.args.number) hits = search rules in
    let none = ap (λ (o : Option Hit). c.args.into.now.items ++ option_to_list o) (hit_past c.args.number hits ge) in
    c.reserve.ensures.items ∙ sym (append-nil c.args.into.now.items) ∙ sym none

pub returns-clause-out : goal.returns-clause-out
returns-clause-out c =
    let hits = c.args.from.now.items in
    let at : c.in-Some.at ≡ position_or_len (has_number c.args.number) hits = search rules in
    let lt : position_or_len (has_number c.args.number) hits < length hits = search rules in
    c.remove.ensures.items ∙ ap (λ (i : ℕ). remove hits i) at ∙ sym (without_index c.args.number hits lt)

pub returns-clause-put : goal.returns-clause-put
returns-clause-put c =
    let hits = c.args.from.now.items in
    let at : c.in-Some.at ≡ position_or_len (has_number c.args.number) hits = search rules in
    let lt : position_or_len (has_number c.args.number) hits < length hits = search rules in
    let found : hit_of c.args.number hits ≡ Some c.remove.result =
    hit_index c.args.number hits c.remove.result lt ∙ ap (λ (i : ℕ). Some (get_or hits i c.remove.result)) (sym at)
    ∙ ap (λ (x : Hit). Some x) (sym c.remove.ensures.value) in
    let pushed : c.push.new.self.items ≡ c.reserve.new.self.items ++ c.remove.result ∷ [] = search rules in
    pushed ∙ ap (λ (xs : List Hit). xs ++ c.remove.result ∷ []) c.reserve.ensures.items
    ∙ ap (λ (o : Option Hit). c.args.into.now.items ++ option_to_list o) (sym found)
