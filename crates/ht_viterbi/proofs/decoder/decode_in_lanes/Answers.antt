use Rattle.std.proofs.Common.{◌≡◌, ◌∙◌, ℕ, List, ap, subst, length, map}
use Rattle.std.proofs.lemmas.List.{length-map}
use Rattle.ht_viterbi.specs.Inputs.{place_cost}
use Rattle.ht_viterbi.specs.Lanes.{HasRows, steps_at}
use Rattle.ht_viterbi.specs.Received.{known_of}
use Rattle.ht_viterbi.specs.Trellis.{word_steps}
use Rattle.ht_viterbi.proofs.Found.{found}
use Rattle.ht_viterbi.proofs.RowFacts.{rows-word}
use Rattle.ht_viterbi.proofs.Steps.{written}
use Rattle.ht_viterbi.proofs.decoder.decode_in_lanes.Goals as goal

-- the rows that were filled in are those of the word's steps
steps-are : (c : goal.After-drop-rows-2)
    → steps_at c.deref.result.now 0 ≡ word_steps place_cost c.args.pattern (map known_of c.args.received.now) c.args.steps
steps-are c =
    let count : length c.as_mut_slice.result.now ≡ c.args.steps = c.as_mut_slice.ensures.len ∙ c.in_ok-rows.ensures.len in
    let kept : c.deref.result.now ≡ c.fill_rows.new.rows =
    c.deref.ensures.value ∙ written c.fill_rows.new.rows _ c.in_ok-rows.rows.len (c.fill_rows.ensures.length ∙ c.as_mut_slice.ensures.len) in
    ap (λ (rows : List ℕ). steps_at rows 0) kept
    ∙ rows-word c.args.pattern (map known_of c.args.received.now) c.args.steps c.fill_rows.new.rows (c.fill_rows.ensures.length ∙ count)
    (subst (λ (n : ℕ). HasRows c.args.pattern (map known_of c.args.received.now) c.fill_rows.new.rows n) count c.fill_rows.ensures.rows)

pub returns : goal.returns
returns c =
    found place_cost c.args.steps c.args.pattern (map known_of c.args.received.now) (steps_at c.deref.result.now 0)
    c.backwards-distance.new.choices c.deref-2.result.now c.from.result c.backwards-distance.result c.requires.least
    (length-map c.args.received.now known_of ∙ c.requires.received) (steps-are c) c.backwards-distance.ensures.choices
    (c.deref-2.ensures.value ∙ written c.backwards-distance.new.choices _ c.in_ok-choices.choices.len
    (c.backwards-distance.auto.choices ∙ c.as_mut_slice-2.ensures.len))
    (c.deref-2.ensures.len ∙ c.in_ok-choices.ensures.len) c.backwards-distance.ensures.least
    (λ all many are. c.from.ensures ∙ c.forwards.ensures all many are)
