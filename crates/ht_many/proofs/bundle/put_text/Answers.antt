use Rattle.std.proofs.Common.{ℕ, List, ◌++◌, ◌∙◌, ap, rules}
use Rattle.ht_io.proofs.Calls.{later-later}
use Rattle.ht_fields.proofs.Putting.{on_err, part_next}
use Rattle.ht_many.proofs.bundle.put_text.Goals as goal

pub returns-in_err-put-2 : goal.returns-in_err-put-2
returns-in_err-put-2 g c = record {
  grown = search rules;
  steady = search rules;
  part = on_err _ _ (part_next _ _ _ c.deref.result.now c.args.text.now _
      (ap (λ (z : List ℕ). z ++ c.args.text.now) (c.deref.ensures.value ∙ c.in_ok-line.ensures)) c.in_ok-put.ensures.grown c.in_err-put-2.ensures.part);
  cause = search rules;
  later = later-later _ _ _ c.in_ok-put.ensures.later c.in_err-put-2.ensures.later;
}
