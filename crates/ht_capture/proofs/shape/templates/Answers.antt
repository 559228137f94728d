use Rattle.std.proofs.Common.{List, [], ◌∷◌, sym, ap, subst, ◌∙◌, arith}
use Rattle.std.proofs.lemmas.List.Elements.{All-append}
use Rattle.std.specs.List.{All}
use Rattle.ht_capture.specs.declared.template.Template.{Template}
use Rattle.ht_capture.specs.Parts.{IsTemplate, presents_of}
use Rattle.ht_capture.proofs.Shapes.{all_one, presents_more}
use Rattle.ht_capture.proofs.shape.templates.Goals as goal

pub loop-at-preserved : goal.loop-at-preserved
loop-at-preserved c =
    let head = c.args.head.now in
    let was = c.loop-at.templates.items in
    let one = c.template.result in
    let now = c.push_reserved.ensures in
    record {
      count = omega (arith, now.len, c.loop-at.invariant.count);
      room = omega (arith, now.capacity, c.loop-at.invariant.room);
      present = ap (λ (ts : List Template). presents_of ts) now.items
          ∙ presents_more was one c.args.present.now c.loop-at.at c.index-present-at.result c.loop-at-test.true c.loop-at.invariant.present
          (c.template.ensures.present ∙ c.index-present-at.is);
      each = subst (λ (ts : List Template). All (IsTemplate head) ts) (sym now.items)
          (All-append (IsTemplate head) was (one ∷ []) c.loop-at.invariant.each (all_one (IsTemplate head) one c.template.ensures.template));
    }
