use Rattle.std.proofs.Common.{◌≡◌, ◌+◌, ◌++◌, ◌<◌, [], drop, length, map, get_or, refl, ◌∙◌, arith, rules}
use Rattle.std.proofs.lemmas.List.{length-map}
use Rattle.ht_io.proofs.Calls.{later-later}
use Rattle.ht_io.proofs.Pieces.{grown-append}
use Rattle.ht_fields.proofs.Putting.{on_err, part_more}
use Rattle.ht_text.specs.Lines.{capture_text}
use Rattle.ht_many.specs.Bundles.{texts_from}
use Rattle.ht_many.proofs.Texts.{held_at, held_by, texts_more, texts_step}
use Rattle.ht_many.proofs.bundle.put_texts.Goals as goal
use Rattle.ht_many.proofs.bundle.put_texts.Goals.{After-put_text}

-- there is a text with this number, and it was put
low : (g : _) (c : After-put_text g) → c.loop-at.at < length (map held_by c.args.texts.now)
low g c = omega (arith, c.loop-at-test.true, length-map c.args.texts.now held_by)

text_is : (g : _) (c : After-put_text g) → c.held-text.result.now ≡ get_or (map held_by c.args.texts.now) c.loop-at.at []
text_is g c = held_at c.args.texts.now c.loop-at.at c.index-texts-at.result _ c.held-text.result.now c.loop-at-test.true c.index-texts-at.is c.held-text.ensures

pub returns-in_err-put_text : goal.returns-in_err-put_text
returns-in_err-put_text g c =
    let at = (goal.at.returns-in_err-put_text g c).After-put_text in
    let k = c.loop-at.at in
    let texts = map held_by c.args.texts.now in
    let more = capture_text k ++ c.held-text.result.now in
    let i = c.loop-at.invariant in
    let so_far = i.put in
    let e = c.in_err-put_text.ensures in
    record {
      grown = search rules;
      steady = search rules;
      part = on_err _ _ (part_more _ _ _ so_far.0 more more (texts_from (k + 1) (drop (k + 1) texts)) (texts_from k (drop k texts)) (texts_from 0 texts)
          so_far.2 e.part refl (texts_step texts k c.held-text.result.now (low g at) (text_is g at)) so_far.1);
      cause = search rules;
      later = later-later _ _ _ i.later e.later;
    }

pub loop-at-preserved : goal.loop-at-preserved
loop-at-preserved g c =
    let at = (goal.at.loop-at-preserved g c).After-put_text in
    let texts = map held_by c.args.texts.now in
    let text = c.held-text.result.now in
    let more = capture_text c.loop-at.at ++ text in
    let so_far = c.loop-at.invariant in
    record {
      put = (
        so_far.put.0 ++ more,
        texts_more texts c.loop-at.at text so_far.put.0 (texts_from 0 texts) (low g at) (text_is g at) so_far.put.1,
        grown-append _ _ _ so_far.put.0 more so_far.put.2 c.in_ok-put_text.ensures.grown,
      );
      later = later-later _ _ _ so_far.later c.put_text.ensures.later;
      steady = c.in_ok-put_text.ensures.steady ∙ so_far.steady;
    }
