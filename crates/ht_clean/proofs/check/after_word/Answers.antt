use Rattle.std.proofs.Common.{◌<◌, ℕ, subst, sym}
use Rattle.std.proofs.lemmas.Option.{IfSome_then}
use Rattle.ht_clean.proofs.Words.{poured-word, word-within}
use Rattle.ht_clean.proofs.check.after_word.Goals as goal

pub bounds-words-at : goal.bounds-words-at
bounds-words-at c = word-within c.args.pattern c.args.steps c.args.at _ c.requires.at c.requires.places

pub returns-clause-poured : goal.returns-clause-poured
returns-clause-poured c =
    IfSome_then c.after.result c.after.ensures.poured
    (λ next pours.
    poured-word c.args.pattern c.args.words.now c.args.input.now c.args.steps c.args.at c.steps_of_word-width.result c.min-count.result
    c.low_bits-current.result c.input_before-previous.result c.args.bucket.level c.args.bucket.wrong next.level next.wrong c.wrong_places-wrong.result
    c.requires.at c.steps_of_word-width.ensures.value c.min-count.ensures
    (record {
      now = λ step lt. c.low_bits-current.ensures.within step (subst (λ (n : ℕ). step < n) (sym c.steps_of_word-width.ensures.value) lt);
      first = c.input_before-previous.ensures.first;
      behind = c.input_before-previous.ensures.behind;
    })
    c.wrong_places-wrong.ensures pours c.requires.poured)
