use Rattle.std.proofs.Common.{ℕ, ◌*◌, ◌/◌, length, subst, sym, ◌∙◌}
use Rattle.ht_rate.specs.Rates.{streams_of}
use Rattle.ht_library.specs.Symbols.{IsEmptyOr, found_at}
use Rattle.ht_library.proofs.Answered.{labels-all, sums-all}
use Rattle.ht_library.proofs.symbols.answer_all.Goals as goal

pub returns-clause-labels : goal.returns-clause-labels
returns-clause-labels c =
    let r = c.args.rate.now in
    let received = c.args.received.now in
    labels-all r c.args.channels.now received c.answer_rest.new.labels
    (subst (λ (n : ℕ). IsEmptyOr (length received * streams_of r) n) (sym (c.answer_rest.ensures.labels ∙ c.answer_eights.ensures.labels))
    c.requires.labels_fit)
    c.answer_rest.ensures.more.are_labels

pub returns-clause-sums : goal.returns-clause-sums
returns-clause-sums c =
    let received = c.args.received.now in
    let each = length c.args.channels.now in
    sums-all (length received) each (found_at c.args.rate.now c.args.channels.now received) c.answer_rest.new.under_way c.answer_rest.new.sums
    (subst (λ (n : ℕ). IsEmptyOr (length received / each) n) (sym (c.answer_rest.ensures.sums ∙ c.answer_eights.ensures.sums)) c.requires.sums_fit)
    c.answer_rest.ensures.more.are_summed
