use Rattle.std.proofs.Common.{sym, ◌∙◌, map, string_bytes}
use Rattle.ht_words.proofs.Numbers.{gives_numbers, plain_few, plain_goes_on, plain_stops}
use Rattle.ht_words.proofs.plain.is_plain.Goals as goal

pub returns-clause-value : goal.returns-clause-value
returns-clause-value c = c.is_empty.ensures ∙ (plain_few c.args.settings.now c.loop-rest.rest.now c.in_default.len_below ∙ c.loop-rest.invariant)

pub returns-clause-numbers : goal.returns-clause-numbers
returns-clause-numbers c = λ accepted. gives_numbers c.args.settings.now (map string_bytes c.args.words.now) (sym (returns-clause-value c) ∙ accepted)

pub returns-then-not-is_pair-clause-value : goal.returns-then-not-is_pair-clause-value
returns-then-not-is_pair-clause-value c =
    plain_stops c.args.settings.now c.loop-rest.rest.now c.name-item.result c.digits-item.result c.is_pair.result c.in-len2-up.len_at_least
    c.name-item.is c.digits-item.is (rw (← c.as_str.ensures.value, ← c.as_str-in-len2-up.ensures.value) c.is_pair.ensures) c.if-not-is_pair.true
    ∙ c.loop-rest.invariant

pub loop-rest-preserved : goal.loop-rest-preserved
loop-rest-preserved c =
    plain_goes_on c.args.settings.now c.loop-rest.rest.now c.name-item.result c.digits-item.result c.is_pair.result c.in-len2-up.len_at_least
    c.name-item.is c.digits-item.is (rw (← c.as_str.ensures.value, ← c.as_str-in-len2-up.ensures.value) c.is_pair.ensures) c.if-not-is_pair.false
    ∙ c.loop-rest.invariant
