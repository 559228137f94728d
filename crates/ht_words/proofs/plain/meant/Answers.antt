use Rattle.std.proofs.Common.{map, string_bytes}
use Rattle.ht_words.proofs.Numbers.{answers_as, default_value, given_is_number, given_value, refuses_as}
use Rattle.ht_words.proofs.plain.meant.Goals as goal

pub read_given-requires : goal.read_given-requires
read_given-requires c = given_is_number (map string_bytes c.args.words.now) c.name.result.now c.in-Some.digits.now c.requires c.in-Some.ensures

pub returns-in-Some-clause-some : goal.returns-in-Some-clause-some
returns-in-Some-clause-some c =
    answers_as c.read_given.result _ _
    (given_value (map string_bytes c.args.words.now) c.args.setting c.name.result.now c.in-Some.digits.now c.name.ensures c.in-Some.ensures)
    c.read_given.ensures.some

pub returns-in-Some-clause-none : goal.returns-in-Some-clause-none
returns-in-Some-clause-none c =
    refuses_as c.read_given.result _ _
    (given_value (map string_bytes c.args.words.now) c.args.setting c.name.result.now c.in-Some.digits.now c.name.ensures c.in-Some.ensures)
    c.read_given.ensures.none

pub returns-in-None-clause-some : goal.returns-in-None-clause-some
returns-in-None-clause-some c =
    answers_as c.read_default.result _ _
    (default_value (map string_bytes c.args.words.now) c.args.setting c.name.result.now c.name.ensures c.in-None.ensures)
    c.read_default.ensures.some

pub returns-in-None-clause-none : goal.returns-in-None-clause-none
returns-in-None-clause-none c =
    refuses_as c.read_default.result _ _
    (default_value (map string_bytes c.args.words.now) c.args.setting c.name.result.now c.name.ensures c.in-None.ensures)
    c.read_default.ensures.none
