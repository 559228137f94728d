use Rattle.std.proofs.Common.{ap, subst, ◌∙◌, ◌≡◌, ◌≤◌, ◌^◌, ◌++◌, ◌∷◌, ℕ, List, IfSome, IfNone}
use Rattle.std.specs.Str.Parse.{digits_value}
use Rattle.ht_words.specs.Words.{is_number}
use Rattle.ht_words.proofs.ReadingLemmas.{given_read, known_given, takes_given}
use Rattle.ht_words.proofs.plain.read_given.Goals as goal
use Rattle.ht_words.proofs.plain.read_given.Goals.{After-as_str, In_ok-text}

-- the word that is built: the option's name, = and the digits
word_is : (c : After-as_str) → c.as_str.result.now ≡ c.name-name.result.now ++ 61 ∷ c.args.digits.now
word_is c = c.as_str.ensures.value ∙ c.in_ok-word.ensures.ok

-- what is read are the digits
text_is : (c : In_ok-text) → c.in_ok-text.text.now ≡ c.args.digits.now
text_is c =
    given_read c.args.setting c.as_str.result.now c.name-name.result.now c.args.digits.now c.in_ok-text.text.now c.name-name.ensures
    (c.as_str.ensures.value ∙ c.in_ok-word.ensures.ok) c.in_ok-text.ensures

pub read-requires-clause-known : goal.read-requires-clause-known
read-requires-clause-known c =
    known_given c.args.setting c.as_str.result.now c.name-name.result.now c.args.digits.now c.name-name.ensures
    (word_is (goal.at.read-requires-clause-known c).After-as_str)

pub read-requires-clause-taken : goal.read-requires-clause-taken
read-requires-clause-taken c =
    takes_given c.args.setting c.as_str.result.now c.name-name.result.now c.args.digits.now c.name-name.ensures
    (word_is (goal.at.read-requires-clause-taken c).After-as_str)

pub number-requires : goal.number-requires
number-requires c = ap is_number (text_is (goal.at.number-requires c).In_ok-text) ∙ c.requires

pub returns-clause-some : goal.returns-clause-some
returns-clause-some c =
    subst (λ (text : List ℕ). IfSome c.number.result (λ value. value ≡ digits_value 10 text)) (text_is (goal.at.returns-clause-some c).In_ok-text)
    c.number.ensures.some

pub returns-clause-none : goal.returns-clause-none
returns-clause-none c =
    subst (λ (text : List ℕ). IfNone c.number.result (2 ^ 64 ≤ digits_value 10 text)) (text_is (goal.at.returns-clause-none c).In_ok-text)
    c.number.ensures.none
