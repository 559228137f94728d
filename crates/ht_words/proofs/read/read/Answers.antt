use Rattle.std.proofs.Common.{rules, ◌≡◌, ◌∙◌, ap, ap₂, map, is_some, sym, true≢false, None}
use Rattle.clap.specs.Words.{App, takes, app_of, rule_of, with_rule}
use Rattle.ht_words.specs.Readings.{command_with, text_read}
use Rattle.ht_words.proofs.ReadingLemmas.{option_with, read_of}
use Rattle.ht_words.proofs.read.read.Goals as goal
use Rattle.ht_words.proofs.read.read.Goals.{In_ok-command}

-- the command that is built is the one with this option
built : (c : In_ok-command) → app_of c.in_ok-command.command ≡ command_with c.args.setting
built c =
    let rule : rule_of c.default_value-option.result ≡ option_with c.plain_name-name.result.now c.default-default.result.now = search rules in
    c.in_ok-command.ensures.shape (search rules)
    ∙ ap₂ with_rule c.new-2.ensures.app (rule ∙ ap₂ option_with c.plain_name-name.ensures c.default-default.ensures)

pub returns-in-Some : goal.returns-in-Some
returns-in-Some c =
    c.in-Some.ensures
    ∙ read_of c.args.setting (map (λ word. word.now) c.args.words.now) _ c.in-Ok.matches c.plain_name-name.result.now c.plain_name-name.ensures
    (built (goal.at.returns-in-Some c).In_ok-command) c.in-Ok.ensures.matches

pub unreachable-requires : goal.unreachable-requires
unreachable-requires c =
    let none : None ≡ text_read c.args.setting (map (λ word. word.now) c.args.words.now) =
    c.in-None.ensures
    ∙ read_of c.args.setting (map (λ word. word.now) c.args.words.now) _ c.in-Ok.matches c.plain_name-name.result.now c.plain_name-name.ensures
    (built (goal.at.unreachable-requires c).In_ok-command) c.in-Ok.ensures.matches in
    true≢false (sym (ap is_some none ∙ c.requires.known))

pub lack_of-requires : goal.lack_of-requires
lack_of-requires c =
    let app_is = built (goal.at.lack_of-requires c).In_ok-command in
    c.in-Err.ensures.passes (ap (λ (a : App). takes a (map (λ word. word.now) c.args.words.now)) app_is ∙ c.requires.taken)
