-- What `clap` reads of one option, as a command that has only this option.
use Rattle.std.specs.Prelude.{List, [], ◌∷◌, ℕ, Option, Some, codes}
use Rattle.clap.specs.Words.{App, Rule, first_of, matches_of, new_app, new_rule, with_rule}
use Rattle.ht_words.specs.declared.setting.Setting.{Setting}
use Rattle.ht_words.specs.Settings.{default_text_of, plain_name_of}

-- the option, with its default
abbrev pub rule_for : Setting → Rule
rule_for setting = record (new_rule (plain_name_of setting)) { long = Some (plain_name_of setting); defaults = default_text_of setting ∷ [] }

-- a command that has the option
abbrev pub command_with : Setting → App
command_with setting = with_rule (new_app (codes "radio")) (rule_for setting)

-- the option's text in the words of a call
abbrev pub text_read : Setting → List (List ℕ) → Option (List ℕ)
text_read setting words = first_of (plain_name_of setting) (matches_of (command_with setting) words)
