-- What `clap` reads of one option: its digits where it is given, and else its default.
use Rattle.std.proofs.Common.{◌≡◌, ℕ, List, [], ◌∷◌, ◌++◌, Some, true, refl, codes, is_some, ap, ap₂, ◌∙◌}
use Rattle.std.specs.Str.Parse.{digits_value}
use Rattle.ht_words.specs.Words.{is_number}
use Rattle.clap.specs.declared.parser.matches.ArgMatches.{ArgMatches}
use Rattle.clap.specs.Words.{App, HasMatchesOf, Rule, first_of, first_value, found_of, is_simple, matches_of, new_rule, takes}
use Rattle.clap.proofs.WalkLemmas.{first_value-rows}
use Rattle.clap.proofs.OnLiterals.{clap_on_literals}
use Rattle.ht_words.specs.declared.setting.Setting.{Setting}
use Rattle.ht_words.specs.declared.setting.Setting.TheVariants.{Workers, Window, Seed, Noise, Frames, Mcs, Bandwidth, Length}
use Rattle.ht_words.specs.Readings.{command_with, text_read}
use Rattle.ht_words.specs.Settings.{default_of, default_text_of, name_of, plain_name_of}

-- what holds of each option holds of all
by_setting : (P : Setting → Type 0) → P Workers → P Window → P Seed → P Noise → P Frames → P Mcs → P Bandwidth → P Length → (setting : Setting) → P setting
by_setting P a b c d e f g h Workers = a
by_setting P a b c d e f g h Window = b
by_setting P a b c d e f g h Seed = c
by_setting P a b c d e f g h Noise = d
by_setting P a b c d e f g h Frames = e
by_setting P a b c d e f g h Mcs = f
by_setting P a b c d e f g h Bandwidth = g
by_setting P a b c d e f g h Length = h

pub simple : (setting : Setting) → is_simple (command_with setting) ≡ true
unfolding clap_on_literals
simple = by_setting (λ (s : Setting). is_simple (command_with s) ≡ true) refl refl refl refl refl refl refl refl

pub reads_given : (setting : Setting) (digits : List ℕ) → text_read setting (codes "radio" ∷ (name_of setting ++ 61 ∷ digits) ∷ []) ≡ Some digits
unfolding clap_on_literals
reads_given =
    by_setting (λ (s : Setting). (digits : List ℕ) → text_read s (codes "radio" ∷ (name_of s ++ 61 ∷ digits) ∷ []) ≡ Some digits)
    (λ digits. refl) (λ digits. refl) (λ digits. refl) (λ digits. refl) (λ digits. refl) (λ digits. refl) (λ digits. refl) (λ digits. refl)

pub reads_default : (setting : Setting) → text_read setting (codes "radio" ∷ []) ≡ Some (default_text_of setting)
unfolding clap_on_literals
reads_default = by_setting (λ (s : Setting). text_read s (codes "radio" ∷ []) ≡ Some (default_text_of s)) refl refl refl refl refl refl refl refl

-- a default is the number that its digits mean
pub default_meant : (setting : Setting) → digits_value 10 (default_text_of setting) ≡ default_of setting
default_meant = by_setting (λ (s : Setting). digits_value 10 (default_text_of s) ≡ default_of s) refl refl refl refl refl refl refl refl

pub default_number : (setting : Setting) → is_number (default_text_of setting) ≡ true
default_number = by_setting (λ (s : Setting). is_number (default_text_of s) ≡ true) refl refl refl refl refl refl refl refl

-- what the matches of the command with the option have for it
pub read_of : (setting : Setting) (words : List (List ℕ)) (app : App) (m : ArgMatches) (name : List ℕ)
    → name ≡ plain_name_of setting → app ≡ command_with setting → HasMatchesOf app words m → first_value (found_of m) name ≡ text_read setting words
read_of setting words app m name same is has =
    first_value-rows (found_of m) name
    ∙ ap₂ first_of same ((has (ap is_simple is ∙ simple setting)).0 ∙ ap (λ (a : App). matches_of a words) is)

abbrev pub option_with : List ℕ → List ℕ → Rule
option_with name default = record (new_rule name) { long = Some name; defaults = default ∷ [] }

-- what is read of the option alone
pub given_read : (setting : Setting) (word name digits text : List ℕ) → name ≡ name_of setting → word ≡ name ++ 61 ∷ digits
    → Some text ≡ text_read setting (codes "radio" ∷ word ∷ []) → text ≡ digits
given_read setting word name digits text same is read =
    let all : Some text ≡ Some digits =
    read ∙ ap (λ (w : List ℕ). text_read setting (codes "radio" ∷ w ∷ [])) (is ∙ ap (λ (n : List ℕ). n ++ 61 ∷ digits) same) ∙ reads_given setting digits in
    cc

pub known_given : (setting : Setting) (word name digits : List ℕ) → name ≡ name_of setting → word ≡ name ++ 61 ∷ digits
    → is_some (text_read setting (codes "radio" ∷ word ∷ [])) ≡ true
known_given setting word name digits same is =
    ap is_some (ap (λ (w : List ℕ). text_read setting (codes "radio" ∷ w ∷ [])) (is ∙ ap (λ (n : List ℕ). n ++ 61 ∷ digits) same) ∙ reads_given setting digits)

pub default_read : (setting : Setting) (text : List ℕ) → Some text ≡ text_read setting (codes "radio" ∷ []) → text ≡ default_text_of setting
default_read setting text read = let all : Some text ≡ Some (default_text_of setting) = read ∙ reads_default setting in cc

pub known_default : (setting : Setting) → is_some (text_read setting (codes "radio" ∷ [])) ≡ true
known_default setting = ap is_some (reads_default setting)

-- the command takes its words
takes_spelled : (setting : Setting) (digits : List ℕ) → takes (command_with setting) (codes "radio" ∷ (name_of setting ++ 61 ∷ digits) ∷ []) ≡ true
unfolding clap_on_literals
takes_spelled =
    by_setting (λ (s : Setting). (digits : List ℕ) → takes (command_with s) (codes "radio" ∷ (name_of s ++ 61 ∷ digits) ∷ []) ≡ true)
    (λ digits. refl) (λ digits. refl) (λ digits. refl) (λ digits. refl) (λ digits. refl) (λ digits. refl) (λ digits. refl) (λ digits. refl)

pub takes_default : (setting : Setting) → takes (command_with setting) (codes "radio" ∷ []) ≡ true
unfolding clap_on_literals
takes_default = by_setting (λ (s : Setting). takes (command_with s) (codes "radio" ∷ []) ≡ true) refl refl refl refl refl refl refl refl

pub takes_given : (setting : Setting) (word name digits : List ℕ) → name ≡ name_of setting → word ≡ name ++ 61 ∷ digits
    → takes (command_with setting) (codes "radio" ∷ word ∷ []) ≡ true
takes_given setting word name digits same is =
    ap (λ (w : List ℕ). takes (command_with setting) (codes "radio" ∷ w ∷ [])) (is ∙ ap (λ (n : List ℕ). n ++ 61 ∷ digits) same) ∙ takes_spelled setting digits
