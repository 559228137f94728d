-- What the numbers of words are.
use Rattle.std.proofs.Common.{◌≡◌, ◌&&◌, ℕ, Bool, true, false, List, [], ◌∷◌, Option, Some, None, refl}
use Rattle.std.proofs.Common.{sym, arith, ◌∙◌, ap, ap₂, subst, get_or, take, drop, ◌-◌, ◌≤◌, ◌^◌}
use Rattle.std.proofs.lemmas.Bool.Decides.{nat_tests}
use Rattle.std.proofs.lemmas.Bool.{and_parts, leb-true}
use Rattle.std.proofs.lemmas.List.{take_all}
use Rattle.std.proofs.lemmas.Str.Parse.{without_leading_plus_none}
use Rattle.std.specs.Char.{digit_value, is_ascii_digit}
use Rattle.std.specs.List.{list_all}
use Rattle.std.specs.Global.{Global}
use Rattle.std.specs.declared.alloc.AllocError.{AllocError}
use Rattle.std.specs.Option.{option_map_or}
use Rattle.std.specs.Result.{result_ok}
use Rattle.std.specs.Str.Parse.{AllDigits, ParsesUnsigned, digits_value}
use Rattle.std.specs.Prelude.{◌==◌, ◌<◌, ◌≢◌, IfNone, IfOk, Result, Ok, Err}
use Rattle.std.specs.Prelude.{length, map, nat_le, slice_index, String, string_bytes, IfSome, bytes_eq, if◌then◌else◌}
use Rattle.ht_words.specs.declared.setting.Setting.{Setting}
use Rattle.ht_words.specs.declared.setting.Setting.TheVariants.{Workers, Window, Seed, Noise, Frames, Mcs, Bandwidth, Length}
use Rattle.ht_words.specs.Settings.{admits, default_of, name_of}
use Rattle.ht_words.specs.Words.{GivesNumbers, given, is_number, is_pair, is_plain, names_one, value_of}

given_number : (settings : List Setting) (name : List ℕ) (words : List (List ℕ)) → is_plain settings words ≡ true
    → IfSome (given name words) (λ text. is_number text ≡ true)
given_number settings name [] plain = tt
given_number settings name (word ∷ []) plain = tt
given_number settings name (word ∷ digits ∷ words) plain = go (bytes_eq word name)
    (given_number settings name words parts.2)
  where
    parts : (names_one settings word ≡ true) × (is_number digits ≡ true) × (is_plain settings words ≡ true)
    parts =
        let ends = and_parts (is_pair settings word digits words) _ plain in
        let first = and_parts (names_one settings word) _ ends.0 in
        let second = and_parts (is_number digits) _ first.1 in
        (first.0, second.0, ends.1)

    go : (same : Bool) → IfSome (given name words) (λ text. is_number text ≡ true)
        → IfSome (if same then Some digits else given name words) (λ text. is_number text ≡ true)
    go true later = parts.1
    go false later = later

-- words in the plain form give only numbers
pub gives_numbers : (settings : List Setting) (words : List (List ℕ)) → is_plain settings words ≡ true → GivesNumbers words
gives_numbers settings words plain name = given_number settings name words plain

-- no option may have a value of more than 64 bits
pub admits_none_above : (setting : Setting) (value : ℕ) → 2 ^ 64 ≤ value → admits setting value ≡ false
admits_none_above Workers value large = grind (arith, nat_tests)
admits_none_above Window value large = grind (arith, nat_tests)
admits_none_above Seed value large = grind (arith, nat_tests)
admits_none_above Noise value large = grind (arith, nat_tests)
admits_none_above Frames value large = grind (arith, nat_tests)
admits_none_above Mcs value large = grind (arith, nat_tests)
admits_none_above Bandwidth value large = grind (arith, nat_tests)
admits_none_above Length value large = grind (arith, nat_tests)

digit_value_below : (c : ℕ) → is_ascii_digit c ≡ true → digit_value c < 10
digit_value_below c digit = grind (arith, nat_tests)

digit_no_plus : (c : ℕ) → is_ascii_digit c ≡ true → c ≢ 43
digit_no_plus c digit = grind (arith, nat_tests)

all_digits : (text : List ℕ) → list_all is_ascii_digit text ≡ true → AllDigits 10 text
all_digits [] digits = tt
all_digits (c ∷ text) digits =
    let parts = and_parts (is_ascii_digit c) _ digits in
    (digit_value_below c parts.0, all_digits text parts.1)

no_plus : (text : List ℕ) → list_all is_ascii_digit text ≡ true → slice_index text 0 ≢ 43
no_plus [] digits = λ e. omega (arith, e)
no_plus (c ∷ text) digits = digit_no_plus c (and_parts (is_ascii_digit c) _ digits).0

-- a number that `parse` refuses at 64 bits has more of them
pub parses_none : {E : Type 0} (text : List ℕ) (r : Result ℕ E) → is_number text ≡ true → ParsesUnsigned 64 10 text r
    → IfNone (result_ok r) (2 ^ 64 ≤ digits_value 10 text)
parses_none text (Ok value) number parses = tt
parses_none text (Err e) number parses =
    let first = and_parts (nat_le 1 (length text)) _ number in
    let second = and_parts (nat_le (length text) 20) _ first.1 in
    let same = without_leading_plus_none text (no_plus text second.1) in
    let long : 1 ≤ length text = leb-true 1 (length text) first.0 in
    let fits : digits_value 10 text < 2 ^ 64 → ⊥ = λ low. parses (rw same ((omega arith, all_digits text second.1), low)) in
    grind arith

-- digits that are given are a number
pub given_is_number : (words : List (List ℕ)) (name digits : List ℕ) → GivesNumbers words → Some digits ≡ given name words → is_number digits ≡ true
given_is_number words name digits numbers here = subst (λ (o : Option (List ℕ)). IfSome o (λ text. is_number text ≡ true)) (sym here) (numbers name)

-- the value of an option that is given
pub given_value : (words : List (List ℕ)) (setting : Setting) (name digits : List ℕ) → name ≡ name_of setting → Some digits ≡ given name words
    → digits_value 10 digits ≡ value_of words setting
given_value words setting name digits same here =
    ap (λ o. option_map_or (digits_value 10) o (default_of setting)) (here ∙ ap (λ (n : List ℕ). given n words) same)

-- and of one that isn't
pub default_value : (words : List (List ℕ)) (setting : Setting) (name : List ℕ) → name ≡ name_of setting → None ≡ given name words
    → default_of setting ≡ value_of words setting
default_value words setting name same none =
    ap (λ o. option_map_or (digits_value 10) o (default_of setting)) (none ∙ ap (λ (n : List ℕ). given n words) same)

-- what holds of a number holds of an equal one
pub answers_as : (r : Result (Option ℕ) AllocError) (a b : ℕ) → a ≡ b → IfOk r (λ answer. IfSome answer (λ value. value ≡ a))
    → IfOk r (λ answer. IfSome answer (λ value. value ≡ b))
answers_as r a b same is = subst (λ (n : ℕ). IfOk r (λ answer. IfSome answer (λ value. value ≡ n))) same is

pub refuses_as : (r : Result (Option ℕ) AllocError) (a b : ℕ) → a ≡ b → IfOk r (λ answer. IfNone answer (2 ^ 64 ≤ a))
    → IfOk r (λ answer. IfNone answer (2 ^ 64 ≤ b))
refuses_as r a b same is = subst (λ (n : ℕ). IfOk r (λ answer. IfNone answer (2 ^ 64 ≤ n))) same is

-- fewer than two words are no pair
pub given_few : (name : List ℕ) (words : List (String Global)) → length words < 2 → given name (map string_bytes words) ≡ None
given_few name [] few = refl
given_few name (word ∷ []) few = refl
given_few name (word ∷ digits ∷ words) few = absurd (omega arith)

pub plain_few : (settings : List Setting) (words : List (String Global)) → length words < 2 → (length words == 0) ≡ is_plain settings (map string_bytes words)
plain_few settings [] few = refl
plain_few settings (word ∷ []) few = refl
plain_few settings (word ∷ digits ∷ words) few = absurd (omega arith)

-- the pair that leads the words, as a slice pattern takes it off
module _ (settings : List Setting) (words : List (String Global)) where
  abbrev rest : List (String Global)
  rest = take (length words - 2) (drop 2 words)

  pub plain_next : (name digits : String Global) (pair : Bool) → 2 ≤ length words → name ≡ get_or words 0 name → digits ≡ get_or words 1 digits
      → pair ≡ is_pair settings (string_bytes name) (string_bytes digits) (map string_bytes rest)
      → is_plain settings (map string_bytes words) ≡ (pair && is_plain settings (map string_bytes rest))
  plain_next name digits pair = go words
    where
      go : (all : List (String Global)) → 2 ≤ length all → name ≡ get_or all 0 name → digits ≡ get_or all 1 digits
          → pair ≡ is_pair settings (string_bytes name) (string_bytes digits) (map string_bytes (take (length all - 2) (drop 2 all)))
          → is_plain settings (map string_bytes all) ≡ (pair && is_plain settings (map string_bytes (take (length all - 2) (drop 2 all))))
      go [] long first second is = absurd (omega arith)
      go (word ∷ []) long first second is = absurd (omega arith)
      go (word ∷ other ∷ others) long first second is =
          let same : take (length (word ∷ other ∷ others) - 2) others ≡ others = take_all _ others (omega arith) in
          let whole : is_pair settings (string_bytes name) (string_bytes digits) (map string_bytes (take (length (word ∷ other ∷ others) - 2) others))
          ≡ is_pair settings (string_bytes word) (string_bytes other) (map string_bytes others) =
          ap (λ (w : String Global).
          is_pair settings (string_bytes w) (string_bytes digits) (map string_bytes (take (length (word ∷ other ∷ others) - 2) others))) first
          ∙ ap (λ (w : String Global).
          is_pair settings (string_bytes word) (string_bytes w) (map string_bytes (take (length (word ∷ other ∷ others) - 2) others))) second
          ∙ ap (λ (ws : List (String Global)). is_pair settings (string_bytes word) (string_bytes other) (map string_bytes ws)) same in
          sym (ap₂ (λ (b : Bool) (ws : List (String Global)). b && is_plain settings (map string_bytes ws)) (is ∙ whole) same)

  pub plain_stops : (name digits : String Global) (pair : Bool) → 2 ≤ length words → name ≡ get_or words 0 name → digits ≡ get_or words 1 digits
      → pair ≡ is_pair settings (string_bytes name) (string_bytes digits) (map string_bytes rest) → pair ≡ false
      → false ≡ is_plain settings (map string_bytes words)
  plain_stops name digits pair long first second is stops =
      sym (plain_next name digits pair long first second is ∙ ap (λ (b : Bool). b && is_plain settings (map string_bytes rest)) stops)

  pub plain_goes_on : (name digits : String Global) (pair : Bool) → 2 ≤ length words → name ≡ get_or words 0 name → digits ≡ get_or words 1 digits
      → pair ≡ is_pair settings (string_bytes name) (string_bytes digits) (map string_bytes rest) → pair ≡ true
      → is_plain settings (map string_bytes rest) ≡ is_plain settings (map string_bytes words)
  plain_goes_on name digits pair long first second is goes =
      sym (plain_next name digits pair long first second is ∙ ap (λ (b : Bool). b && is_plain settings (map string_bytes rest)) goes)
