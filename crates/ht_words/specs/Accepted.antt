-- Which words are accepted. Words come without the program's name, each as its octets.
use Rattle.std.specs.Prelude.{ℕ, ◌≡◌, ◌≢◌, ◌≤◌, true, List, [], ◌∷◌, length, All, AllPairs, Contains, flat_map}
use Rattle.std.specs.Char.{is_ascii_digit}
use Rattle.std.specs.Str.Parse.{digits_value}
use Rattle.ht_words.specs.declared.setting.Setting.{Setting}
use Rattle.ht_words.specs.Settings.{admits, name_of}
use Rattle.ht_words.specs.Words.{Row, commands}

-- an option that is given, with the digits of its number
pub record GivenOption : Type 0 where
  pub setting : Setting
  pub digits : List ℕ

-- the words that give options: the name of each, and then its digits
abbrev pub words_of : List GivenOption → List (List ℕ)
words_of pairs = flat_map (λ pair. name_of pair.setting ∷ pair.digits ∷ []) pairs

-- 1 to 20 decimal digits, of a number that the option may have
pub record HasNumber (pair : GivenOption) : Type 0 where
  pub some : 1 ≤ length pair.digits
  pub few : length pair.digits ≤ 20
  pub decimal : All (λ octet. is_ascii_digit octet ≡ true) pair.digits
  pub admitted : admits pair.setting (digits_value 10 pair.digits) ≡ true

-- each is one of these options with a number of its own, and none is given twice
pub record AreGiven (options : List Setting) (pairs : List GivenOption) : Type 0 where
  pub known : All (λ pair. Contains options pair.setting) pairs
  pub numbers : All HasNumber pairs
  pub once : AllPairs (λ pair other. pair.setting ≢ other.setting) pairs

-- the words give some of these options
abbrev pub AreAccepted : List Setting → List (List ℕ) → Type 0
AreAccepted options words = (pairs : List GivenOption) × (words ≡ words_of pairs) × AreGiven options pairs

-- the first word is the name of a command, and the others give some of its options
abbrev pub IsAccepted : List (List ℕ) → Type 0
IsAccepted words =
    (row : Row) × (others : List (List ℕ)) × Contains commands row × (words ≡ row.name ∷ others) × AreAccepted row.options others
