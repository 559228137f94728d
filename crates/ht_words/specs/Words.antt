-- What the words of a call ask for. Words come without the program's name, each as its octets.
use Rattle.std.specs.Prelude.{ℕ, ◌≡◌, ◌≤◌, ⊤, ◌&&◌, Bool, true, false, not, List, [], ◌∷◌, length, map, Option, Some, None, is_some, IfSome, if◌then◌else◌}
use Rattle.std.specs.Prelude.{nat_le, ◌==◌, codes, bytes_eq, String, string_bytes}
use Rattle.std.specs.Global.{Global}
use Rattle.std.specs.List.{list_all, list_any}
use Rattle.std.specs.Option.{option_map_or}
use Rattle.std.specs.Char.{is_ascii_digit}
use Rattle.std.specs.Str.Parse.{digits_value}
use Rattle.ht_rate.specs.declared.rates.Rate.{Rate}
use Rattle.ht_rate.specs.Rates.{rate_at}
use Rattle.ht_words.specs.declared.setting.Setting.{Setting}
use Rattle.ht_words.specs.declared.setting.Setting.TheVariants.{Workers, Window, Seed, Noise, Frames, Mcs, Bandwidth, Length}
use Rattle.ht_words.specs.declared.asked.Asked.{Asked}
use Rattle.ht_words.specs.declared.asked.Asked.TheVariants.{Detect, Rx, Soft, Many, Tx, Channel, Upgrade, Certify, Check, LegacyChannel, LegacyRx, Demo}
use Rattle.ht_words.specs.Settings.{admits, default_of, name_of}

-- 1 to 20 decimal digits
abbrev pub is_number : List ℕ → Bool
is_number text = nat_le 1 (length text) && (nat_le (length text) 20 && list_all is_ascii_digit text)

-- the word names one of the options
abbrev pub names_one : List Setting → List ℕ → Bool
names_one settings word = list_any (λ setting. bytes_eq word (name_of setting)) settings

-- the word that follows a name, where the words are pairs of a name and a number
abbrev pub given : List ℕ → List (List ℕ) → Option (List ℕ)
given name [] = None
given name (word ∷ []) = None
given name (word ∷ digits ∷ words) = if bytes_eq word name then Some digits else given name words

-- an option's name and a number, and the name doesn't come again in the words behind them
abbrev pub is_pair : List Setting → List ℕ → List ℕ → List (List ℕ) → Bool
is_pair settings word digits words = names_one settings word && (is_number digits && not (is_some (given word words)))

-- the words are pairs of an option's name and a number, and no name comes twice
abbrev pub is_plain : List Setting → List (List ℕ) → Bool
is_plain settings [] = true
is_plain settings (word ∷ []) = false
is_plain settings (word ∷ digits ∷ words) = is_pair settings word digits words && is_plain settings words

-- every word that follows a name is a number
abbrev pub GivesNumbers : List (List ℕ) → Type 0
GivesNumbers words = (name : List ℕ) → IfSome (given name words) (λ text. is_number text ≡ true)

-- an option's value: the number that its digits mean, or its default where it isn't given
abbrev pub value_of : List (List ℕ) → Setting → ℕ
value_of words setting = option_map_or (digits_value 10) (given (name_of setting) words) (default_of setting)

-- the words are in the plain form, and give each option a value that it may have
abbrev pub are_accepted : List Setting → List (List ℕ) → Bool
are_accepted settings words = is_plain settings words && list_all (λ setting. admits setting (value_of words setting)) settings

-- the options of a command with workers
abbrev pub for_workers : List Setting
for_workers = Workers ∷ Window ∷ []

-- the options of a command that passes frames through a channel
abbrev pub for_channel : List Setting
for_channel = Seed ∷ Noise ∷ []

-- the options of a command that makes its frames
abbrev pub for_demo : List Setting
for_demo = Seed ∷ Noise ∷ Frames ∷ Mcs ∷ Bandwidth ∷ Length ∷ Workers ∷ Window ∷ []

-- the rate of sample frames, by bandwidth and MCS index
abbrev pub rate_in : List (List ℕ) → Rate
rate_in words = rate_at (if value_of words Bandwidth == 40 then 1 else 0) (value_of words Mcs)

-- the demonstration that words ask for
abbrev pub demo_in : List (List ℕ) → Asked
demo_in words = Demo (value_of words Seed) (value_of words Noise) (value_of words Frames) (rate_in words) (value_of words Length)
    (value_of words Workers) (value_of words Window)

-- a command: its name, its options, and what it asks for where words give it these
pub record Row : Type 0 where
  pub name : List ℕ
  pub options : List Setting
  pub asks : List (List ℕ) → Asked

-- all commands, a row each
abbrev pub commands : List Row
commands =
    record { name = codes "detect"; options = for_workers; asks = λ words. Detect (value_of words Workers) (value_of words Window) }
    ∷ record { name = codes "rx"; options = for_workers; asks = λ words. Rx (value_of words Workers) (value_of words Window) }
    ∷ record { name = codes "soft"; options = for_workers; asks = λ words. Soft (value_of words Workers) (value_of words Window) }
    ∷ record { name = codes "many"; options = for_workers; asks = λ words. Many (value_of words Workers) (value_of words Window) }
    ∷ record { name = codes "tx"; options = []; asks = λ words. Tx }
    ∷ record { name = codes "channel"; options = for_channel; asks = λ words. Channel (value_of words Seed) (value_of words Noise) }
    ∷ record { name = codes "upgrade"; options = []; asks = λ words. Upgrade }
    ∷ record { name = codes "certify"; options = []; asks = λ words. Certify }
    ∷ record { name = codes "check"; options = []; asks = λ words. Check }
    ∷ record { name = codes "lchannel"; options = for_channel; asks = λ words. LegacyChannel (value_of words Seed) (value_of words Noise) }
    ∷ record { name = codes "lrx"; options = for_workers; asks = λ words. LegacyRx (value_of words Workers) (value_of words Window) }
    ∷ record { name = codes "demo"; options = for_demo; asks = demo_in }
    ∷ []

-- what is asked, where the words are accepted
abbrev pub only_if : {A : Type 0} → Bool → A → Option A
only_if accepted asked = if accepted then Some asked else None

-- what the command of these that has this name asks for, where the words give some of its options
abbrev pub asked_of : List Row → List ℕ → List (List ℕ) → Option Asked
asked_of [] command words = None
asked_of (row ∷ rows) command words =
    if bytes_eq command row.name then only_if (are_accepted row.options words) (row.asks words) else asked_of rows command words

-- the first word is a command, and the others give its options
abbrev pub asked_by : List (List ℕ) → Option Asked
asked_by [] = None
asked_by (command ∷ words) = asked_of commands command words

-- what the words ask for, or none where they aren't accepted
abbrev pub asked : List (String Global) → Option Asked
asked words = asked_by (map string_bytes words)

-- numbers of workers and jobs that a call may have
abbrev pub IsForWorkers : ℕ → ℕ → Type 0
IsForWorkers workers window = (1 ≤ workers) × (workers ≤ 64) × (1 ≤ window) × (window ≤ 4096)

-- what is asked is in the range of each option, as far as its type doesn't say so
abbrev pub IsWithinRanges : Asked → Type 0
IsWithinRanges (Detect workers window) = IsForWorkers workers window
IsWithinRanges (Rx workers window) = IsForWorkers workers window
IsWithinRanges (Soft workers window) = IsForWorkers workers window
IsWithinRanges (Many workers window) = IsForWorkers workers window
IsWithinRanges (LegacyRx workers window) = IsForWorkers workers window
IsWithinRanges (Demo seed noise frames rate length workers window) =
    (1 ≤ frames) × (frames ≤ 64) × (1 ≤ length) × (length ≤ 65535) × IsForWorkers workers window
IsWithinRanges _ = ⊤
