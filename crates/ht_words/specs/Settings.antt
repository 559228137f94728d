-- The options that commands have: their names, values and defaults.
use Rattle.std.specs.Prelude.{ℕ, ◌-◌, ◌^◌, ◌==◌, ◌&&◌, ◌||◌, Bool, List, ◌++◌, codes, nat_le}
use Rattle.ht_words.specs.declared.setting.Setting.{Setting}
use Rattle.ht_words.specs.declared.setting.Setting.TheVariants.{Workers, Window, Seed, Noise, Frames, Mcs, Bandwidth, Length}

-- the value is from least to most
abbrev pub is_within : ℕ → ℕ → ℕ → Bool
is_within least most value = nat_le least value && nat_le value most

-- an option: its name without dashes, the digits of its default, their value, and the values that it may have
pub record Row : Type 0 where
  pub name : List ℕ
  pub digits : List ℕ
  pub default : ℕ
  pub admits : ℕ → Bool

-- the table of all options
abbrev pub row_of : Setting → Row
row_of Workers = record { name = codes "workers"; digits = codes "4"; default = 4; admits = is_within 1 64 }
row_of Window = record { name = codes "window"; digits = codes "256"; default = 256; admits = is_within 1 4096 }
row_of Seed = record { name = codes "seed"; digits = codes "42"; default = 42; admits = is_within 0 (2 ^ 64 - 1) }
row_of Noise = record { name = codes "noise"; digits = codes "0"; default = 0; admits = is_within 0 65535 }
row_of Frames = record { name = codes "frames"; digits = codes "8"; default = 8; admits = is_within 1 64 }
row_of Mcs = record { name = codes "mcs"; digits = codes "0"; default = 0; admits = is_within 0 31 }
row_of Bandwidth = record { name = codes "bandwidth"; digits = codes "20"; default = 20; admits = λ value. value == 20 || value == 40 }
row_of Length = record { name = codes "length"; digits = codes "100"; default = 100; admits = is_within 1 65535 }

-- the name of an option, without its dashes
abbrev pub plain_name_of : Setting → List ℕ
plain_name_of setting = (row_of setting).name

-- the word that names an option
abbrev pub name_of : Setting → List ℕ
name_of setting = codes "--" ++ plain_name_of setting

-- the value of an option that isn't given
abbrev pub default_of : Setting → ℕ
default_of setting = (row_of setting).default

-- the digits of this value
abbrev pub default_text_of : Setting → List ℕ
default_text_of setting = (row_of setting).digits

-- an option may have this value
abbrev pub admits : Setting → ℕ → Bool
admits setting = (row_of setting).admits
