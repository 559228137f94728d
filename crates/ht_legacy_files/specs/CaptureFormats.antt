-- Captures of clause 18 frames as lists of fields.
use Rattle.std.specs.Prelude.{ℕ, zero, suc, ◌-◌, ◌*◌, List, [], ◌∷◌, drop, nat_eq, if◌then◌else◌}
use Rattle.byteorder.specs.Endian.{big_number}
use Rattle.ht_fields.specs.Grammar.{Grammar, Due, field, Verdict, Good}
use Rattle.ht_metric.specs.declared.sample.Sample.{Sample}
use Rattle.ht_capture.specs.Numbers.{sample_at}
use Rattle.ht_clause18.specs.declared.rates.LegacyRate.{LegacyRate}
use Rattle.ht_clause18.specs.Carriers.{carriers}
use Rattle.ht_clause18.specs.Rates.{symbols_of}
use Rattle.ht_legacy_files.specs.HeadedFormats.{HeadBody, HeadState, HeadedFormat, behind_head, frames_due, grammar_of}
use Rattle.ht_legacy_files.specs.CaptureItems.{LegacyItem, Begins, Symbol}

-- which field is due behind the rate and the length of a frame: the diagonals; or the samples of a symbol, by the number of
-- its symbols that are left, this one among them
pub data CaptureBody : Type 0 where
  Diagonals : ℕ → LegacyRate → ℕ → CaptureBody
  Samples : ℕ → ℕ → CaptureBody

-- which field of a frame is due
abbrev pub CaptureState : Type 0
CaptureState = HeadBody CaptureBody

-- `LGCP`
abbrev pub captures_magic : List ℕ
captures_magic = 76 ∷ 71 ∷ 67 ∷ 80 ∷ []

-- this many numbers of two octets
abbrev pub numbers_from : ℕ → List ℕ → List ℕ
numbers_from zero octets = []
numbers_from (suc n) octets = big_number 2 octets ∷ numbers_from n (drop 2 octets)

-- this many samples
abbrev pub samples_from : ℕ → List ℕ → List Sample
samples_from zero octets = []
samples_from (suc n) octets = sample_at octets 0 ∷ samples_from n (drop 8 octets)

-- where frames are left, the next one begins with the index of its rate; else the file ends
abbrev pub captures_due : ℕ → HeadState CaptureBody
captures_due = frames_due

-- where symbols are left, the samples of the next one; else the next frame
unfoldable pub symbols_due : ℕ → ℕ → HeadState CaptureBody
symbols_due left symbols = if nat_eq symbols 0 then captures_due (left - 1) else behind_head (Samples left symbols)

-- what the octets of a field mean; behind the diagonals the head of the frame is whole
unfoldable pub good_diagonals : ℕ → LegacyRate → ℕ → List ℕ → Verdict (HeadState CaptureBody) LegacyItem
good_diagonals left rate len octets =
    Good (symbols_due left (symbols_of rate len)) (Begins (record { rate = rate; length = len; diagonals = numbers_from carriers octets }) ∷ [])

unfoldable pub good_samples : ℕ → ℕ → List ℕ → Verdict (HeadState CaptureBody) LegacyItem
good_samples left symbols octets = Good (symbols_due left (symbols - 1)) (Symbol (samples_from carriers octets) ∷ [])

-- The diagonals are one field, and so are the samples of a symbol, since none of them can be at fault.
abbrev pub body_due : CaptureBody → Due (HeadState CaptureBody) LegacyItem
body_due (Diagonals left rate len) = field (carriers * 2) (good_diagonals left rate len)
body_due (Samples left symbols) = field (carriers * 8) (good_samples left symbols)

abbrev pub captured : HeadedFormat CaptureBody LegacyItem
captured = record { magic = captures_magic; first = Diagonals; due = body_due }

-- the format
abbrev pub captures : Grammar (HeadState CaptureBody) LegacyItem
captures = grammar_of captured
