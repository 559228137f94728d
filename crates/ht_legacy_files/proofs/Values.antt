-- Worked values: the file of the octet a5 with seed 127 at 6 Mbit/s, the least file, and first faults.
use Rattle.std.proofs.Common.{◌≡◌, ℕ, List, [], ◌∷◌, Some, None, refl}
use Rattle.ht_io.specs.declared.faults.Kind.TheVariants.{BadLength, BadMcs, BadSeed, Truncated, Trailing}
use Rattle.ht_fields.specs.Meanings.{Meaning, meaning, meaning_of}
use Rattle.ht_fields.specs.Tests.{checked}
use Rattle.ht_clause18.specs.declared.rates.LegacyRate.TheVariants.{Mbit6}
use Rattle.ht_clause18.specs.Frames.{LegacyFrameView}
use Rattle.ht_heads.specs.Starts.{good_count, good_magic, good_version, is_outside, started_octets}
use Rattle.ht_counted.specs.Counted.{entries_due}
use Rattle.ht_counted.specs.Framed.{good_octets, good_seed}
use Rattle.ht_legacy_files.specs.HeadedFormats.{good_index, good_length}
use Rattle.ht_legacy_files.specs.Formats.{frames}
use Rattle.ht_legacy_files.specs.Files.{frames_file_of}

abbrev one_octet : LegacyFrameView
one_octet = record { rate = Mbit6; seed = 127; octets = 0xa5 ∷ [] }

-- the head of a file of one frame, and then these octets
abbrev behind_head : List ℕ → List ℕ
behind_head octets = 0x4c ∷ 0x47 ∷ 0x54 ∷ 0x58 ∷ 1 ∷ 0 ∷ 1 ∷ octets

one_file : frames_file_of (one_octet ∷ []) ≡ behind_head (0 ∷ 0 ∷ 1 ∷ 127 ∷ 0xa5 ∷ [])
unfolding frames_file_of started_octets
one_file = refl

least_file : frames_file_of [] ≡ 0x4c ∷ 0x47 ∷ 0x54 ∷ 0x58 ∷ 1 ∷ 0 ∷ 0 ∷ []
unfolding frames_file_of started_octets
least_file = refl

means : List ℕ → Meaning LegacyFrameView
means octets = meaning frames frames.start 0 octets

a_file : means (behind_head (0 ∷ 0 ∷ 1 ∷ 127 ∷ 0xa5 ∷ [])) ≡ record { items = one_octet ∷ []; fault = None }
unfolding means meaning meaning_of checked is_outside good_magic good_version good_count entries_due good_index good_length good_seed good_octets
a_file = refl

no_rate : (means (behind_head (8 ∷ 0 ∷ 1 ∷ 127 ∷ 0xa5 ∷ []))).fault ≡ Some (record { kind = BadMcs; offset = 7 })
unfolding means meaning meaning_of checked is_outside good_magic good_version good_count entries_due good_index
no_rate = refl

too_long : (means (behind_head (0 ∷ 16 ∷ 0 ∷ 127 ∷ []))).fault ≡ Some (record { kind = BadLength; offset = 8 })
unfolding means meaning meaning_of checked is_outside good_magic good_version good_count entries_due good_index good_length
too_long = refl

no_seed : (means (behind_head (0 ∷ 0 ∷ 1 ∷ 128 ∷ 0xa5 ∷ []))).fault ≡ Some (record { kind = BadSeed; offset = 10 })
unfolding means meaning meaning_of checked is_outside good_magic good_version good_count entries_due good_index good_length good_seed
no_seed = refl

cut_short : (means (behind_head (0 ∷ 0 ∷ 1 ∷ 127 ∷ []))).fault ≡ Some (record { kind = Truncated; offset = 11 })
unfolding means meaning meaning_of checked is_outside good_magic good_version good_count entries_due good_index good_length good_seed
cut_short = refl

one_more : (means (behind_head (0 ∷ 0 ∷ 1 ∷ 127 ∷ 0xa5 ∷ 0 ∷ []))).fault ≡ Some (record { kind = Trailing; offset = 12 })
unfolding means meaning meaning_of checked is_outside good_magic good_version good_count entries_due good_index good_length good_seed good_octets
one_more = refl
