-- Files of clause 18 frames with heads: what is due in the head of each frame, and behind it.
use Rattle.std.specs.Prelude.{ℕ, List, [], slice_index_or}
use Rattle.byteorder.specs.Endian.{big_number}
use Rattle.ht_io.specs.declared.faults.Kind.TheVariants.{BadLength, BadMcs}
use Rattle.ht_fields.specs.Grammar.{Grammar, Due, field, Verdict, Good}
use Rattle.ht_fields.specs.Tests.{checked, is_above, octet_of}
use Rattle.ht_heads.specs.declared.starting.Limits.{Limits}
use Rattle.ht_heads.specs.Starts.{StartState, Body, is_outside}
use Rattle.ht_counted.specs.Counted.{CountedFormat, counted, entries_due, frame_limits}
use Rattle.ht_clause18.specs.declared.rates.LegacyRate.{LegacyRate}
use Rattle.ht_clause18.specs.declared.rates.LegacyRate.TheVariants.{Mbit54}
use Rattle.ht_clause18.specs.Rates.{all_rates}

-- which field of a frame is due: the index of its rate, by the number of frames that are left, this one among them; the
-- number of its octets; or one behind these
pub data HeadBody (B : Type 0) : Type 0 where
  Index : ℕ → HeadBody B
  Length : ℕ → LegacyRate → HeadBody B
  Behind : B → HeadBody B

-- which field of a file is due
abbrev pub HeadState : Type 0 → Type 0
HeadState B = StartState (HeadBody B)

-- a field behind the head of a frame
abbrev pub behind_head : {B : Type 0} → B → HeadState B
behind_head b = Body (Behind b)

-- a format: its magic, what is due behind the head of a frame (by the frames that are left, rate and length), and in each state there
pub record HeadedFormat (B I : Type 0) : Type 0 where
  pub magic : List ℕ
  pub first : ℕ → LegacyRate → ℕ → B
  pub due : B → Due (HeadState B) I

-- 1 to 4095 octets in a frame
abbrev pub length_limits : Limits
length_limits = record { width = 2; least = 1; most = 4095; kind = BadLength }

-- the rate of an index up to 7
abbrev pub rate_at : ℕ → LegacyRate
rate_at index = slice_index_or all_rates index Mbit54

-- where frames are left, the next one begins with the index of its rate; else the file ends
abbrev pub frames_due : {B : Type 0} → ℕ → HeadState B
frames_due = entries_due Index

-- what the octets of a field mean that are not at fault
unfoldable pub good_index : {B I : Type 0} → ℕ → List ℕ → Verdict (HeadState B) I
good_index left octets = Good (Body (Length left (rate_at (octet_of octets)))) []

unfoldable pub good_length : {B I : Type 0} → HeadedFormat B I → ℕ → LegacyRate → List ℕ → Verdict (HeadState B) I
good_length h left rate octets = Good (behind_head (h.first left rate (big_number 2 octets))) []

abbrev pub head_due : {B I : Type 0} → HeadedFormat B I → HeadBody B → Due (HeadState B) I
head_due h (Index left) = field 1 (checked BadMcs (is_above 7) (good_index left))
head_due h (Length left rate) = field 2 (checked BadLength (is_outside length_limits) (good_length h left rate))
head_due h (Behind b) = h.due b

-- the format as one that counts its frames
abbrev pub headed : {B I : Type 0} → HeadedFormat B I → CountedFormat (HeadBody B) I
headed h = record { magic = h.magic; limits = frame_limits; first = Index; due = head_due h }

-- the format as a grammar
abbrev pub grammar_of : {B I : Type 0} → HeadedFormat B I → Grammar (HeadState B) I
grammar_of h = counted (headed h)
