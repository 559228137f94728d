-- Files of frames with heads: what is due in the head of each frame, and behind it.
use Rattle.std.specs.Prelude.{ℕ, List, []}
use Rattle.byteorder.specs.Endian.{big_number}
use Rattle.ht_io.specs.declared.faults.Kind.TheVariants.{BadBandwidth, BadMcs, BadLength}
use Rattle.ht_fields.specs.Grammar.{Grammar, Due, field, Verdict, Good}
use Rattle.ht_fields.specs.Tests.{checked, is_above, is_zero, octet_of}
use Rattle.ht_rate.specs.declared.rates.Rate.{Rate}
use Rattle.ht_rate.specs.Rates.{rate_at}
use Rattle.ht_heads.specs.Starts.{StartState, Body}
use Rattle.ht_counted.specs.Counted.{CountedFormat, counted, entries_due, frame_limits}

-- which field of a frame is due: one of its head, by the number of frames that are left, this one among them; or one
-- behind the head
pub data HeadBody (B : Type 0) : Type 0 where
  Bandwidth : ℕ → HeadBody B
  Mcs : ℕ → ℕ → HeadBody B
  Length : ℕ → Rate → HeadBody B
  Behind : B → HeadBody B

-- which field of a file is due
abbrev pub HeadState : Type 0 → Type 0
HeadState B = StartState (HeadBody B)

-- a field behind the head of a frame
abbrev pub behind_head : {B : Type 0} → B → HeadState B
behind_head b = Body (Behind b)

-- a format: its magic, what is due behind the head of a frame (by the frames that are left, rate and length), and in each state there
pub record HeadedFormat (B I : Type 0) : Type 0 where
  pub magic : List ℕ
  pub first : ℕ → Rate → ℕ → B
  pub due : B → Due (HeadState B) I

-- where frames are left, the next one begins with its bandwidth; else the file ends
abbrev pub frame_due : {B : Type 0} → ℕ → HeadState B
frame_due = entries_due Bandwidth

-- what the octets of a field mean that are not at fault
unfoldable pub good_bandwidth : {B I : Type 0} → ℕ → List ℕ → Verdict (HeadState B) I
good_bandwidth left octets = Good (Body (Mcs left (octet_of octets))) []

unfoldable pub good_mcs : {B I : Type 0} → ℕ → ℕ → List ℕ → Verdict (HeadState B) I
good_mcs left bandwidth octets = Good (Body (Length left (rate_at bandwidth (octet_of octets)))) []

unfoldable pub good_length : {B I : Type 0} → HeadedFormat B I → ℕ → Rate → List ℕ → Verdict (HeadState B) I
good_length h left rate octets = Good (behind_head (h.first left rate (big_number 2 octets))) []

abbrev pub head_due : {B I : Type 0} → HeadedFormat B I → HeadBody B → Due (HeadState B) I
head_due h (Bandwidth left) = field 1 (checked BadBandwidth (is_above 1) (good_bandwidth left))
head_due h (Mcs left bandwidth) = field 1 (checked BadMcs (is_above 31) (good_mcs left bandwidth))
head_due h (Length left rate) = field 2 (checked BadLength is_zero (good_length h left rate))
head_due h (Behind b) = h.due b

-- the format as one that counts its frames
abbrev pub headed : {B I : Type 0} → HeadedFormat B I → CountedFormat (HeadBody B) I
headed h = record { magic = h.magic; limits = frame_limits; first = Bandwidth; due = head_due h }

-- the format as a grammar
abbrev pub grammar_of : {B I : Type 0} → HeadedFormat B I → Grammar (HeadState B) I
grammar_of h = counted (headed h)
