-- Files of clause 18 frames as lists of fields.
use Rattle.std.specs.Prelude.{ℕ, List, [], ◌∷◌}
use Rattle.byteorder.specs.Endian.{big_bytes}
use Rattle.ht_fields.specs.Grammar.{Grammar}
use Rattle.ht_clause18.specs.declared.rates.LegacyRate.{LegacyRate}
use Rattle.ht_clause18.specs.Frames.{LegacyFrameView}
use Rattle.ht_clause18.specs.Rates.{index_of}
use Rattle.ht_counted.specs.Framed.{FrameState, Seed, Framing, framed_due}
use Rattle.ht_legacy_files.specs.HeadedFormats.{HeadBody, HeadState, Index, Behind, HeadedFormat, grammar_of}

-- `LGTX`
abbrev pub frames_magic : List ℕ
frames_magic = 76 ∷ 71 ∷ 84 ∷ 88 ∷ []

-- which field of a frame is due
abbrev pub FrameBody : Type 0
FrameBody = HeadBody (FrameState LegacyRate)

-- the index of the rate and the number of octets
abbrev pub head_octets : LegacyRate → ℕ → List ℕ
head_octets rate len = index_of rate ∷ big_bytes 2 len

-- how frames stand in a file: behind a head of three octets, with 1 to 4095 octets
abbrev pub framing : Framing FrameBody LegacyRate LegacyFrameView
framing = record {
  head = head_octets;
  width = 3;
  most = 4095;
  behind = Behind;
  frame = λ p. record { rate = p.rate; seed = p.seed; octets = p.octets };
  parts = λ f. record { rate = f.rate; seed = f.seed; octets = f.octets };
}

abbrev pub framed : HeadedFormat (FrameState LegacyRate) LegacyFrameView
framed = record { magic = frames_magic; first = Seed; due = framed_due Index framing }

-- the format
abbrev pub frames : Grammar (HeadState (FrameState LegacyRate)) LegacyFrameView
frames = grammar_of framed
