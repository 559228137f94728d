-- Files of frames as lists of fields.
use Rattle.std.specs.Prelude.{ℕ, List, [], ◌∷◌}
use Rattle.ht_fields.specs.Grammar.{Grammar}
use Rattle.ht_rate.specs.declared.rates.Rate.{Rate}
use Rattle.ht_tx.specs.Frames.{FrameView}
use Rattle.ht_heads.specs.Heads.{head_octets}
use Rattle.ht_counted.specs.Framed.{FrameState, Seed, Framing, framed_due}
use Rattle.ht_files.specs.HeadedFormats.{HeadBody, HeadState, Bandwidth, Behind, HeadedFormat, grammar_of}

-- `HTTX`
abbrev pub frames_magic : List ℕ
frames_magic = 72 ∷ 84 ∷ 84 ∷ 88 ∷ []

-- which field of a frame is due
abbrev pub FrameBody : Type 0
FrameBody = HeadBody (FrameState Rate)

-- how frames stand in a file: behind a head of four octets, with 1 to 65535 octets
abbrev pub framing : Framing FrameBody Rate FrameView
framing = record {
  head = head_octets;
  width = 4;
  most = 65535;
  behind = Behind;
  frame = λ p. record { rate = p.rate; seed = p.seed; octets = p.octets };
  parts = λ f. record { rate = f.rate; seed = f.seed; octets = f.octets };
}

abbrev pub framed : HeadedFormat (FrameState Rate) FrameView
framed = record { magic = frames_magic; first = Seed; due = framed_due Bandwidth framing }

-- the format
abbrev pub frames : Grammar (HeadState (FrameState Rate)) FrameView
frames = grammar_of framed
