-- Frames of random octets.
use Rattle.std.specs.Prelude.{ℕ, ◌+◌, ◌%◌, List}
use Rattle.ht_rate.specs.declared.rates.Rate.{Rate}
use Rattle.ht_tx.specs.Frames.{FrameView}
use Rattle.ht_sim.specs.Words.{first, next, word}
use Rattle.ht_sim.specs.Draws.{Drawn, drawn, several}

-- the seed of a scrambler, from 1 to 127
abbrev pub scrambler_of : ℕ → ℕ
scrambler_of w = 1 + w % 127

-- an octet
abbrev pub octet_drawn : ℕ → Drawn ℕ
octet_drawn z = drawn (word z % 256) (next z)

-- a frame of this number of octets: first the seed of its scrambler is drawn, and then the octets
unfoldable pub sample_frame_drawn : Rate → ℕ → ℕ → Drawn FrameView
sample_frame_drawn rate len z =
    let octets = several octet_drawn len (next z) in drawn (record { rate = rate; seed = scrambler_of (word z); octets = octets.value }) octets.state

-- a number of frames, all of whose words come from one generator
unfoldable pub frames_drawn : ℕ → Rate → ℕ → ℕ → List FrameView
frames_drawn seed rate len count = (several (sample_frame_drawn rate len) count (first seed)).value
