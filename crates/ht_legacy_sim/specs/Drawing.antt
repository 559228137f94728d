-- The simulated channel of clause 18 frames: a random diagonal for each subcarrier, and what is received with random noise.
use Rattle.std.specs.Prelude.{ℕ, ◌+◌, ◌%◌, List, [], ◌∷◌, length, slice_index_or}
use Rattle.ht_pam.specs.declared.point.Point.{Point}
use Rattle.ht_metric.specs.declared.complex.Complex.{Complex}
use Rattle.ht_metric.specs.Distance.{scaled}
use Rattle.ht_clause18.specs.Carriers.{carriers}
use Rattle.ht_clause18.specs.Frames.{LegacyFrameView}
use Rattle.ht_clause18.specs.Points.{sent_points}
use Rattle.ht_legacy_files.specs.CaptureFiles.{LegacyCapture}
use Rattle.ht_sim.specs.Channel.{diagonal_of, sample_drawn}
use Rattle.ht_sim.specs.Draws.{Drawn, drawn, each, several}
use Rattle.ht_sim.specs.Words.{first, next, word}

-- a diagonal
abbrev pub diagonal_drawn : ℕ → Drawn ℕ
diagonal_drawn z = drawn (diagonal_of (word z)) (next z)

-- what is received without noise of points in the order symbol, subcarrier, of which the first has this place: the point
-- at place i is on subcarrier i mod 52, and is received as its diagonal times the point
abbrev pub exact_from : List ℕ → ℕ → List Point → List Complex
exact_from diagonals place [] = []
exact_from diagonals place (x ∷ xs) = scaled (slice_index_or diagonals (place % carriers) 0) x ∷ exact_from diagonals (place + 1) xs

-- the capture of a frame: first its diagonals are drawn, and then the noise of its samples
unfoldable pub capture_drawn : ℕ → LegacyFrameView → ℕ → Drawn LegacyCapture
capture_drawn noise f z =
    let diagonals = several diagonal_drawn carriers z in
    let samples = each (sample_drawn noise) (exact_from diagonals.value 0 (sent_points f)) diagonals.state in
    drawn (record { head = record { rate = f.rate; length = length f.octets; diagonals = diagonals.value }; samples = samples.value }) samples.state

-- the captures of frames, all of whose words come from one generator
unfoldable pub captures_of : ℕ → ℕ → List LegacyFrameView → List LegacyCapture
captures_of seed noise frames = (each (capture_drawn noise) frames (first seed)).value
