-- The simulated channel: random triangles, and what is received through them with random noise.
use Rattle.std.specs.Prelude.{ℕ, zero, suc, ◌+◌, ◌*◌, ◌%◌, ℤ, pos, ◌+ℤ◌, ◌-ℤ◌, List, [], ◌∷◌, ◌++◌, length, take, drop}
use Rattle.ht_pam.specs.declared.point.Point.{Point}
use Rattle.ht_rate.specs.declared.rates.Rate.{Rate}
use Rattle.ht_rate.specs.Rates.{carriers_of, streams_of, symbols_of}
use Rattle.ht_metric.specs.declared.complex.Complex.{Complex}
use Rattle.ht_metric.specs.declared.sample.Sample.{Sample}
use Rattle.ht_metric.specs.declared.tap.Tap.{Tap}
use Rattle.ht_metric.specs.Distance.{combined, plus, scaled}
use Rattle.ht_metric.specs.Rows.{Leg}
use Rattle.ht_capture.specs.declared.frames.CaptureFrame.{CaptureFrame}
use Rattle.ht_tx.specs.Symbols.{SymbolsView}
use Rattle.ht_sim.specs.Words.{first, next, word}
use Rattle.ht_sim.specs.Draws.{Drawn, drawn, each, several}

-- a diagonal, from 64 to 255
abbrev pub diagonal_of : ℕ → ℕ
diagonal_of w = 64 + w % 192

-- a part of an entry, from -64 to 64
abbrev pub entry_part_of : ℕ → ℤ
entry_part_of w = pos (w % 129) -ℤ pos 64

-- a part of the noise, at most `noise` to either side
abbrev pub noise_of : ℕ → ℕ → ℤ
noise_of noise w = pos (w % (2 * noise + 1)) -ℤ pos noise

-- an entry: its real part is drawn first
unfoldable pub tap_drawn : ℕ → Drawn Tap
tap_drawn z = drawn (record { re = entry_part_of (word z); im = entry_part_of (word (next z)) }) (next (next z))

-- the last rows of a triangle, this number of them: each its diagonal, and then the entries to its right
abbrev pub legs_drawn : ℕ → ℕ → Drawn (List Leg)
legs_drawn zero z = drawn [] z
legs_drawn (suc below) z =
    let right = several tap_drawn below (next z) in
    let legs = legs_drawn below right.state in
    drawn (record { diagonal = diagonal_of (word z); right = right.value } ∷ legs.value) legs.state

-- the triangle of a number of streams
unfoldable pub triangle_drawn : ℕ → ℕ → Drawn (List Leg)
triangle_drawn streams z = legs_drawn streams z

-- the triangles of the subcarriers
abbrev pub triangles_drawn : Rate → ℕ → Drawn (List (List Leg))
triangles_drawn rate z = several (triangle_drawn (streams_of rate)) (carriers_of rate) z

-- what a row makes of the points from its own on, without noise
abbrev pub row_mixed : Leg → List Point → Complex
row_mixed leg [] = record { re = pos 0; im = pos 0 }
row_mixed leg (x ∷ xs) = plus (scaled leg.diagonal x) (combined leg.right xs)

-- what a triangle makes of a vector, row by row
abbrev pub mixed : List Leg → List Point → List Complex
mixed [] points = []
mixed (leg ∷ legs) points = row_mixed leg points ∷ mixed legs (drop 1 points)

-- what the triangles make of the vectors of a symbol, which have one point for each stream
abbrev pub symbol_mixed : ℕ → List (List Leg) → List Point → List Complex
symbol_mixed streams [] points = []
symbol_mixed streams (t ∷ ts) points = mixed t (take streams points) ++ symbol_mixed streams ts (drop streams points)

-- and of the vectors of a number of symbols
abbrev pub symbols_mixed : ℕ → ℕ → List (List Leg) → List Point → List Complex
symbols_mixed zero streams ts points = []
symbols_mixed (suc n) streams ts points =
    symbol_mixed streams ts (take (length ts * streams) points) ++ symbols_mixed n streams ts (drop (length ts * streams) points)

-- a sample with its noise: the real part's is drawn first
unfoldable pub sample_drawn : ℕ → Complex → ℕ → Drawn Sample
sample_drawn noise exact z =
    drawn (record { re = exact.re +ℤ noise_of noise (word z); im = exact.im +ℤ noise_of noise (word (next z)) }) (next (next z))

-- the samples of a frame whose subcarriers have these triangles
abbrev pub samples_drawn : ℕ → SymbolsView → List (List Leg) → ℕ → Drawn (List Sample)
samples_drawn noise s ts z = each (sample_drawn noise) (symbols_mixed (symbols_of s.rate s.length) (streams_of s.rate) ts s.points) z

-- the capture of a frame: first its triangles are drawn, and then the noise of its samples
unfoldable pub frame_drawn : ℕ → SymbolsView → ℕ → Drawn CaptureFrame
frame_drawn noise s z =
    let triangles = triangles_drawn s.rate z in
    let samples = samples_drawn noise s triangles.value triangles.state in
    drawn (record { rate = s.rate; length = s.length; erased = 0; triangles = triangles.value; samples = samples.value }) samples.state

-- the captures of frames, all of whose words come from one generator
unfoldable pub captures_of : ℕ → ℕ → List SymbolsView → List CaptureFrame
captures_of seed noise frames = (each (frame_drawn noise) frames (first seed)).value
