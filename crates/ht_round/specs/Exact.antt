-- Frames that were received exactly: each sample is what a triangle makes of the points that were sent.
use Rattle.std.specs.Prelude.{◌≡◌, ◌⊎◌, ◌<◌, ℕ, List, [], ◌∷◌, length, map, All}
use Rattle.ht_rate.specs.Rates.{carriers_of, streams_of, symbols_of}
use Rattle.ht_metric.specs.Distance.{received}
use Rattle.ht_metric.specs.Rows.{Leg}
use Rattle.ht_capture.specs.declared.frames.CaptureFrame.{CaptureFrame}
use Rattle.ht_capture.specs.Contents.{AreTriangles, AreTyped, IsVersion}
use Rattle.ht_capture.specs.Files.{AreCaptureFrames, HasAllCarriers, capture_file_of}
use Rattle.ht_files.specs.Files.{AreFrames}
use Rattle.ht_tx.specs.Frames.{FrameView}
use Rattle.ht_tx.specs.Symbols.{SymbolsView}
use Rattle.ht_tx.specs.Transmitted.{AreTransmitted}
use Rattle.ht_round.specs.Returns.{AreOctets}
use Rattle.ht_sim.specs.Channel.{symbols_mixed}

-- the frames have octets: numbers below 256
abbrev pub HoldOctets : List FrameView → Type 0
HoldOctets frames = All (λ f. AreOctets f.octets) frames

-- no diagonal is 0
abbrev pub HasFullDiagonal : List Leg → Type 0
HasFullDiagonal legs = All (λ leg. 0 < leg.diagonal) legs

-- A frame as it was received of these symbols: all of its subcarriers are present, each has a triangle of as many rows
-- as there are streams, without a 0 on its diagonal, and the samples are what the triangles make of the points.
pub record IsExact (s : SymbolsView) (f : CaptureFrame) : Type 0 where
  pub rate : f.rate ≡ s.rate
  pub length_is : f.length ≡ s.length
  pub whole : HasAllCarriers f
  pub count : length f.triangles ≡ carriers_of f.rate
  pub triangles : AreTriangles (streams_of f.rate) f.triangles
  pub diagonals : All HasFullDiagonal f.triangles
  pub samples : map received f.samples ≡ symbols_mixed (symbols_of s.rate s.length) (streams_of s.rate) f.triangles s.points

-- as many of one kind as of the other, and pair by pair they belong together
abbrev pub PairByPair : {A B : Type 0} → (A → B → Type 0) → List A → List B → Type 0
PairByPair Belong [] [] = Unit {0}
PairByPair Belong [] (b ∷ bs) = ⊥
PairByPair Belong (a ∷ more) [] = ⊥
PairByPair Belong (a ∷ more) (b ∷ bs) = Belong a b × PairByPair Belong more bs

-- frame by frame
abbrev pub AreExact : List SymbolsView → List CaptureFrame → Type 0
AreExact sent captured = PairByPair IsExact sent captured

-- frames that a file can have, which hold octets; the symbols that are sent for them; and what is received of these symbols
-- exactly, for a capture of version 1 or 2
abbrev pub ArriveExactly : ℕ → List FrameView → List SymbolsView → List CaptureFrame → Type 0
ArriveExactly version frames sent captured =
    ((version ≡ 1) ⊎ (version ≡ 2)) × AreFrames frames × HoldOctets frames × AreTransmitted frames sent × AreExact sent captured

-- The capture is also that of other frames, in a version that they can have: such frames are read of it. They are written
-- again in version 1 or 2.
abbrev pub AreWrittenAgain : ℕ → List CaptureFrame → ℕ → List CaptureFrame → ℕ → Type 0
AreWrittenAgain version captured other others into =
    ((into ≡ 1) ⊎ (into ≡ 2)) × AreCaptureFrames others × AreTyped others × IsVersion other others
    × (capture_file_of version captured ≡ capture_file_of other others)
