-- What is sent of a frame (IEEE Std 802.11-2012, clause 20.3.11).
use Rattle.std.specs.Prelude.{◌≡◌, ℕ, ◌^◌, ◌<◌, ◌≤◌, List, [], ◌∷◌, length, false, slice_index_or}
use Rattle.ht_rate.specs.declared.kinds.Carrier.{Carrier}
use Rattle.ht_rate.specs.declared.kinds.Carrier.TheVariants.{Data, Pilot}
use Rattle.ht_rate.specs.Carriers.{carrier_of}
use Rattle.ht_rate.specs.Rates.{modulation_of, label_bits_of, streams_of, carriers_of, symbols_of}
use Rattle.ht_pam.specs.declared.point.Point.{Point}
use Rattle.ht_map.specs.Gray.{label_bit, point_of}
use Rattle.ht_landing.specs.declared.landings.Landing.{Landing}
use Rattle.ht_landing.specs.Landings.{Lands}
use Rattle.ht_tx.specs.Frames.{FrameView}
use Rattle.ht_tx.specs.Symbols.{IsSymbols, SymbolsView, pilot_point, point_at}
use Rattle.ht_tx.specs.Coded.{coded_of}

-- a bit of a label
abbrev pub label_bit_at : ℕ → ℕ → ℕ → ℕ → Landing
label_bit_at symbol carrier stream bit = record { symbol = symbol; stream = stream; carrier = carrier; bit = bit }

-- the label of a symbol, data subcarrier and stream: each of its bits is the coded bit that lands there
pub record IsLabelOf (f : FrameView) (symbol carrier stream label : ℕ) : Type 0 where
  pub below : label < 2 ^ label_bits_of f.rate
  pub bits :
      (j q bit : ℕ) → Lands f.rate j q (label_bit_at symbol carrier stream bit)
      → label_bit (modulation_of f.rate) label bit ≡ slice_index_or (coded_of f j) q false

-- the point of this label
pub record IsPointOf (f : FrameView) (symbol carrier stream : ℕ) (point : Point) : Type 0 where
  pub label : ℕ
  pub landed : IsLabelOf f symbol carrier stream label
  pub mapped : point ≡ point_of (modulation_of f.rate) label

-- a data subcarrier carries the point of its label, and a pilot its value
abbrev pub Carries : FrameView → ℕ → Carrier → ℕ → Point → Type 0
Carries f symbol (Data m) stream point = IsPointOf f symbol m stream point
Carries f symbol (Pilot k) stream point = point ≡ pilot_point f.rate symbol k stream

-- the symbols of a frame: each point is the one that its subcarrier carries
pub record IsTransmitted (f : FrameView) (sent : SymbolsView) : Type 0 where
  pub rate : sent.rate ≡ f.rate
  pub octets : sent.length ≡ length f.octets
  pub points :
      (symbol carrier stream : ℕ) → symbol < symbols_of f.rate (length f.octets) → carrier < carriers_of f.rate
      → 1 ≤ stream → stream ≤ streams_of f.rate
      → Carries f symbol (carrier_of f.rate carrier) stream (point_at f.rate sent.points symbol carrier stream)

-- the symbols of frames, one after another, each with the points that its rate and its length ask for
abbrev pub AreTransmitted : List FrameView → List SymbolsView → Type 0
AreTransmitted [] [] = Unit {0}
AreTransmitted [] (s ∷ sent) = ⊥
AreTransmitted (f ∷ frames) [] = ⊥
AreTransmitted (f ∷ frames) (s ∷ sent) = IsTransmitted f s × IsSymbols s.rate s.length s.points × AreTransmitted frames sent
