-- Clause 18 frames that were received exactly: each sample is its subcarrier's diagonal times the point that was sent.
use Rattle.std.specs.Prelude.{◌≡◌, ◌<◌, ◌^◌, List, length, map, All}
use Rattle.ht_metric.specs.Distance.{received}
use Rattle.ht_clause18.specs.Carriers.{carriers}
use Rattle.ht_clause18.specs.Frames.{LegacyFrameView}
use Rattle.ht_clause18.specs.Points.{sent_points}
use Rattle.ht_legacy_files.specs.CaptureFiles.{LegacyCapture}
use Rattle.ht_legacy_sim.specs.Drawing.{exact_from}
use Rattle.ht_round.specs.Exact.{PairByPair}

-- the octets are numbers below 256
abbrev pub HoldOctets : List LegacyFrameView → Type 0
HoldOctets frames = All (λ f. All (λ octet. octet < 2 ^ 8) f.octets) frames

-- A frame as it was received: each of the 52 subcarriers has a diagonal of 16 bits that isn't 0, and the samples are the
-- diagonals times the points that are sent.
pub record IsExact (f : LegacyFrameView) (c : LegacyCapture) : Type 0 where
  pub rate : c.head.rate ≡ f.rate
  pub octets : c.head.length ≡ length f.octets
  pub count : length c.head.diagonals ≡ carriers
  pub some : All (λ d. 0 < d) c.head.diagonals
  pub small : All (λ d. d < 2 ^ 16) c.head.diagonals
  pub samples : map received c.samples ≡ exact_from c.head.diagonals 0 (sent_points f)

-- frame by frame
abbrev pub AreExact : List LegacyFrameView → List LegacyCapture → Type 0
AreExact frames captured = PairByPair IsExact frames captured
