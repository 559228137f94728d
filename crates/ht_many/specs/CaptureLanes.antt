-- Lanes of captures, and what each does with its own devices.
use Rattle.std.specs.Prelude.{◌≡◌, ℕ, ◌<◌, List, [], length, slice_index_or, None, Bool, is_some, Result}
use Rattle.ht_io.specs.Devices.{Device}
use Rattle.ht_fields.specs.Meanings.{Meaning}
use Rattle.ht_metric.specs.Jobs.{JobView}
use Rattle.ht_capture.specs.declared.items.FrameHead.{FrameHead}
use Rattle.ht_capture.specs.Captures.{capture_of}
use Rattle.ht_capture_blocks.specs.declared.block.CaptureBlock.{CaptureBlock}
use Rattle.ht_capture_blocks.specs.declared.reader.CaptureReader.{CaptureReader}
use Rattle.ht_capture_blocks.specs.Captures.{capture_at, capture_means, mapped}
use Rattle.ht_runs.specs.declared.faults.RunFault.{RunFault}
use Rattle.ht_feed.specs.declared.ended.Ended.{Ended}
use Rattle.ht_feed.specs.InFlights.{in_flight_view}
use Rattle.ht_feed.specs.Dues.{jobs_in}
use Rattle.ht_feed.specs.Items.{Item}
use Rattle.ht_feed.specs.Telling.{Seen}
use Rattle.ht_lanes.specs.declared.in_flight_lane.InFlightLane.{InFlightLane}
use Rattle.ht_lanes.specs.InFlightLanes.{LeadsOn, ended_so, is_over, seen_of}
use Rattle.ht_lanes.specs.Lanes.{AllLead, Side, Sides}
use Rattle.ht_many.specs.KeptFrames.{KeptFrames, lines_left}

-- a lane of a capture, as contracts see it, whatever it keeps of its frames
abbrev pub LaneOf : Type 0 → Type 0
LaneOf K = InFlightLane CaptureReader K FrameHead CaptureBlock

abbrev pub Lane : Type 0
Lane = LaneOf KeptFrames

-- what the octets mean that still come to a reader, and how many it read
abbrev pub reader_means : CaptureReader → List ℕ → Meaning (Item FrameHead)
reader_means it = capture_means it.reader

abbrev pub reader_at : CaptureReader → ℕ
reader_at it = capture_at it.reader

module _ {K : Type 0} where
  -- it takes no answers any more; it gives no blocks any more; the blocks that it waits for
  abbrev pub lane_rests : LaneOf K → Bool
  lane_rests l = is_some l.failed

  abbrev pub lane_over : LaneOf K → Bool
  lane_over l = is_over l.failed l.in_flight.stop

  abbrev pub lane_due : LaneOf K → List (List JobView)
  lane_due l = jobs_in l.in_flight.due

  -- what the receiving of its capture came to
  abbrev pub lane_answer : LaneOf K → Result Ended RunFault
  lane_answer l = ended_so l.failed l.in_flight.stop l.in_flight.frames l.in_flight.count

-- no line of a whole frame is still to be put
abbrev pub lane_finished : Lane → Type 0
lane_finished l = lines_left l.consumer [] ≡ []

-- how contracts see the source and the sink of a lane
module _ {S K : Type 0} (source : S → Device ℕ) (sink : K → Device ℕ) where
  abbrev pub lane_seen : Side Lane S K → Seen FrameHead ℕ
  lane_seen = seen_of reader_means reader_at lines_left source sink

  -- what one lane did with its devices: what was read of its capture, which hits were taken, and which lines were put
  abbrev pub LaneLeads : Side Lane S K → Side Lane S K → Type 0
  LaneLeads = LeadsOn reader_means reader_at lines_left source sink

  -- each lane did what its own devices and its own blocks made it do
  abbrev pub LanesLead : Sides Lane S K → Sides Lane S K → Type 0
  LanesLead = AllLead LaneLeads

-- it has read nothing of its capture
pub record IsNew (l : Lane) : Type 0 where
  pub reader : CaptureReader
  pub head : FrameHead
  pub in_flight : l.in_flight ≡ in_flight_view reader None head 0 [] 0
  pub means : (octets : List ℕ) → reader_means reader octets ≡ mapped (capture_of octets)
  pub at : reader_at reader ≡ 0
  pub none : l.consumer.under_way.left ≡ 0
  pub fresh : l.consumer.whole ≡ []
  pub well : l.failed ≡ None

abbrev pub AreNew : List Lane → Type 0
AreNew lanes = (l : Lane) (k : ℕ) → k < length lanes → IsNew (slice_index_or lanes k l)

-- this number of lanes, all of them new
pub record AreNewLanes (count : ℕ) (lanes : List Lane) : Type 0 where
  pub as_many : length lanes ≡ count
  pub new : AreNew lanes

-- new lanes, and as many sources and sinks
pub record AreOpen {S K : Type 0} (lanes : List Lane) (sources : List S) (sinks : List K) : Type 0 where
  pub new : AreNew lanes
  pub as_many_sources : length sources ≡ length lanes
  pub as_many_sinks : length sinks ≡ length lanes
