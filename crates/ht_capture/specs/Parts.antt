-- The jobs of some subcarriers of a symbol that was read.
use Rattle.std.specs.Prelude.{◌≡◌, ℕ, ◌+◌, ◌*◌, ◌≤◌, ◌<◌, ◌^◌, List, [], ◌∷◌, length, get_or, map, take, drop}
use Rattle.std.specs.List.{All}
use Rattle.ht_rate.specs.Carriers.{IsAmong, carrier_of}
use Rattle.ht_rate.specs.Rates.{carriers_of, streams_of}
use Rattle.ht_metric.specs.Jobs.{JobView}
use Rattle.ht_capture.specs.declared.items.FrameHead.{FrameHead}
use Rattle.ht_capture.specs.declared.places.Present.{Present}
use Rattle.ht_capture.specs.declared.places.SymbolTurn.{SymbolTurn}
use Rattle.ht_capture.specs.declared.template.Template.{Template}
use Rattle.ht_capture.specs.Frames.{carrier_octets, grid_at, job_at}
use Rattle.ht_capture.specs.Presents.{present_of}

-- the jobs of these subcarriers of a symbol, numbered from a number on; their samples stand in the octets from a place on
unfoldable pub views_at : FrameHead → ℕ → ℕ → List Present → List ℕ → ℕ → List JobView
views_at head symbol number [] octets at = []
views_at head symbol number (p ∷ ps) octets at =
    job_at head symbol number p octets at ∷ views_at head symbol (number + 1) ps octets (at + carrier_octets head.rate)

-- some subcarriers of a symbol, or all of them: the frame's head, the symbol's number in the frame, that of the first job
-- in the capture, the subcarriers, and the octets of their samples
pub record SymbolPart : Type 0 where
  pub head : FrameHead
  pub symbol : ℕ
  pub number : ℕ
  pub present : List Present
  pub octets : List ℕ

-- the jobs that it stands for
abbrev pub jobs_of : SymbolPart → List JobView
jobs_of part = views_at part.head part.symbol part.number part.present part.octets 0

-- the job of one of its subcarriers
abbrev pub job_in : SymbolPart → ℕ → Present → JobView
job_in part k d = job_at part.head part.symbol (part.number + k) (get_or part.present k d) part.octets (k * carrier_octets part.head.rate)

-- of a part that begins behind this number of subcarriers and has that many
abbrev pub part_of : SymbolPart → ℕ → ℕ → SymbolPart
part_of whole first count = record {
  head = whole.head;
  symbol = whole.symbol;
  number = whole.number + first;
  present = take count (drop first whole.present);
  octets = take (count * carrier_octets whole.head.rate) (drop (first * carrier_octets whole.head.rate) whole.octets);
}

-- another symbol of the same frame, with the octets of its samples
abbrev pub moved : SymbolPart → ℕ → ℕ → List ℕ → SymbolPart
moved part symbol number octets = record { head = part.head; symbol = symbol; number = number; present = part.present; octets = octets }

-- the symbol whose samples stand in front of these octets
abbrev pub symbol_part : SymbolTurn → List Present → List ℕ → SymbolPart
symbol_part due present samples = record {
  head = due.head;
  symbol = due.symbol;
  number = due.turn.number;
  present = take due.count present;
  octets = take (due.count * carrier_octets due.head.rate) samples;
}

-- each subcarrier has the octets of its samples, no subcarrier is one too many, and the jobs' numbers fit
pub record IsSymbol (part : SymbolPart) : Type 0 where
  pub few : length part.present ≤ 114
  pub octets : length part.octets ≡ length part.present * carrier_octets part.head.rate
  pub numbers : part.number + length part.present < 2 ^ 64

-- what the symbols of a frame share
pub record ShapeView : Type 0 where
  pub head : FrameHead
  pub present : List Present

-- the subcarriers of these templates
abbrev pub presents_of : List Template → List Present
presents_of templates = map (λ t. present_of t.job) templates

-- a job of a subcarrier of the frame; its grid is that of symbol 0, which is that of each symbol but on pilots
pub record IsTemplate (head : FrameHead) (t : Template) : Type 0 where
  pub frame : t.job.place.frame ≡ head.frame
  pub carrier : t.job.place.carrier < carriers_of head.rate
  pub kind : t.kind ≡ carrier_of head.rate t.job.place.carrier
  pub among : IsAmong head.rate t.kind
  pub grid : t.job.grid ≡ grid_at head.rate 0 t.job.place.carrier
  pub streams : length t.job.system ≡ streams_of head.rate

-- the templates of a frame
pub record AreTemplates (head : FrameHead) (templates : List Template) : Type 0 where
  pub few : length templates ≤ 114
  pub each : All (IsTemplate head) templates
