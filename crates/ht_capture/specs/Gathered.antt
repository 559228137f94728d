-- Where a reader stands among the fields of a frame, and what reading one of them comes to.
use Rattle.std.specs.Prelude.{◌≡◌, ℕ, ◌+◌, List, [], ◌∷◌, ◌++◌, take, Result}
use Rattle.ht_io.specs.Devices.{Device}
use Rattle.ht_io.specs.declared.faults.InFault.{InFault}
use Rattle.ht_fields.specs.Readers.{ReaderView}
use Rattle.ht_fields.specs.WholeFiles.{ReadsTo}
use Rattle.ht_rate.specs.declared.rates.Rate.{Rate}
use Rattle.ht_rate.specs.Rates.{streams_of}
use Rattle.ht_metric.specs.Rows.{Leg}
use Rattle.ht_capture.specs.declared.carriers.Gathered.{Gathered}
use Rattle.ht_capture.specs.declared.items.FrameHead.{FrameHead}
use Rattle.ht_capture.specs.declared.items.Item.{Item}
use Rattle.ht_capture.specs.declared.places.Present.{Present}
use Rattle.ht_capture.specs.declared.places.SymbolTurn.{SymbolTurn}
use Rattle.ht_capture.specs.declared.places.Turn.{Turn}
use Rattle.ht_capture.specs.Fields.{Symbol, Triangle, carriers_due, head_given, next_symbol, symbol_due}
use Rattle.ht_capture.specs.Frames.{jobs_at}
use Rattle.ht_capture.specs.Reading.{here}
use Rattle.ht_capture.specs.Systems.{triangle_octets}

-- in front of a subcarrier, behind those that were gathered; behind the last one, in front of the first symbol
abbrev pub at_carrier : Turn → FrameHead → ℕ → List Present → Gathered → Device ℕ → ReaderView Item
at_carrier turn head carrier present so_far source = here (carriers_due turn head carrier (take so_far.count present)) so_far.at source

-- in front of the triangle of a subcarrier that is present
abbrev pub at_triangle : Turn → FrameHead → ℕ → List Present → Gathered → Device ℕ → ReaderView Item
at_triangle turn head carrier present so_far source = here (Triangle turn head carrier (take so_far.count present)) so_far.at source

-- What a call comes to that reads on to the end of a subcarrier. Where the answer is Ok, the next subcarrier is due, behind those
-- that are present now, and behind the last one the head is given. Where it is a fault, the reading stopped on the way, before
-- any item.
abbrev pub ReadsCarrier : Result Gathered InFault → ReaderView Item → Turn → FrameHead → ℕ → List Present → Device ℕ → Type 0
ReadsCarrier result old turn head carrier present after =
    ReadsTo result old (λ so_far. at_carrier turn head (carrier + 1) present so_far after) (λ so_far. head_given head (carrier + 1)) after

-- What a call comes to that reads a triangle at this offset, of any subcarrier of a frame of this rate. Where the answer is Ok,
-- its subcarrier is present, and the next one is due behind it, or behind the last one the head is given. Where it is a fault,
-- the reading stopped in the triangle, before any item.
abbrev pub ReadsTriangle : Result (List Leg) InFault → Rate → ℕ → Device ℕ → Device ℕ → Type 0
ReadsTriangle result rate at before after =
    (turn : Turn) (head : FrameHead) (carrier : ℕ) (present : List Present) → head.rate ≡ rate
    → ReadsTo result (here (Triangle turn head carrier present) at before)
    (λ legs. here (carriers_due turn head (carrier + 1) (present ++ record { carrier = carrier; triangle = legs } ∷ []))
    (at + triangle_octets (streams_of rate)) after)
    (λ legs. head_given head (carrier + 1)) after

-- What a call comes to that reads the samples of a symbol at this offset, whichever subcarriers are present. Where the answer is
-- Ok, these octets were the samples: their jobs are given, and the next symbol is due behind them. Where it is a fault, the
-- reading stopped in the samples, before any job.
abbrev pub ReadsSymbol : Result ℕ InFault → SymbolTurn → List ℕ → ℕ → Device ℕ → Device ℕ → Type 0
ReadsSymbol result due octets at before after =
    (present : List Present) → ReadsTo result (here (Symbol due present) at before)
    (λ behind. here (symbol_due (next_symbol due) present) behind after)
    (λ behind. jobs_at due.head due.symbol due.turn.number present octets 0) after
