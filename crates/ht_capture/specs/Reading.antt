-- What reading fields of a capture does to its source.
use Rattle.std.specs.Prelude.{◌≡◌, ℕ, ◌+◌, ◌<◌, List, [], ◌∷◌, length, take, get_or, Bool, true, false, Result, MatchResult}
use Rattle.ht_io.specs.Devices.{Device}
use Rattle.ht_io.specs.declared.faults.InFault.{InFault}
use Rattle.ht_fields.specs.Cases.{IsField}
use Rattle.ht_fields.specs.Grammar.{Good}
use Rattle.ht_fields.specs.Meanings.{meaning}
use Rattle.ht_fields.specs.Readers.{ReaderView, reader_in, Gives}
use Rattle.ht_fields.specs.WholeFiles.{StopsWithCause}
use Rattle.ht_rate.specs.declared.rates.Rate.{Rate}
use Rattle.ht_rate.specs.Rates.{carriers_of, streams_of}
use Rattle.ht_capture.specs.declared.items.FrameHead.{FrameHead}
use Rattle.ht_capture.specs.declared.items.Item.{Item}
use Rattle.ht_capture.specs.declared.items.Item.TheVariants.{Frame}
use Rattle.ht_capture.specs.declared.places.Present.{Present}
use Rattle.ht_capture.specs.declared.places.Turn.{Turn}
use Rattle.ht_capture.specs.declared.places.SymbolTurn.{SymbolTurn}
use Rattle.ht_capture.specs.Frames.{erase}
use Rattle.ht_capture.specs.Fields.{CaptureState, Bandwidth, Symbol, Triangle, capture_due, captures, carriers_due, head_given}

-- a reader in a state, at an offset, over this source
abbrev pub here : CaptureState → ℕ → Device ℕ → ReaderView Item
here state at source = reader_in captures state at source

-- these octets, from the head of a frame on, begin with this head
abbrev pub BeginWith : Turn → ℕ → List ℕ → FrameHead → Type 0
BeginWith turn at octets head = (more : List Item) × ((meaning captures (Bandwidth turn) at octets).items ≡ Frame head ∷ more)

-- the octets are the field that is due, which is good, and leads on
abbrev pub IsGood : CaptureState → List ℕ → CaptureState → List Item → Type 0
IsGood due octets next items = IsField (capture_due due) octets (Good next items)

-- what was read goes up to a subcarrier; behind the last one the head is given
abbrev pub ReachesCarrier : ReaderView Item → Turn → FrameHead → ℕ → List Present → ℕ → Device ℕ → Type 0
ReachesCarrier old turn head carrier present at after = Gives old (here (carriers_due turn head carrier present) at after) (head_given head carrier)

-- the subcarriers of a frame were read, as many as this symbol of it has: its head is given, and the symbol is due
abbrev pub ReachesSymbol : ReaderView Item → SymbolTurn → List Present → ℕ → Device ℕ → Type 0
ReachesSymbol old due present at after = Gives old (here (Symbol due (take due.count present)) at after) (Frame due.head ∷ [])

-- it is known whether the subcarrier is erased, by its flag or by the version: it is and the next one is due, or its triangle is due
abbrev pub Flagged : CaptureState → Turn → FrameHead → ℕ → List Present → ℕ → ℕ → Device ℕ → Device ℕ → Bool → Type 0
Flagged due turn head carrier present at later before after true =
    ReachesCarrier (here due at before) turn (erase head carrier) (carrier + 1) present later after
Flagged due turn head carrier present at later before after false = Gives (here due at before) (here (Triangle turn head carrier present) later after) []

-- What a call comes to that reads on to the first symbol of a frame. Where the answer is Ok, the head is given, and the symbol
-- is due where the answer says. Where it is a fault, the reading stopped on the way, before the head.
abbrev pub ReadsToSymbol : {A : Type 0} → Result A InFault → ReaderView Item → (A → SymbolTurn) → List Present → (A → ℕ) → Device ℕ → Type 0
ReadsToSymbol result old due present behind after =
    MatchResult result (λ answer. ReachesSymbol old (due answer) present (behind answer) after) (StopsWithCause old after)

-- What a call comes to that sees whether a subcarrier is erased, where this is due. Where the answer is Ok, a flag was read, or
-- the version has none. Where it is a fault, the reading stopped at the flag, before any item.
abbrev pub ReadsFlag : Result Bool InFault → CaptureState → Turn → FrameHead → ℕ → List Present → ℕ → ℕ → Device ℕ → Device ℕ → Type 0
ReadsFlag result due turn head carrier present at later before after =
    MatchResult result (Flagged due turn head carrier present at later before after) (StopsWithCause (here due at before) after)

-- the subcarriers that were kept are ones of the rate, and have its streams
abbrev pub AreSeen : Rate → ℕ → List Present → Type 0
AreSeen rate count present = (d : Present) (k : ℕ) → k < count
    → ((get_or present k d).carrier < carriers_of rate) × (length (get_or present k d).triangle ≡ streams_of rate)

-- the head's other fields are those of another
abbrev pub SameFrame : FrameHead → FrameHead → Type 0
SameFrame a b = (a.frame ≡ b.frame) × (a.rate ≡ b.rate) × (a.length ≡ b.length)
