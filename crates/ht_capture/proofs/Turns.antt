-- What is due at the joints of a capture.
use Rattle.std.specs.Prelude.{Result, Ok, Err, MatchResult}
use Rattle.std.proofs.Common.{◌≡◌, ℕ, ◌+◌, ◌<◌, ◌≤◌, List, [], ◌∷◌, ◌++◌, length}
use Rattle.std.proofs.Common.{nat_eq, nat_lt, Bool, true, false, refl, sym, ap, subst, ◌∙◌, arith}
use Rattle.std.proofs.lemmas.Bool.Decides.{nat_tests}
use Rattle.ht_io.specs.declared.faults.InFault.{InFault}
use Rattle.ht_fields.specs.Grammar.{Good}
use Rattle.ht_io.specs.declared.faults.InFault.TheVariants.{NoMemory}
use Rattle.ht_fields.specs.Readers.{ReaderView, Gives, Finishes, Completes}
use Rattle.ht_fields.proofs.Joins.{gives_none, gives_more}
use Rattle.ht_io.proofs.Calls.{takes-all}
use Rattle.ht_io.specs.Devices.{Device, IsLater}
use Rattle.ht_fields.specs.Meanings.{before}
use Rattle.ht_metric.specs.Rows.{Leg}
use Rattle.ht_rate.specs.declared.rates.Rate.{Rate}
use Rattle.ht_rate.specs.Rates.{carriers_of, streams_of, symbols_of}
use Rattle.ht_capture.specs.Systems.{triangle_octets, triangle_of}
use Rattle.ht_capture.specs.declared.items.FrameHead.{FrameHead}
use Rattle.ht_capture.specs.declared.items.Item.{Item}
use Rattle.ht_capture.specs.declared.items.Item.TheVariants.{Frame, Job, Done}
use Rattle.ht_capture.specs.declared.places.Present.{Present}
use Rattle.ht_capture.specs.declared.places.Turn.{Turn}
use Rattle.ht_capture.specs.declared.places.SymbolTurn.{SymbolTurn}
use Rattle.ht_capture.specs.Frames.{erase, jobs_at}
use Rattle.ht_capture.specs.Fields.{CaptureState, Bandwidth, Flag, Triangle, Symbol, Over, turn_due}
use Rattle.ht_capture.specs.Fields.{carrier_due, carriers_due, first_symbol, head_given, judge_symbol, next_symbol, symbol_due}
use Rattle.ht_capture.specs.Readers.{GivesItem, symbol_octets}
use Rattle.ht_capture.proofs.Grids.{asks_legs, ones}
use Rattle.ht_capture.proofs.Judges.{good_triangle}
use Rattle.ht_capture.specs.Reading.{Flagged, IsGood, ReachesCarrier, SameFrame, here}
use Rattle.ht_fields.proofs.Halting.{gives_halts}
use Rattle.ht_fields.specs.WholeFiles.{Caused, StopsWithCause}
use Rattle.ht_fields.proofs.Choices.{when_true, when_false}

pub frame_is : (turn : Turn) → 0 < turn.left → turn_due turn ≡ Bandwidth turn
unfolding turn_due
frame_is turn some = let t : nat_eq turn.left 0 ≡ false = grind (arith, nat_tests) in when_false _ _ _ t

pub over_is : (turn : Turn) → turn.left ≡ 0 → turn_due turn ≡ Over
unfolding turn_due
over_is turn none = let t : nat_eq turn.left 0 ≡ true = grind (arith, nat_tests) in when_true _ _ _ t

pub carrier_is : (turn : Turn) (head : FrameHead) (carrier : ℕ) (present : List Present) → carrier < carriers_of head.rate
    → carriers_due turn head carrier present ≡ carrier_due turn head carrier present
unfolding carriers_due
carrier_is turn head carrier present lt = let t : nat_lt carrier (carriers_of head.rate) ≡ true = grind (arith, nat_tests) in when_true _ _ _ t

pub flag_is : (turn : Turn) (head : FrameHead) (carrier : ℕ) (present : List Present) → carrier < carriers_of head.rate → turn.version ≡ 2
    → carriers_due turn head carrier present ≡ Flag turn head carrier present
flag_is turn head carrier present lt two = let t : nat_eq turn.version 2 ≡ true = grind (arith, nat_tests) in
    carrier_is turn head carrier present lt ∙ when_true _ _ _ t

pub triangle_is : (turn : Turn) (head : FrameHead) (carrier : ℕ) (present : List Present) → carrier < carriers_of head.rate → (turn.version ≡ 2 → ⊥)
    → carriers_due turn head carrier present ≡ Triangle turn head carrier present
triangle_is turn head carrier present lt not = let t : nat_eq turn.version 2 ≡ false = grind (arith, nat_tests) in
    carrier_is turn head carrier present lt ∙ when_false _ _ _ t

pub symbol_is : (turn : Turn) (head : FrameHead) (carrier : ℕ) (present : List Present) → carriers_of head.rate ≤ carrier
    → carriers_due turn head carrier present ≡ Symbol (first_symbol turn head (length present)) present
unfolding carriers_due
symbol_is turn head carrier present le = let t : nat_lt carrier (carriers_of head.rate) ≡ false = grind (arith, nat_tests) in when_false _ _ _ t

pub none_given : (head : FrameHead) (carrier : ℕ) → carrier < carriers_of head.rate → head_given head carrier ≡ []
unfolding head_given
none_given head carrier lt = let t : nat_lt carrier (carriers_of head.rate) ≡ true = grind (arith, nat_tests) in when_true _ _ _ t

pub one_given : (head : FrameHead) (carrier : ℕ) → carriers_of head.rate ≤ carrier → head_given head carrier ≡ Frame head ∷ []
unfolding head_given
one_given head carrier le = let t : nat_lt carrier (carriers_of head.rate) ≡ false = grind (arith, nat_tests) in when_false _ _ _ t

pub same_erased : (head other : FrameHead) (carrier : ℕ) → other ≡ erase head carrier → SameFrame other head
unfolding erase
same_erased head other carrier e = (ap (λ (h : FrameHead). h.frame) e, ap (λ (h : FrameHead). h.rate) e, ap (λ (h : FrameHead). h.length) e)

-- the same state by another name
pub gives_from : (s t : CaptureState) (at : ℕ) (left : Device ℕ) (new : ReaderView Item) (items : List Item)
    → s ≡ t → Gives (here t at left) new items → Gives (here s at left) new items
gives_from s t at left new items e g = subst (λ (x : CaptureState). Gives (here x at left) new items) (sym e) g

pub gives_to : (old : ReaderView Item) (s t : CaptureState) (at place : ℕ) (left : Device ℕ) (items : List Item)
    → s ≡ t → at ≡ place → Gives old (here s at left) items → Gives old (here t place left) items
gives_to old s t at place left items e p g =
    subst (λ (x : CaptureState). Gives old (here x place left) items) e (subst (λ (n : ℕ). Gives old (here s n left) items) p g)

pub halts_from : (s t : CaptureState) (at : ℕ) (left after : Device ℕ) (fault : InFault)
    → s ≡ t → StopsWithCause (here t at left) after fault → StopsWithCause (here s at left) after fault
halts_from s t at left after fault e h = subst (λ (x : CaptureState). StopsWithCause (here x at left) after fault) (sym e) h

pub gives_items : (old new : ReaderView Item) (items others : List Item) → items ≡ others → Gives old new items → Gives old new others
gives_items old new items others e g = subst (λ (x : List Item). Gives old new x) e g

-- what was read of a flag, by its value
pub flagged_true : (due : CaptureState) (turn : Turn) (head : FrameHead) (carrier : ℕ) (present : List Present) (at later : ℕ) (left after : Device ℕ)
    (b : Bool) → b ≡ true → Flagged due turn head carrier present at later left after b
    → ReachesCarrier (here due at left) turn (erase head carrier) (carrier + 1) present later after
flagged_true due turn head carrier present at later left after b e g = subst (λ (x : Bool). Flagged due turn head carrier present at later left after x) e g

pub flagged_false : (due : CaptureState) (turn : Turn) (head : FrameHead) (carrier : ℕ) (present : List Present) (at later : ℕ) (left after : Device ℕ)
    (b : Bool) → b ≡ false → Flagged due turn head carrier present at later left after b
    → Gives (here due at left) (here (Triangle turn head carrier present) later after) []
flagged_false due turn head carrier present at later left after b e g =
    subst (λ (x : Bool). Flagged due turn head carrier present at later left after x) e g

-- behind all subcarriers
pub carriers_over : (old : ReaderView Item) (turn : Turn) (head : FrameHead) (carrier count : ℕ) (present : List Present) (at : ℕ) (left : Device ℕ)
    → carriers_of head.rate ≤ carrier → length present ≡ count
    → Gives old (here (carriers_due turn head carrier present) at left) (head_given head carrier)
    → Gives old (here (Symbol (first_symbol turn head count) present) at left) (Frame head ∷ [])
carriers_over old turn head carrier count present at left le size g =
    gives_items old _ (head_given head carrier) (Frame head ∷ []) (one_given head carrier le)
    (gives_to old (carriers_due turn head carrier present) (Symbol (first_symbol turn head count) present) at at left (head_given head carrier)
    (symbol_is turn head carrier present le ∙ ap (λ n. Symbol (first_symbol turn head n) present) size) refl g)

-- before the last of them no item was given
pub carriers_so_far : (old : ReaderView Item) (turn : Turn) (head : FrameHead) (carrier : ℕ) (present : List Present) (at : ℕ) (left : Device ℕ)
    → carrier < carriers_of head.rate
    → Gives old (here (carriers_due turn head carrier present) at left) (head_given head carrier)
    → Gives old (here (carriers_due turn head carrier present) at left) []
carriers_so_far old turn head carrier present at left lt g = gives_items old _ _ [] (none_given head carrier lt) g

-- at first
pub carriers_first : (turn : Turn) (head : FrameHead) (at : ℕ) (left : Device ℕ) → 0 < carriers_of head.rate
    → Gives (here (carriers_due turn head 0 []) at left) (here (carriers_due turn head 0 []) at left) (head_given head 0)
carriers_first turn head at left some =
    gives_items _ _ [] (head_given head 0) (sym (none_given head 0 some)) (gives_none (here (carriers_due turn head 0 []) at left))

pub symbol_good : (due : SymbolTurn) (present : List Present) (octets : List ℕ)
    → judge_symbol due present octets ≡ Good (symbol_due (next_symbol due) present) (jobs_at due.head due.symbol due.turn.number present octets 0)
unfolding judge_symbol
symbol_good due present octets = refl

-- the end of the file is due
pub completes_over : (turn : Turn) (at : ℕ) (left after : Device ℕ) → turn.left ≡ 0
    → Finishes (here Over at left) after → Completes (here (turn_due turn) at left) after
completes_over turn at left after none f =
    subst (λ (s : CaptureState). Completes (here s at left) after) (sym (over_is turn none)) (record { taken = []; octets = f.octets; means = f.means })

pub halts_real : (old : ReaderView Item) (after : Device ℕ) (fault : InFault) → StopsWithCause old after fault → fault ≡ NoMemory → ⊥
halts_real old after fault h e = subst (λ (f : InFault). Caused old.source after f) e h.1

-- the samples of a symbol are a good field
pub symbol_field : (due : SymbolTurn) (present : List Present) (octets samples : List ℕ) → octets ≡ samples
    → length octets ≡ symbol_octets due → 1 ≤ length octets
    → IsGood (Symbol due present) octets (symbol_due (next_symbol due) present) (jobs_at due.head due.symbol due.turn.number present samples 0)
symbol_field due present octets samples same size some = (
  ones (length octets) _ size some,
  symbol_good due present octets
      ∙ ap (λ (o : List ℕ). Good (symbol_due (next_symbol due) present) (jobs_at due.head due.symbol due.turn.number present o 0)) same,
)

-- the octets of a triangle are a good field
pub triangle_field : (turn : Turn) (head : FrameHead) (carrier : ℕ) (present : List Present) (octets : List ℕ) (legs : List Leg) (rate : Rate)
    → head.rate ≡ rate → length octets ≡ triangle_octets (streams_of rate) → 2 ≤ length octets → legs ≡ triangle_of (streams_of rate) octets
    → IsGood (Triangle turn head carrier present) octets
    (carriers_due turn head (carrier + 1) (present ++ record { carrier = carrier; triangle = legs } ∷ [])) (head_given head (carrier + 1))
triangle_field turn head carrier present octets legs rate same width some is =
    (asks_legs (length octets) head.rate rate width same some, good_triangle turn head carrier present octets legs rate same is)

pub gives_completes : (old mid : ReaderView Item) (after : Device ℕ) → Gives old mid [] → Completes mid after → Completes old after
gives_completes old mid after a b = record {
  taken = a.taken ++ b.taken;
  octets = takes-all old.source mid.source after a.taken b.taken a.octets b.octets;
  means = a.means b.taken ∙ ap (before []) b.means;
}

-- octets that give no item, and then one
pub gives_item : (old mid new : ReaderView Item) (item : Item) → Gives old mid [] → GivesItem mid new item → GivesItem old new item
gives_item old mid new (Frame head) a b = gives_more old mid new [] (Frame head ∷ []) a b
gives_item old mid new (Job job) a b = gives_more old mid new [] (Job job ∷ []) a b
gives_item old mid new Done a b = gives_completes old mid new.source a b

-- octets that give no item, and then an answer
pub gives_answer : (old mid new : ReaderView Item) (after : Device ℕ) (answer : Result Item InFault)
    → Gives old mid [] → IsLater old.source mid.source
    → MatchResult answer (GivesItem mid new) (StopsWithCause mid after) → MatchResult answer (GivesItem old new) (StopsWithCause old after)
gives_answer old mid new after (Ok item) a later b = gives_item old mid new item a b
gives_answer old mid new after (Err fault) a later b = gives_halts old mid after fault a later b

-- the first symbol of a frame
pub symbol_made : (old : ReaderView Item) (turn : Turn) (head : FrameHead) (count symbols at : ℕ)
    (present : List Present) (left : Device ℕ) (items : List Item) → symbols ≡ symbols_of head.rate head.length
    → Gives old (here (Symbol (first_symbol turn head count) present) at left) items
    → Gives old (here (Symbol (record { turn = turn; head = head; symbol = 0; symbols = symbols; count = count }) present) at left) items
symbol_made old turn head count symbols at present left items is g =
    subst (λ (n : ℕ). let due : SymbolTurn = record { turn = turn; head = head; symbol = 0; symbols = n; count = count } in
    Gives old (here (Symbol due present) at left) items) (sym is) g
