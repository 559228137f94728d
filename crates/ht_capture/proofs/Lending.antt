-- Blocks of a symbol, and what is lent to them.
use Rattle.std.proofs.Common.{◌≡◌, ℕ, ◌+◌, ◌<◌, ◌≤◌, List, [], ◌∷◌, ◌++◌, length, take, drop, get_or, nat_lt, Bool, true, false, if◌then◌else◌, refl, sym}
use Rattle.std.proofs.Common.{ap, subst, ◌∙◌, arith}
use Rattle.std.specs.Prelude.{Result, Ok, Err, MatchResult}
use Rattle.std.proofs.lemmas.List.{append_assoc, get_or-drop, get_or-take, length-take-le}
use Rattle.ht_io.specs.Devices.{Device, IsLater}
use Rattle.ht_io.specs.declared.faults.InFault.{InFault}
use Rattle.ht_io.specs.declared.faults.InFault.TheVariants.{Format, Read, NoMemory}
use Rattle.ht_io.proofs.Calls.{takes-none}
use Rattle.ht_fields.specs.Meanings.{Meaning, before, meaning}
use Rattle.ht_fields.specs.Readers.{ReaderView, Gives}
use Rattle.ht_fields.proofs.Joins.{gives_more}
use Rattle.ht_fields.proofs.Halting.{gives_halts}
use Rattle.ht_capture.specs.declared.block_item.BlockItem.{BlockItem}
use Rattle.ht_capture.specs.declared.block_item.BlockItem.TheVariants.{Frame, Block, Done}
use Rattle.ht_capture.specs.declared.items.Item.{Item}
use Rattle.ht_capture.specs.declared.items.Item.TheVariants.{Frame as FrameItem}
use Rattle.ht_rate.specs.declared.rates.Rate.{Rate}
use Rattle.ht_rate.specs.Rates.{carriers_of, streams_of}
use Rattle.ht_capture.specs.declared.lent.Lent.{Lent}
use Rattle.ht_capture.specs.declared.lent.Lent.TheVariants.{Nothing, Before, Current}
use Rattle.ht_capture.specs.declared.places.Present.{Present}
use Rattle.ht_capture.specs.declared.places.Turn.{Turn}
use Rattle.ht_capture.specs.declared.places.SymbolTurn.{SymbolTurn}
use Rattle.ht_capture.specs.declared.stage.Stage.{Stage}
use Rattle.ht_capture.specs.declared.stage.Stage.TheVariants.{Giving, NextFrame, NextSymbol}
use Rattle.ht_capture.specs.Blocks.{CountsPart, GivesBlockItem, IsPartOf, KeepsLent, Lends, LendsFrame, StopsBlocks, items_in}
use Rattle.ht_capture.specs.Fields.{captures, next_symbol, next_turn, symbol_due}
use Rattle.ht_capture.specs.Parts.{SymbolPart, part_of, symbol_part}
use Rattle.ht_capture.specs.Reading.{AreSeen}
use Rattle.ht_capture.specs.Readers.{Counts, Progress, SymbolFits, counted, counts, counts_at, jobs_left, shown_at, shown_by, stage_after, symbol_octets}
use Rattle.ht_capture.proofs.Sharing.{part_first, part_length}
use Rattle.ht_capture.proofs.Turns.{gives_completes}

-- the symbol that is lent is one of its frame
of_frame : (part : SymbolPart) (lent : Lent) → Lends part lent → LendsFrame part.head part.present lent
of_frame part Nothing is = tt
of_frame part (Before symbol) is = is
of_frame part (Current symbol) is = record { head = ap (λ (p : SymbolPart). p.head) is; present = ap (λ (p : SymbolPart). p.present) is }

kept_by : (b : Bool) (due : SymbolTurn) (turn : Turn) (present : List Present) (samples : List ℕ) (lent : Lent)
    → LendsFrame due.head (take due.count present) lent → KeepsLent (if b then NextSymbol due else NextFrame turn) present samples lent
kept_by true due turn present samples lent is = is
kept_by false due turn present samples lent is = tt

-- and stays so behind the symbol
pub kept_after : (due : SymbolTurn) (present : List Present) (samples : List ℕ) (lent : Lent) → Lends (symbol_part due present samples) lent
    → KeepsLent (stage_after due) present samples lent
unfolding next_symbol
kept_after due present samples lent is =
    kept_by (nat_lt (due.symbol + 1) due.symbols) (next_symbol due) (next_turn (next_symbol due).turn) present samples lent
    (of_frame (symbol_part due present samples) lent is)

-- a part of the symbol is given
pub gives_part : (due : SymbolTurn) (k count at : ℕ) (present : List Present) (samples : List ℕ) (left : Device ℕ)
    → k + count ≤ due.count → due.count ≤ length present
    → Gives (shown_at (Giving due k) at present samples left) (shown_at (Giving due (k + count)) at present samples left)
    (items_in (part_of (symbol_part due present samples) k count))
unfolding jobs_left
gives_part due k count at present samples left inside within =
    let whole = symbol_part due present samples in
    let items = items_in (part_of whole k count) in
    let size : length (take due.count present) ≡ due.count = length-take-le due.count present within in
    let rest = jobs_left due (k + count) (take due.count present) (take (symbol_octets due) samples) in
    let first : jobs_left due k (take due.count present) (take (symbol_octets due) samples) ≡ items ++ rest =
    part_first whole k count (omega (arith, size, inside)) in
    record {
      taken = [];
      octets = takes-none left;
      place = omega arith;
      means = λ more. let later : Meaning Item = meaning captures (symbol_due (next_symbol due) (take due.count present)) at more in
          ap (λ (xs : List Item). before xs later) first
          ∙ ap (λ (xs : List Item). let m : Meaning Item = record { items = xs; fault = later.fault } in m) (append_assoc items rest later.items);
    }

pub gives_given : (due : SymbolTurn) (k count : ℕ) (old mid : Progress) (new : ReaderView Item) (left : Device ℕ) (symbol part : SymbolPart)
    → old.stage ≡ Giving due k → mid ≡ old → k + count ≤ due.count → due.count ≤ length old.present
    → symbol ≡ symbol_part due old.present old.samples → part ≡ part_of symbol k count
    → shown_at (Giving due (k + count)) mid.at mid.present mid.samples left ≡ new
    → Gives (shown_by old left) new (items_in part)
gives_given due k count old mid new left symbol part stage same inside within is made behind =
    let whole : part ≡ part_of (symbol_part due old.present old.samples) k count = made ∙ ap (λ (s : SymbolPart). part_of s k count) is in
    let later : shown_at (Giving due (k + count)) old.at old.present old.samples left ≡ new =
    ap (λ (r : Progress). shown_at (Giving due (k + count)) r.at r.present r.samples left) (sym same) ∙ behind in
    subst (λ (s : Stage). Gives (shown_at s old.at old.present old.samples left) new (items_in part)) (sym stage)
    (subst (λ (v : ReaderView Item). Gives (shown_at (Giving due k) old.at old.present old.samples left) v (items_in part)) later
    (subst (λ (p : SymbolPart). Gives (shown_at (Giving due k) old.at old.present old.samples left)
    (shown_at (Giving due (k + count)) old.at old.present old.samples left) (items_in p)) (sym whole)
    (gives_part due k count old.at old.present old.samples left inside within)))

-- its subcarriers are those of its frame
seen_part : (rate : Rate) (total k count : ℕ) (present : List Present) → k + count ≤ total → AreSeen rate total present
    → AreSeen rate count (take count (drop k (take total present)))
seen_part rate total k count present inside seen = λ d j lt.
    let below : k + j < total = omega (arith, lt, inside) in
    let at : get_or (take count (drop k (take total present))) j d ≡ get_or present (k + j) d =
    get_or-take count (drop k (take total present)) j d lt
    ∙ (get_or-drop k (take total present) j d ∙ get_or-take total present (k + j) d below) in
    subst (λ (p : Present). (p.carrier < carriers_of rate) × (length p.triangle ≡ streams_of rate)) (sym at) (seen d (k + j) below)

pub placed_part : (due : SymbolTurn) (k count at : ℕ) (old : Progress) (symbol part : SymbolPart) → SymbolFits due 1 at old.present
    → k + count ≤ due.count → due.count ≤ length old.present
    → symbol ≡ symbol_part due old.present old.samples → part ≡ part_of symbol k count → IsPartOf due part
placed_part due k count at old symbol part fits inside within is made =
    let whole : part ≡ part_of (symbol_part due old.present old.samples) k count = made ∙ ap (λ (s : SymbolPart). part_of s k count) is in
    let size : length (take due.count old.present) ≡ due.count = length-take-le due.count old.present within in
    let count_is : length (take count (drop k (take due.count old.present))) ≡ count =
    part_length (take due.count old.present) k count (omega (arith, size, inside)) in
    subst (IsPartOf due) (sym whole) (record {
      head = refl;
      symbol = refl;
      symbols = subst (λ n. due.symbol < n) fits.frame.whole fits.symbol;
      carriers = subst (λ n. AreSeen due.head.rate n (take count (drop k (take due.count old.present)))) (sym count_is)
          (seen_part due.head.rate due.count k count old.present inside fits.frame.seen);
    })

-- it has as many as were asked for
pub part_size : (due : SymbolTurn) (k count : ℕ) (old : Progress) (symbol part : SymbolPart) → k + count ≤ due.count → due.count ≤ length old.present
    → symbol ≡ symbol_part due old.present old.samples → part ≡ part_of symbol k count → length part.present ≡ count
part_size due k count old symbol part inside within is made =
    let whole : part ≡ part_of (symbol_part due old.present old.samples) k count = made ∙ ap (λ (s : SymbolPart). part_of s k count) is in
    let size : length (take due.count old.present) ≡ due.count = length-take-le due.count old.present within in
    ap (λ (p : SymbolPart). length p.present) whole ∙ part_length (take due.count old.present) k count (omega (arith, size, inside))

-- and is numbered on
pub counted_part : (due : SymbolTurn) (k count most : ℕ) (old new : Progress) (symbol part : SymbolPart) → old.stage ≡ Giving due k → 1 ≤ count
    → count ≤ most → symbol ≡ symbol_part due old.present old.samples → part ≡ part_of symbol k count → length part.present ≡ count
    → counts new ≡ counted (due.turn.frame + 1) (due.turn.number + (k + count)) → CountsPart most (counts old) (counts new) part
counted_part due k count most old new symbol part stage some few is made size behind =
    let whole : part ≡ part_of (symbol_part due old.present old.samples) k count = made ∙ ap (λ (s : SymbolPart). part_of s k count) is in
    let before : counts old ≡ counted (due.turn.frame + 1) (due.turn.number + k) = ap (λ (s : Stage). counts_at s) stage in
    let jobs : due.turn.number + (k + count) ≡ due.turn.number + k + length part.present = omega (arith, size) in
    record {
      some = omega (arith, size, some);
      few = omega (arith, size, few);
      number = ap (λ (p : SymbolPart). p.number) whole ∙ sym (ap (λ (c : Counts). c.jobs) before);
      given = behind ∙ (ap (λ (n : ℕ). counted (due.turn.frame + 1) n) jobs
          ∙ sym (ap (λ (c : Counts). counted c.frames (c.jobs + length part.present)) before));
    }

gives_block_item : (old mid new : ReaderView Item) (item : BlockItem) → Gives old mid [] → GivesBlockItem mid new item → GivesBlockItem old new item
gives_block_item old mid new (Frame head) a b = gives_more old mid new [] (FrameItem head ∷ []) a b
gives_block_item old mid new (Block part) a b = gives_more old mid new [] (items_in part) a b
gives_block_item old mid new Done a b = gives_completes old mid new.source a b

stops_behind : (old mid new : ReaderView Item) (fault : InFault) → Gives old mid [] → IsLater old.source mid.source
    → StopsBlocks mid new fault → StopsBlocks old new fault
stops_behind old mid new (Format fault) a later b = gives_halts old mid new.source (Format fault) a later b
stops_behind old mid new Read a later b = gives_halts old mid new.source Read a later b
stops_behind old mid new NoMemory a later b = gives_more old mid new [] [] a b

-- octets that give no item, and then an answer
pub gives_block_answer : (old mid new : ReaderView Item) (answer : Result BlockItem InFault)
    → Gives old mid [] → IsLater old.source mid.source
    → MatchResult answer (GivesBlockItem mid new) (StopsBlocks mid new) → MatchResult answer (GivesBlockItem old new) (StopsBlocks old new)
gives_block_answer old mid new (Ok item) a later b = gives_block_item old mid new item a b
gives_block_answer old mid new (Err fault) a later b = stops_behind old mid new fault a later b
