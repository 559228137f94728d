-- What items can come from a state of a capture on.
use Rattle.std.proofs.Common.{◌≡◌, ◌⊎◌, inr, ℕ, suc, ◌+◌, ◌<◌, ◌≤◌, ◌^◌, List, [], ◌∷◌, ◌++◌, length}
use Rattle.std.proofs.Common.{map, flat_map, refl, sym, ap, subst, ◌∙◌, length-append, arith}
use Rattle.std.proofs.lemmas.List.{append-nil, map-append}
use Rattle.std.specs.List.{range_with_len, AllByRecursion}
use Rattle.ht_rate.specs.Rates.{carriers_of, streams_of}
use Rattle.ht_metric.specs.declared.place.Place.{Place}
use Rattle.ht_metric.specs.Jobs.{JobView}
use Rattle.ht_metric.proofs.RowLemmas.{length-rows_of}
use Rattle.ht_capture.specs.declared.items.FrameHead.{FrameHead}
use Rattle.ht_capture.specs.declared.items.Item.{Item}
use Rattle.ht_capture.specs.declared.items.Item.TheVariants.{Job}
use Rattle.ht_capture.specs.declared.places.Present.{Present}
use Rattle.ht_capture.specs.declared.places.SymbolTurn.{SymbolTurn}
use Rattle.ht_capture.specs.declared.places.Turn.{Turn}
use Rattle.ht_capture.specs.Frames.{carrier_octets, job_at, jobs_at}
use Rattle.ht_capture.specs.Fields.{CaptureState, Magic, Version, Count, Bandwidth, Mcs, Length, Flag, Triangle, Symbol, Over}
use Rattle.ht_capture_laws.specs.Items.{FrameJobs, IsHead, IsJobOf, items_in, place_in, present_below, symbol_places, symbols_in}
use Rattle.ht_capture_laws.proofs.Lists.{all_append, range_append}

-- the samples of a symbol are due
abbrev pub InSymbols : CaptureState → Type 0
InSymbols (Symbol due present) = Unit {0}
InSymbols (Magic x xs) = ⊥
InSymbols Version = ⊥
InSymbols (Count version) = ⊥
InSymbols (Bandwidth turn) = ⊥
InSymbols (Mcs turn bandwidth) = ⊥
InSymbols (Length turn rate) = ⊥
InSymbols (Flag turn head carrier present) = ⊥
InSymbols (Triangle turn head carrier present) = ⊥
InSymbols Over = ⊥

-- jobs with consecutive numbers from one on, which are those of `count` symbols from one on
pub record AreJobs (head : FrameHead) (number symbol count : ℕ) (jobs : List JobView) : Type 0 where
  pub numbers : map (λ (j : JobView). j.number) jobs ≡ range_with_len number (length jobs)
  pub places : map (λ (j : JobView). j.place) jobs ≡ flat_map (symbol_places head) (range_with_len symbol count)
  pub each : AllByRecursion (IsJobOf head) jobs

-- a frame with its number, whose jobs are those of its first `count` symbols
pub record IsFrame (frame number count : ℕ) (f : FrameJobs) : Type 0 where
  pub named : f.head.frame ≡ frame
  pub head : IsHead f.head
  pub jobs : AreJobs f.head number 0 count f.jobs

-- Frames from a frame and a job on, behind which a state was reached. Each is whole, but the last may be a front.
abbrev pub AreCaptureFrames : CaptureState → ℕ → ℕ → List FrameJobs → Type 0
AreCaptureFrames t frame number [] = Unit {0}
AreCaptureFrames t frame number (f ∷ fs) =
    (IsFrame frame number (symbols_in f.head) f × AreCaptureFrames t (frame + 1) (number + length f.jobs) fs)
    ⊎ ((count : ℕ) × (count < symbols_in f.head) × IsFrame frame number count f × (fs ≡ []) × InSymbols t)

abbrev pub made_of : FrameHead → List JobView → FrameJobs
made_of head jobs = record { head = head; jobs = jobs }

-- the items of such frames
abbrev pub Frames : CaptureState → ℕ → ℕ → List Item → Type 0
Frames t frame number items = (fs : List FrameJobs) × (items ≡ items_in fs) × AreCaptureFrames t frame number fs

-- the jobs of the symbols from one on, and then more frames, or the end of what was read
pub record Symbols (t : CaptureState) (due : SymbolTurn) (items : List Item) : Type 0 where
  pub jobs : List JobView
  pub later : List Item
  pub count : ℕ
  pub all : items ≡ map Job jobs ++ later
  pub good : AreJobs due.head due.turn.number due.symbol count jobs
  pub behind : ((due.symbol + count ≡ due.symbols) × Frames t (due.turn.frame + 1) (due.turn.number + length jobs) later)
      ⊎ ((due.symbol + count < due.symbols) × (later ≡ []) × InSymbols t)

-- what was read of the subcarriers below one
pub record Gathered (turn : Turn) (head : FrameHead) (carrier : ℕ) (present : List Present) : Type 0 where
  pub named : head.frame ≡ turn.frame
  pub some : 1 ≤ head.length
  pub marks : head.erased < 2 ^ carrier
  pub carriers : map (λ (p : Present). p.carrier) present ≡ present_below carrier head.erased
  pub legs : AllByRecursion (λ (p : Present). length p.triangle ≡ streams_of head.rate) present

-- the symbol that is due is one of its frame
pub record AtSymbol (due : SymbolTurn) (present : List Present) : Type 0 where
  pub gathered : Gathered due.turn due.head (carriers_of due.head.rate) present
  pub some : 1 ≤ length present
  pub count : due.count ≡ length present
  pub symbols : due.symbols ≡ symbols_in due.head
  pub symbol : due.symbol < due.symbols

-- a state in which a capture can be
abbrev pub Sound : CaptureState → Type 0
Sound (Magic x xs) = Unit {0}
Sound Version = Unit {0}
Sound (Count version) = Unit {0}
Sound (Bandwidth turn) = Unit {0}
Sound (Mcs turn bandwidth) = Unit {0}
Sound (Length turn rate) = Unit {0}
Sound (Flag turn head carrier present) = Gathered turn head carrier present × (carrier < carriers_of head.rate)
Sound (Triangle turn head carrier present) = Gathered turn head carrier present × (carrier < carriers_of head.rate)
Sound (Symbol due present) = AtSymbol due present
Sound Over = Unit {0}

-- items that come from a state on, until another is reached
abbrev pub Gives : CaptureState → CaptureState → List Item → Type 0
Gives (Magic x xs) t items = Frames t 0 0 items
Gives Version t items = Frames t 0 0 items
Gives (Count version) t items = Frames t 0 0 items
Gives (Bandwidth turn) t items = Frames t turn.frame turn.number items
Gives (Mcs turn bandwidth) t items = Frames t turn.frame turn.number items
Gives (Length turn rate) t items = Frames t turn.frame turn.number items
Gives (Flag turn head carrier present) t items = Frames t turn.frame turn.number items
Gives (Triangle turn head carrier present) t items = Frames t turn.frame turn.number items
Gives (Symbol due present) t items = Symbols t due items
Gives Over t items = items ≡ []

-- a field that gives these items leads to a sound state, and what comes from there on comes behind them
abbrev pub Step : CaptureState → CaptureState → CaptureState → List Item → Type 0
Step s t next here = Sound next × ((rest : List Item) → Gives next t rest → Gives s t (here ++ rest))

-- no items
pub none_given : (s t : CaptureState) → Sound s → s ≡ t → Gives s t []
none_given (Magic x xs) t sound is = ([], refl, tt)
none_given Version t sound is = ([], refl, tt)
none_given (Count version) t sound is = ([], refl, tt)
none_given (Bandwidth turn) t sound is = ([], refl, tt)
none_given (Mcs turn bandwidth) t sound is = ([], refl, tt)
none_given (Length turn rate) t sound is = ([], refl, tt)
none_given (Flag turn head carrier present) t sound is = ([], refl, tt)
none_given (Triangle turn head carrier present) t sound is = ([], refl, tt)
none_given (Symbol due present) t sound is =
    let first : due.symbol + 0 < due.symbols = let lt = sound.symbol in omega arith in
    let within : InSymbols t = subst InSymbols is tt in
    record {
      jobs = [];
      later = [];
      count = 0;
      all = refl;
      good = record { numbers = refl; places = refl; each = tt };
      behind = inr (first, refl, within);
    }
none_given Over t sound is = refl

-- the jobs of a symbol as views
abbrev pub views_at : FrameHead → ℕ → ℕ → List Present → List ℕ → ℕ → List JobView
views_at head symbol number [] octets at = []
views_at head symbol number (p ∷ ps) octets at =
    job_at head symbol number p octets at ∷ views_at head symbol (number + 1) ps octets (at + carrier_octets head.rate)

pub jobs_are : (head : FrameHead) (symbol number : ℕ) (present : List Present) (octets : List ℕ) (at : ℕ)
    → jobs_at head symbol number present octets at ≡ map Job (views_at head symbol number present octets at)
unfolding jobs_at
jobs_are head symbol number [] octets at = refl
jobs_are head symbol number (p ∷ ps) octets at =
    ap (λ (z : List Item). Job (job_at head symbol number p octets at) ∷ z) (jobs_are head symbol (number + 1) ps octets (at + carrier_octets head.rate))

pub length-views : (head : FrameHead) (symbol number : ℕ) (present : List Present) (octets : List ℕ) (at : ℕ)
    → length (views_at head symbol number present octets at) ≡ length present
length-views head symbol number [] octets at = refl
length-views head symbol number (p ∷ ps) octets at = ap suc (length-views head symbol (number + 1) ps octets (at + carrier_octets head.rate))

views_numbers : (head : FrameHead) (symbol number : ℕ) (present : List Present) (octets : List ℕ) (at : ℕ)
    → map (λ (j : JobView). j.number) (views_at head symbol number present octets at)
    ≡ range_with_len number (length (views_at head symbol number present octets at))
unfolding job_at
views_numbers head symbol number [] octets at = refl
views_numbers head symbol number (p ∷ ps) octets at =
    ap (λ (z : List ℕ). number ∷ z) (views_numbers head symbol (number + 1) ps octets (at + carrier_octets head.rate))

views_places : (head : FrameHead) (symbol number : ℕ) (present : List Present) (octets : List ℕ) (at : ℕ)
    → map (λ (j : JobView). j.place) (views_at head symbol number present octets at) ≡ map (place_in head symbol) (map (λ (p : Present). p.carrier) present)
unfolding job_at
views_places head symbol number [] octets at = refl
views_places head symbol number (p ∷ ps) octets at =
    ap (λ (z : List Place). place_in head symbol p.carrier ∷ z) (views_places head symbol (number + 1) ps octets (at + carrier_octets head.rate))

view_is : (head : FrameHead) (symbol number : ℕ) (p : Present) (octets : List ℕ) (at : ℕ)
    → length p.triangle ≡ streams_of head.rate → IsJobOf head (job_at head symbol number p octets at)
unfolding job_at
view_is head symbol number p octets at legs = record { grid = refl; rows = length-rows_of p.triangle _ ∙ legs }

views_are : (head : FrameHead) (symbol number : ℕ) (present : List Present) (octets : List ℕ) (at : ℕ)
    → AllByRecursion (λ (p : Present). length p.triangle ≡ streams_of head.rate) present
    → AllByRecursion (IsJobOf head) (views_at head symbol number present octets at)
views_are head symbol number [] octets at legs = tt
views_are head symbol number (p ∷ ps) octets at legs =
    (view_is head symbol number p octets at legs.0, views_are head symbol (number + 1) ps octets (at + carrier_octets head.rate) legs.1)

-- the jobs of one symbol
pub views_good : (turn : Turn) (head : FrameHead) (symbol number : ℕ) (present : List Present) (octets : List ℕ)
    → Gathered turn head (carriers_of head.rate) present
    → AreJobs head number symbol 1 (views_at head symbol number present octets 0)
views_good turn head symbol number present octets g = record {
  numbers = views_numbers head symbol number present octets 0;
  places = views_places head symbol number present octets 0 ∙ (ap (λ (z : List ℕ). map (place_in head symbol) z) g.carriers ∙ sym (append-nil _));
  each = views_are head symbol number present octets 0 g.legs;
}

-- the jobs of a symbol, and those of the symbols behind it
pub jobs_more : (head : FrameHead) (number symbol count : ℕ) (front back : List JobView)
    → AreJobs head number symbol 1 front → AreJobs head (number + length front) (symbol + 1) count back
    → AreJobs head number symbol (suc count) (front ++ back)
jobs_more head number symbol count front back a b = record {
  numbers = map-append (λ (j : JobView). j.number) front back
      ∙ (ap (λ (z : List ℕ). z ++ map (λ (j : JobView). j.number) back) a.numbers
      ∙ (ap (λ (z : List ℕ). range_with_len number (length front) ++ z) b.numbers
      ∙ (sym (range_append number (length front) (length back)) ∙ ap (range_with_len number) (sym (length-append front back)))));
  places = map-append (λ (j : JobView). j.place) front back
      ∙ (ap (λ (z : List Place). z ++ map (λ (j : JobView). j.place) back) (a.places ∙ append-nil (symbol_places head symbol))
      ∙ ap (λ (z : List Place). symbol_places head symbol ++ z) b.places);
  each = all_append (IsJobOf head) front back a.each b.each;
}
