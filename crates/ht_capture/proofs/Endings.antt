-- How the reading of a whole capture ends.
use Rattle.std.proofs.Common.{◌≡◌, ℕ, ◌+◌, ◌*◌, ◌<◌, ◌≤◌, List, [], ◌∷◌, ◌++◌, length, flat_map, nat_lt}
use Rattle.std.proofs.Common.{true, false, sym, ap, subst, ◌∙◌, length-append, arith}
use Rattle.ht_io.specs.Devices.{Device, Takes}
use Rattle.ht_fields.specs.Readers.{ReaderView}
use Rattle.ht_io.proofs.Calls.{takes-append}
use Rattle.ht_capture.specs.declared.items.Item.{Item}
use Rattle.std.proofs.lemmas.Bool.Decides.{nat_tests}
use Rattle.std.proofs.lemmas.Grind.{flat_map-append}
use Rattle.ht_metric.specs.declared.sample.Sample.{Sample}
use Rattle.ht_capture.specs.declared.places.Present.{Present}
use Rattle.ht_capture.specs.declared.places.SymbolTurn.{SymbolTurn}
use Rattle.ht_capture.specs.Fields.{CaptureState, Symbol, turn_due, next_symbol, next_turn, symbol_due}
use Rattle.ht_capture.specs.Files.{sample_octets}
use Rattle.ht_capture.specs.Contents.{AreSamples}
use Rattle.ht_capture.proofs.Decoded.{length-samples}
use Rattle.ht_capture.proofs.Octets.{takes_as}
use Rattle.ht_capture.specs.Reading.{here}
use Rattle.ht_capture.specs.Taking.{AddsSamples, SameTurn}
use Rattle.ht_fields.specs.WholeFiles.{GivesFields}
use Rattle.ht_fields.proofs.Choices.{when_true, when_false}

pub given_from : (s t : CaptureState) (at : ℕ) (left : Device ℕ) (new : ReaderView Item) → s ≡ t → GivesFields (here t at left) new
    → GivesFields (here s at left) new
given_from s t at left new e g = subst (λ (x : CaptureState). GivesFields (here x at left) new) (sym e) g

pub given_to : (old : ReaderView Item) (s t : CaptureState) (at : ℕ) (left : Device ℕ) → s ≡ t → GivesFields old (here s at left)
    → GivesFields old (here t at left)
given_to old s t at left e g = subst (λ (x : CaptureState). GivesFields old (here x at left)) e g

pub symbol_is_due : (due : SymbolTurn) (present : List Present) → due.symbol < due.symbols → symbol_due due present ≡ Symbol due present
unfolding symbol_due
symbol_is_due due present lt = let t : nat_lt due.symbol due.symbols ≡ true = grind (arith, nat_tests) in when_true _ _ _ t

pub frame_is_due : (due : SymbolTurn) (present : List Present) → due.symbols ≤ due.symbol → symbol_due due present ≡ turn_due (next_turn due.turn)
unfolding symbol_due
frame_is_due due present le = let t : nat_lt due.symbol due.symbols ≡ false = grind (arith, nat_tests) in when_false _ _ _ t

pub record IsNext (new due : SymbolTurn) : Type 0 where
  pub head : new.head ≡ due.head
  pub count : new.count ≡ due.count
  pub symbol : new.symbol ≡ due.symbol + 1
  pub symbols : new.symbols ≡ due.symbols
  pub number : new.turn.number ≡ due.turn.number + due.count
  pub turn : SameTurn new.turn due.turn

pub is_next : (new due : SymbolTurn) → new ≡ next_symbol due → IsNext new due
unfolding next_symbol
is_next new due is = record {
  head = ap (λ (s : SymbolTurn). s.head) is;
  count = ap (λ (s : SymbolTurn). s.count) is;
  symbol = ap (λ (s : SymbolTurn). s.symbol) is;
  symbols = ap (λ (s : SymbolTurn). s.symbols) is;
  number = ap (λ (s : SymbolTurn). s.turn.number) is;
  turn = (ap (λ (s : SymbolTurn). s.turn.version) is, ap (λ (s : SymbolTurn). s.turn.left) is, ap (λ (s : SymbolTurn). s.turn.frame) is);
}

-- the samples of a symbol more
pub samples_append : (xs ys : List Sample) → AreSamples xs → AreSamples ys → AreSamples (xs ++ ys)
samples_append [] ys a b = b
samples_append (x ∷ xs) ys a b = (a.0, a.1, samples_append xs ys a.2 b)

pub record Adding (old new : List Sample) (left mid later : Device ℕ) (width : ℕ) : Type 0 where
  pub octets : Takes left later (flat_map sample_octets new)
  pub typed : AreSamples new
  pub count : length new ≡ length old + width

pub adding : (old new : List Sample) (octets : List ℕ) (left mid later : Device ℕ) (width : ℕ)
    → Takes left mid (flat_map sample_octets old) → AreSamples old → Takes mid later octets
    → length octets ≡ 8 * width → AddsSamples old new octets → Adding old new left mid later width
adding old new octets left mid later width a typed b len (more, is, more_typed, flat) =
    let all : flat_map sample_octets old ++ octets ≡ flat_map sample_octets new =
    ap (λ (z : List ℕ). flat_map sample_octets old ++ z) (sym flat)
    ∙ (sym (flat_map-append sample_octets old more) ∙ ap (λ (z : List Sample). flat_map sample_octets z) (sym is)) in
    let size : length more ≡ width = omega (arith, ap length flat, length-samples more, len) in
    record {
      octets = takes_as left.known later.known _ _ all (takes-append left mid later (flat_map sample_octets old) octets a b);
      typed = subst AreSamples (sym is) (samples_append old more typed more_typed);
      count = ap (λ (z : List Sample). length z) is ∙ (length-append old more ∙ ap (λ n. length old + n) size);
    }
