use Rattle.std.proofs.Common.{◌≡◌, ◌≤◌, ◌+◌, ◌*◌, ◌-◌, List, length, flat_map}
use Rattle.ht_io.specs.Devices.{Takes, IsLater}
use Rattle.ht_rate.specs.Rates.{streams_of}
use Rattle.ht_capture.specs.declared.places.Present.{Present}
use Rattle.ht_capture.specs.Fields.{Symbol, symbol_due}
use Rattle.ht_capture.specs.Files.{sample_octets}
use Rattle.ht_capture.specs.Contents.{AreSamples}
use Rattle.ht_capture.specs.Reading.{here}
use Rattle.ht_capture.specs.Taking.{SameTurn}
use Rattle.ht_fields.specs.WholeFiles.{GivesFields}
use Rattle.ht_capture.proofs.reading.samples.Given as goal

-- this many symbols were read
abbrev pub invariant-loop-due : goal.invariant-loop-due
invariant-loop-due g l = record {
  told : (present : List Present)
      → GivesFields (here (Symbol l.fn.due present) l.fn.at (g.S.Source.shown l.fn.source)) (here (symbol_due l.due present) l.at (g.S.Source.shown l.source));
  octets : Takes (g.S.Source.shown l.fn.source) (g.S.Source.shown l.source) (flat_map sample_octets l.samples.items);
  typed : AreSamples l.samples.items;
  count : length l.samples.items ≡ l.due.symbol * (l.fn.due.count * streams_of l.fn.due.head.rate);
  head : l.due.head ≡ l.fn.due.head;
  present : l.due.count ≡ l.fn.due.count;
  turn : SameTurn l.due.turn l.fn.due.turn;
  symbol : l.due.symbol ≤ l.due.symbols;
  symbols : l.due.symbols ≡ l.fn.due.symbols;
  number : l.due.turn.number ≤ l.fn.due.turn.number + 114 * l.due.symbol;
  place : l.at ≤ l.fn.at + 3648 * l.due.symbol;
  later : IsLater (g.S.Source.shown l.fn.source) (g.S.Source.shown l.source);
}

abbrev pub decreases-loop-due : goal.decreases-loop-due
decreases-loop-due g l = l.due.symbols - l.due.symbol
