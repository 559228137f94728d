use Rattle.std.proofs.Common.{◌≡◌, ◌-◌, ◌*◌, flat_map, length}
use Rattle.ht_cert.specs.Files.{record_octets}
use Rattle.ht_certify.specs.Making.{records_of_symbols}
use Rattle.ht_certify.specs.Writing.{PutsFrontThrough}
use Rattle.ht_certify.proofs.putting.put_symbols.Given as goal

-- the records that were made, and those of the symbols that are left, are all
abbrev pub invariant-loop-symbol : goal.invariant-loop-symbol
invariant-loop-symbol g l = record {
  passes : PutsFrontThrough l.fn.block (g.K.Sink.shown l.fn.sink) (g.K.Sink.shown l.sink)
      (flat_map record_octets (records_of_symbols l.fn.recorded.modulation l.grid (length l.grid) (l.symbols - l._symbol) l.subcarriers l.rest))
      (flat_map record_octets (records_of_symbols l.fn.recorded.modulation l.grid (length l.grid) l.symbols l.subcarriers l.samples)) l.block;
  left : length l.rest ≡ (l.symbols - l._symbol) * (length l.subcarriers * length l.grid);
  modulation : l.recorded.modulation ≡ l.fn.recorded.modulation;
}
