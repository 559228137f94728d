use Rattle.std.proofs.Common.{◌≡◌, ◌-◌, ◌*◌, drop, flat_map, length}
use Rattle.ht_cert.specs.Files.{record_octets}
use Rattle.ht_certify.specs.Making.{records_of_symbol}
use Rattle.ht_certify.specs.Writing.{PutsFrontThrough}
use Rattle.ht_certify.proofs.putting.put_symbol.Given as goal

-- the records that were made, and those of the subcarriers that are left, are all
abbrev pub invariant-loop-subcarrier : goal.invariant-loop-subcarrier
invariant-loop-subcarrier g l = record {
  passes : PutsFrontThrough l.fn.block (g.K.Sink.shown l.fn.sink) (g.K.Sink.shown l.sink)
      (flat_map record_octets (records_of_symbol l.fn.recorded.modulation l.grid (length l.grid) (drop l.subcarrier-index l.subcarriers) l.rest))
      (flat_map record_octets (records_of_symbol l.fn.recorded.modulation l.grid (length l.grid) l.subcarriers l.samples)) l.block;
  left : length l.rest ≡ (length l.subcarriers - l.subcarrier-index) * length l.grid;
  modulation : l.recorded.modulation ≡ l.fn.recorded.modulation;
}
