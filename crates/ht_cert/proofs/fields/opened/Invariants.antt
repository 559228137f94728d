use Rattle.std.proofs.Common.{◌≡◌, length, map, take}
use Rattle.ht_cert.specs.Readers.{is_open}
use Rattle.ht_cert.proofs.fields.opened.Given as goal

-- this number of marks is there
abbrev pub invariant-loop-k : goal.invariant-loop-k
invariant-loop-k l = record {
  marks : take l.k l.marks ≡ map is_open (take l.k l.octets);
  places : length l.marks ≡ 128;
}
