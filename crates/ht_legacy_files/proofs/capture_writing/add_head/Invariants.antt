use Rattle.std.proofs.Common.{◌≡◌, ◌+◌, ◌*◌, ◌∷◌, ◌++◌, length, take, flat_map}
use Rattle.byteorder.specs.Endian.{big_bytes}
use Rattle.ht_clause18.specs.Rates.{index_of}
use Rattle.ht_legacy_files.proofs.capture_writing.add_head.Given as goal

-- this many diagonals are there
abbrev pub invariant-loop-diagonal : goal.invariant-loop-diagonal
invariant-loop-diagonal l = record {
  put : l.chunk ≡ (l.fn.chunk ++ (index_of l.fn.rate ∷ big_bytes 2 l.fn.octets)) ++ flat_map (big_bytes 2) (take l.diagonal-index l.diagonals);
  size : length l.chunk ≡ length l.fn.chunk + 3 + 2 * l.diagonal-index;
}
