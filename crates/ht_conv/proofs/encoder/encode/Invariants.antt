use Rattle.std.proofs.Common.{◌≡◌, ◌++◌, ◌%◌, length, drop, vec_len, vec_capacity}
use Rattle.ht_conv.specs.Puncturing.{period_of, sent_count}
use Rattle.ht_conv.specs.Code.{sent_bits}
use Rattle.ht_conv.specs.Continued.{sent_from}
use Rattle.ht_conv.proofs.encoder.encode.Given as goal

abbrev pub invariant-loop-bit : goal.invariant-loop-bit
invariant-loop-bit l = record {
  items : l.coded.items ++ sent_from l.fn.pattern l.bit-index l.register (drop l.bit-index l.input) ≡ sent_bits l.fn.pattern l.input;
  phase : l.phase ≡ l.bit-index % length (period_of l.fn.pattern);
  count : vec_len l.coded ≡ sent_count l.fn.pattern l.bit-index;
  room : vec_capacity l.coded ≡ sent_count l.fn.pattern (length l.input);
}
