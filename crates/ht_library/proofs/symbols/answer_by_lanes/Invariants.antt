use Rattle.std.proofs.Common.{◌≡◌, ◌*◌, length}
use Rattle.ht_library.specs.Walking.{AreAnswered}
use Rattle.ht_library.proofs.symbols.answer_by_lanes.Given as goal

abbrev pub invariant-loop-eight : goal.invariant-loop-eight
invariant-loop-eight l = record {
  hits : length l.hits ≡ length l.fn.hits;
  labels : length l.labels ≡ length l.fn.labels;
  sums : length l.sums ≡ length l.fn.sums;
  done : AreAnswered (8 * l.eight) l.rate l.channels l.received l.hits l.labels l.under_way l.sums;
}
