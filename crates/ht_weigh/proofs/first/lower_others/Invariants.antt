use Rattle.std.proofs.Common.{◌≡◌, length}
use Rattle.ht_weigh.specs.Leasts.{IsLowered}
use Rattle.ht_weigh.specs.Walks.{TellsOthers}
use Rattle.ht_weigh.proofs.first.lower_others.Given as goal

abbrev pub invariant-loop-bit : goal.invariant-loop-bit
invariant-loop-bit l = record {
  size : length l.leasts ≡ 48;
  lowered : IsLowered (TellsOthers l.fn.modulation l.fn.label l.fn.partial l.fn.left.re l.fn.left.im l.fn.left.d l.bit) l.fn.leasts l.leasts;
}
