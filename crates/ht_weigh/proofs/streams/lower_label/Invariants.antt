use Rattle.std.proofs.Common.{◌≡◌, length}
use Rattle.ht_weigh.specs.Leasts.{IsLowered}
use Rattle.ht_weigh.specs.Walks.{TellsLabel}
use Rattle.ht_weigh.proofs.streams.lower_label.Given as goal

abbrev pub invariant-loop-e : goal.invariant-loop-e
invariant-loop-e l = record {
  size : length l.leasts ≡ 48;
  lowered : IsLowered (TellsLabel l.fn.modulation l.fn.label l.fn.stream l.fn.distance l.e) l.fn.leasts l.leasts;
}
