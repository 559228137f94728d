-- The task that a move left over.
use Rattle.std.specs.Prelude.{Option, Some, None}
use Rattle.ht_pool.specs.declared.moving.Move.{Move}
use Rattle.ht_pool.specs.declared.moving.Move.TheVariants.{Moved, Refused, Empty, Retry}

abbrev pub refused_by : {T : Type 0} → Move T → Option T
refused_by Moved = None
refused_by (Refused task) = Some task
refused_by Empty = None
refused_by Retry = None
