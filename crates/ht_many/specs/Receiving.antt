-- What a call that receives several captures leaves.
use Rattle.std.specs.Prelude.{ℕ, Result, IfOk, OnErr}
use Rattle.ht_runs.specs.Converted.{Converted}
use Rattle.ht_runs.specs.Filters.{SaysNothing}
use Rattle.ht_runs.specs.declared.faults.RunFault.{RunFault}
use Rattle.ht_many.specs.Bundles.{receiving}
use Rattle.std.specs.Global.{Vec}
use Rattle.ht_io.specs.Devices.{Device}
use Rattle.ht_many.specs.declared.many_end.ManyEnd.{ManyEnd}
use Rattle.ht_many.specs.Several.{AreLater, Devices, EachEnds, EachInPart}

-- The sources and the sinks of the captures, how contracts see each of them, and what the call answered. `a` is before the
-- call, and `b` after it.
pub record ReceivesEach {S K E : Type 0} (source : S → Device ℕ) (sink : K → Device ℕ) (result : Result (Vec ManyEnd) E) (a b : Devices S K) : Type 0 where
  -- The end of each capture says what was read from its source and put into its sink, whatever became of the others. Where
  -- the end isn't `Write`, the sink didn't fail.
  pub ends : IfOk result (λ ends. EachEnds source sink a b ends.items)
  -- Where memory ran out, a part of each text was put.
  pub memory : OnErr result (EachInPart source sink a b)
  -- However the call ends, the devices are the same ones, and take back no fault.
  pub later : AreLater source sink a b

-- A bundle is read from the source whole, and the texts of its captures are put into the sink: the two devices before and
-- after, and what the call answered.
abbrev pub ReceivesBundle : Device ℕ → Device ℕ → Device ℕ → Device ℕ → Result (Unit {0}) RunFault → Type 0
ReceivesBundle source source' sink sink' result = Converted receiving source source' sink sink' SaysNothing result
