-- What the caller's window shows of the pool.
use Rattle.std.specs.Prelude.{List, length, drop, map, option_map}
use Rattle.ht_metric.specs.Jobs.{JobView}
use Rattle.ht_metric.specs.Hits.{found_of}
use Rattle.ht_metric.specs.declared.hit.Hit.{Hit}
use Rattle.ht_machine.specs.Machine.{MachineView, hit_of}
use Rattle.ht_window.specs.declared.slot.Slot.{Slot}
use Rattle.ht_window.specs.Windows.{WindowView}

-- the slot of a job, with what was found for it if its hit is booked
abbrev pub slot_of : List Hit → JobView → Slot
slot_of booked job = record { job = job; found = option_map found_of (hit_of job.number booked) }

-- a slot for each job that is issued and not emitted
abbrev pub window_of : MachineView → WindowView
window_of c = record {
  capacity = c.window;
  front = length c.emitted;
  slots = map (slot_of c.booked) (drop (length c.emitted) c.issued);
}
