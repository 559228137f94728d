use Rattle.std.proofs.Common.{◌≡◌, ◌+◌, ◌≤◌, take, length}
use Rattle.std.specs.Prelude.{unwrap_or}
use Rattle.ht_map.specs.Gray.{label_of}
use Rattle.ht_frames.specs.Tallies.{IsTally}
use Rattle.ht_rounding.specs.Labels.{AreLabelledFrom}
use Rattle.ht_soft_rx.proofs.near_work.tally_near.Given as goal

-- the tally is that of the jobs that were run, and the lanes have the next one, or the one before
abbrev pub invariant-loop-at : goal.invariant-loop-at
invariant-loop-at g l =
    let t = l.tally in
    record {
      count : t.jobs ≡ l.at;
      head : t.head ≡ l.fn.head;
      long : length t.places ≡ length t.values.items;
      is : IsTally g.K.Kind.plan l.fn.head (take l.at (g.B.Jobs.jobs l.block)) t.jobs t.data_sum t.pilot_sum t.places t.values.items;
      from : l.from ≤ l.at;
      to : l.at ≤ l.from + 8;
      lanes : AreLabelledFrom (λ p. unwrap_or (label_of l.modulation p) 0) (g.B.Jobs.jobs l.block) l.from l.lanes;
    }
