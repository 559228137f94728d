use Rattle.std.proofs.Common.{◌≡◌, take, length}
use Rattle.ht_frames.specs.Tallies.{IsTally}
use Rattle.ht_frames.proofs.tally.tally_of.Given as goal

-- the tally is that of the jobs that were run
abbrev pub invariant-loop-at : goal.invariant-loop-at
invariant-loop-at g l =
    let t = l.tally in
    record {
      count : t.jobs ≡ l.at;
      head : t.head ≡ l.fn.head;
      long : length t.places ≡ length t.values.items;
      is : IsTally g.K.Kind.plan l.fn.head (take l.at (g.B.Jobs.jobs l.block)) t.jobs t.data_sum t.pilot_sum t.places t.values.items;
    }
