use Rattle.std.proofs.Common.{◌≡◌, ◌+◌, ◌-◌, ◌≤◌}
use Rattle.ht_capture.specs.Files.{present_among}
use Rattle.ht_rate.specs.Rates.{carriers_of}
use Rattle.ht_results.proofs.frame_places.present_in.Given as goal

-- those counted, and those still to be seen, are all
abbrev pub invariant-loop-carrier : goal.invariant-loop-carrier
invariant-loop-carrier l = record {
  counted : l.count + present_among (carriers_of l.fn.head.rate - l.carrier) l.carrier l.fn.head.erased
      ≡ present_among (carriers_of l.fn.head.rate) 0 l.fn.head.erased;
  few : l.count ≤ l.carrier;
}
