use Rattle.std.proofs.Common.{◌≡◌, ◌-◌, ◌++◌, length, map}
use Rattle.ht_rate.specs.Rates.{carriers_of}
use Rattle.ht_capture.specs.Contents.{presents}
use Rattle.ht_capture.specs.Files.{present_among}
use Rattle.ht_certify.specs.Making.{subcarrier_of, subcarriers_of}
use Rattle.ht_certify.proofs.subcarriers.gather_subcarriers.Given as goal

-- those that are there, and those of the carriers that are left, are all
abbrev pub invariant-loop-carrier : goal.invariant-loop-carrier
invariant-loop-carrier l = record {
  listed : l.into.items ++ map (subcarrier_of l.frame.rate) (presents (carriers_of l.frame.rate - l.carrier) l.carrier l.frame.erased l.triangles)
      ≡ subcarriers_of l.frame;
  left : length l.triangles ≡ present_among (carriers_of l.frame.rate - l.carrier) l.carrier l.frame.erased;
}
