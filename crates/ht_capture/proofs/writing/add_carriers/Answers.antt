use Rattle.std.proofs.Common.{◌≡◌, ◌+◌, ◌-◌, ◌++◌, Bool, List, suc, length, sym, ap, ◌∙◌, arith}
use Rattle.ht_rate.specs.Rates.{carriers_of}
use Rattle.ht_metric.specs.Rows.{Leg}
use Rattle.ht_capture.specs.Files.{flagged, triangles_behind, flagged_octets, is_erased}
use Rattle.ht_capture.proofs.Written.{flagged_next, left_next, put_step}
use Rattle.ht_capture.proofs.writing.add_carriers.Goals as goal

pub loop-carrier-preserved : goal.loop-carrier-preserved
loop-carrier-preserved c =
    let k = c.loop-carrier.carrier in
    let erased = c.args.frame.now.erased in
    let ts = c.loop-carrier.triangles.now in
    let n = carriers_of c.args.frame.now.rate - k in
    let m = carriers_of c.args.frame.now.rate - (k + 1) in
    let step : n ≡ suc m = omega (arith, c.loop-carrier-test.true, c.carriers-carrier-end.ensures.value) in
    let piece : c.add_flagged-triangles.new.chunk ≡ c.loop-carrier.chunk ++ flagged (is_erased erased k) ts =
    c.add_flagged-triangles.ensures.put ∙ ap (λ (b : Bool). c.loop-carrier.chunk ++ flagged b ts) c.is_erased.ensures in
    let rest : c.add_flagged-triangles.result.now ≡ triangles_behind (is_erased erased k) ts =
    c.add_flagged-triangles.ensures.behind ∙ ap (λ (b : Bool). triangles_behind b ts) c.is_erased.ensures in
    record {
      put = ap (λ (r : List (List Leg)). c.add_flagged-triangles.new.chunk ++ flagged_octets m (k + 1) erased r) rest
          ∙ put_step c.loop-carrier.chunk c.add_flagged-triangles.new.chunk (flagged (is_erased erased k) ts) _ _ piece
          (ap (λ r. c.loop-carrier.chunk ++ r) (sym (flagged_next n m k erased ts step)) ∙ c.loop-carrier.invariant.put);
      left = ap (λ (r : List (List Leg)). length r) rest ∙ left_next n m k erased ts step c.loop-carrier.invariant.left;
      size = omega (arith, c.add_flagged-triangles.ensures.size, c.loop-carrier.invariant.size);
    }
