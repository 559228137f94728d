use Rattle.std.proofs.Common.{◌≡◌, suc, ◌+◌, ◌-◌, ◌≤◌, List, All, length, sym, ap, subst, ◌∙◌, arith}
use Rattle.ht_rate.specs.Rates.{carriers_of, streams_of}
use Rattle.ht_capture.proofs.Written.{left_some}
use Rattle.ht_certify.specs.declared.subcarriers.Subcarrier.{Subcarrier}
use Rattle.ht_certify.specs.Making.{subcarriers_of}
use Rattle.ht_certify.proofs.Left.{behind_left, listed_next, listed_over}
use Rattle.ht_certify.proofs.Listed.{are_few, are_present, have_streams}
use Rattle.ht_certify.proofs.subcarriers.gather_subcarriers.Goals as goal

pub add-requires-clause-some : goal.add-requires-clause-some
add-requires-clause-some c =
    let k = c.loop-carrier.carrier in
    let n = carriers_of c.args.frame.now.rate in
    let step : n - k ≡ suc (n - (k + 1)) = omega (arith, c.loop-carrier-test.true, c.carriers-carrier-end.ensures.value) in
    λ is. left_some (n - k) (n - (k + 1)) k c.args.frame.now.erased c.loop-carrier.triangles.now step c.loop-carrier.invariant.left
    (sym c.is_erased-erased.ensures ∙ is)

pub loop-carrier-preserved : goal.loop-carrier-preserved
loop-carrier-preserved c =
    let k = c.loop-carrier.carrier in
    let f = c.args.frame.now in
    let n = carriers_of f.rate in
    let b = c.is_erased-erased.result in
    let ts = c.loop-carrier.triangles.now in
    let step : n - k ≡ suc (n - (k + 1)) = omega (arith, c.loop-carrier-test.true, c.carriers-carrier-end.ensures.value) in
    record {
      listed = listed_next f.rate c.loop-carrier.into.items c.add.new.into.items (subcarriers_of f) b (n - k) (n - (k + 1)) k f.erased ts c.in-Ok.behind.now
          step c.is_erased-erased.ensures c.in-Ok.ensures.added c.in-Ok.ensures.behind c.loop-carrier.invariant.listed;
      left = behind_left b (n - k) (n - (k + 1)) k f.erased ts c.in-Ok.behind.now step c.is_erased-erased.ensures c.in-Ok.ensures.behind
          c.loop-carrier.invariant.left;
    }

pub returns : goal.returns
returns c =
    let f = c.args.frame.now in
    let n = carriers_of f.rate in
    let k = c.loop-carrier.carrier in
    let none : n - k ≡ 0 = omega (arith, c.loop-carrier-test.false, c.carriers-carrier-end.ensures.value) in
    let all = listed_over f.rate c.loop-carrier.into.items (subcarriers_of f)
    (n - k) k f.erased c.loop-carrier.triangles.now none c.loop-carrier.invariant.listed in
    record {
      listed = all;
      present = ap (λ (xs : List Subcarrier). length xs) all ∙ are_present f;
      few = subst (λ (xs : List Subcarrier). length xs ≤ n) (sym all) (are_few f);
      streams = subst (λ (xs : List Subcarrier). All (λ (s : Subcarrier). length s.triangle ≡ streams_of f.rate) xs) (sym all) (have_streams f c.requires.fits);
    }
