use Rattle.std.proofs.Common.{◌∙◌, ◌+◌, ◌-◌, arith, slice_index_or}
use Rattle.ht_results.specs.declared.placing.Stretch.{Stretch}
use Rattle.ht_results.proofs.Stretches.{count_next, put_next}
use Rattle.ht_results.proofs.placing.put_stretches.Goals as goal

pub loop-stretch-preserved : goal.loop-stretch-preserved
loop-stretch-preserved g c =
    let l = c.loop-stretch in
    let stretches = c.args.stretches.now in
    let none : Stretch = record { at = 0; count = 0 } in
    let size = (slice_index_or stretches l.stretch-index none).count in
    let next = count_next stretches l.stretch-index none c.loop-stretch-test.true in
    record {
      count = omega (arith, next, l.invariant.count);
      put = put_next stretches l.stretch-index l.behind (l.behind + size - l.behind) none c.args.values.now l.kept c.put_stretch.new.kept
          c.loop-stretch-test.true (omega arith) c.put_stretch.ensures ∙ l.invariant.put;
    }
