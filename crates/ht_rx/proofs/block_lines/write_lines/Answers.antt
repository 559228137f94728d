use Rattle.std.proofs.Common.{◌≡◌, ◌+◌, ◌-◌, drop, arith, rules}
use Rattle.ht_rx.proofs.BlockListing.{line_put}
use Rattle.ht_rx.proofs.block_lines.write_lines.Goals as goal

pub loop-left-preserved : goal.loop-left-preserved
loop-left-preserved g c =
    let l = c.loop-left in
    let next : (l.left - 1) + 1 ≡ l.left = omega arith in
    record {
      few = omega arith;
      within = search rules;
      room = omega arith;
      lines = line_put (g.B.Jobs.jobs c.args.block.now) (l.left - 1) l.left c.job-job.result c.place.result c.run_gated-found.result
          (drop c.write_line-start.result c.write_line-start.new.into)
          (drop l.start l.into) next c.place.ensures c.run_gated-found.ensures.found c.job-job.ensures
          l.invariant.lines c.write_line-start.ensures.written;
    }
