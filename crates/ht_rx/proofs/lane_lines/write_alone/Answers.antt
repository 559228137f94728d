use Rattle.std.proofs.Common.{◌+◌, drop, refl}
use Rattle.ht_capture.specs.Parts.{jobs_of}
use Rattle.ht_rx.proofs.BlockListing.{line_put}
use Rattle.ht_rx.proofs.lane_lines.write_alone.Goals as goal

pub returns-clause-lines : goal.returns-clause-lines
returns-clause-lines c =
    line_put (jobs_of c.args.block.now.block) c.args.at (c.args.at + 1) c.job-job.result c.place.result c.found_by-found.result
    (drop c.write_line-start.result c.write_line-start.new.into) (drop c.args.end c.args.into.now) refl c.place.ensures
    c.found_by-found.ensures.found c.job-job.ensures c.requires.lines c.write_line-start.ensures.written
