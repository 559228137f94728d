use Rattle.std.proofs.Common.{◌∙◌, rules}
use Rattle.ht_feed.specs.Consumers.{PutsPartOf}
use Rattle.ht_feed.specs.Dues.{due_of, headed_due}
use Rattle.ht_rx.specs.Heads.{jobs_alone}
use Rattle.ht_results.specs.JobTexts.{job_lines}
use Rattle.ht_rx.proofs.BlockListing.{part, puts}
use Rattle.ht_frames.proofs.Taking.{err_so}
use Rattle.ht_rx.proofs.lister.ListerConsumer.take.Goals as goal

pub returns-in_err-put-clause-books : goal.returns-in_err-put-clause-books
returns-in_err-put-clause-books g c =
    let a = g.K.Sink.shown c.args.self.now.sink.now in
    let b = g.K.Sink.shown c.put.new.self in
    let jobs = g.R.Block.Jobs.jobs c.args.arg3.now in
    record {
      put = search rules;
      part = err_so c.from_residual.result (PutsPartOf a b (λ js. job_lines (jobs_alone js)) (headed_due (due_of c.args.arg2.now jobs)))
          (part c.args.arg2.now jobs c.text.result.now (c.text.ensures ∙ c.requires.right) a b c.in_err-put.ensures.part);
      faults = record { steady = search rules; cause = search rules; unfailed = search rules; later = search rules; same = search rules };
    }

pub returns-clause-books : goal.returns-clause-books
returns-clause-books g c =
    let a = g.K.Sink.shown c.args.self.now.sink.now in
    let b = g.K.Sink.shown c.put.new.self in
    let jobs = g.R.Block.Jobs.jobs c.args.arg3.now in
    record {
      put = puts c.args.arg2.now jobs c.text.result.now (c.text.ensures ∙ c.requires.right) a b c.in_ok-put.ensures.grown;
      part = tt;
      faults = record { steady = search rules; cause = tt; unfailed = tt; later = search rules; same = search rules };
    }
