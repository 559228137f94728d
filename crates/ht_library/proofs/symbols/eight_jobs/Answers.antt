use Rattle.ht_library.specs.Detected.{job_at}
use Rattle.ht_library.proofs.Eights.{eight_there}
use Rattle.ht_library.proofs.symbols.eight_jobs.Goals as goal

pub returns : goal.returns
returns c =
    eight_there (job_at c.args.rate.now c.args.channels.now c.args.received.now) c.args.at c.job_at.result c.job_at-2.result c.job_at-3.result
    c.job_at-4.result c.job_at-5.result c.job_at-6.result c.job_at-7.result c.job_at-8.result c.job_at.ensures.value c.job_at-2.ensures.value
    c.job_at-3.ensures.value c.job_at-4.ensures.value c.job_at-5.ensures.value c.job_at-6.ensures.value c.job_at-7.ensures.value
    c.job_at-8.ensures.value
