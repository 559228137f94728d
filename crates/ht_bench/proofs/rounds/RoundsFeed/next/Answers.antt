use Rattle.std.proofs.Common.{◌≡◌, ◌+◌, ◌%◌, ◌<◌, length, get_or, false, ap, ◌∙◌, sym, subst, rules}
use Rattle.std.proofs.lemmas.List.{get_or_read}
use Rattle.std.specs.declared.convert.Infallible.{Infallible}
use Rattle.ht_metric.specs.Jobs.{JobView}
use Rattle.ht_crew.specs.Feeds.{GivesJob}
use Rattle.ht_bench.specs.Rounds.{RoundsView, no_job, job_at, shown}
use Rattle.ht_bench.specs.contracts.rounds.Rounds.{the_view}
use Rattle.ht_bench.proofs.Numbering.{gives}
use Rattle.ht_bench.proofs.rounds.RoundsFeed.next.Goals as goal

pub returns-clause-job : goal.returns-clause-job
returns-clause-job c =
    let f : RoundsView = the_view c.self.inside in
    let job = c.index-job.result.now in
    let below : f.given % 256 < length f.jobs = search rules in
    let read : job ≡ get_or f.jobs (f.given % 256) no_job = get_or_read f.jobs (f.given % 256) job below c.index-job.ensures no_job in
    let made : c.new-given.result ≡ record job { number = f.given } = search rules in
    let is : c.new-given.result ≡ job_at f.jobs f.given = made ∙ ap (λ (j : JobView). record j { number = f.given }) read in
    let running : f.ended ≡ false = ap (λ (s : RoundsView). s.ended) c.self.view_is ∙ c.requires.running in
    let some : f.given < f.all = search rules in
    subst (λ (s : RoundsView). GivesJob {Fault = Infallible} (shown s) (shown (record f { given = f.given + 1 })) c.new-given.result) c.self.view_is
    (subst (λ (j : JobView). GivesJob {Fault = Infallible} (shown f) (shown (record f { given = f.given + 1 })) j) (sym is)
    (gives f c.self.invariant running some))
