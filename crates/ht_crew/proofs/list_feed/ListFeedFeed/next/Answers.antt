use Rattle.std.proofs.Common.{◌≡◌, ◌∙◌, ◌+◌, List, length, slice_get, Some, ap, refl, sym, subst}
use Rattle.std.proofs.lemmas.Option.{slice_get_read}
use Rattle.ht_metric.specs.Jobs.{JobView}
use Rattle.ht_crew.specs.Feeds.{GivesJob}
use Rattle.ht_crew.specs.Lists.{Listed, IsListed, shown}
use Rattle.ht_crew.proofs.Giving.{gives_next, unmoved}
use Rattle.ht_crew.proofs.list_feed.ListFeedFeed.next.Goals as goal

pub returns-clause-job : goal.returns-clause-job
returns-clause-job c =
    let old = c.args.self.now in
    let is = c.self.view_is ∙ c.in_ok-call.ensures.counted in
    let found = c.in-Some.ensures.lookup in
    let read : slice_get c.deref.result.now c.self.inside.given ≡ Some c.in-Some.job.now =
    slice_get_read c.deref.result.now (length c.deref.result.now) c.self.inside.given c.in-Some.job.now refl found.3.0 found.1 in
    let there : slice_get old.jobs old.given ≡ Some c.copy.result =
    ap (λ (s : Listed). slice_get s.jobs s.given) (sym is) ∙ (ap (λ (jobs : List JobView). slice_get jobs c.self.inside.given) (sym c.deref.ensures.value)
    ∙ (read ∙ ap Some (sym c.copy.ensures))) in
    let a = gives_next old c.copy.result (subst (λ (s : Listed). IsListed s) is c.self.invariant.0) c.requires.running there in
    subst (λ (s : Listed). GivesJob (shown old) (shown (record s { given = s.given + 1 })) c.copy.result) (sym is) a

pub returns-clause-leads : goal.returns-clause-leads
returns-clause-leads c =
    let is = c.self.view_is ∙ c.in_ok-call.ensures.counted in
    unmoved c.args.self.now _ (ap (λ (s : Listed). s.jobs) is) (ap (λ (s : Listed). s.hits) is)

pub returns-in_default-clause-leads : goal.returns-in_default-clause-leads
returns-in_default-clause-leads c =
    let is = c.self.view_is ∙ c.in_ok-call.ensures.counted in
    unmoved c.args.self.now _ (ap (λ (s : Listed). s.jobs) is) (ap (λ (s : Listed). s.hits) is)
