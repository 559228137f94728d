-- A feed over a list at the end.
use Rattle.std.proofs.Common.{◌≡◌, ℕ, ◌≤◌, List, [], ◌++◌, length, map, take, drop, ap, ◌∙◌, arith}
use Rattle.std.proofs.lemmas.List.{length-drop, length-take, take_all}
use Rattle.ht_metric.specs.Jobs.{JobView}
use Rattle.ht_metric.specs.declared.hit.Hit.{Hit}
use Rattle.ht_feed.specs.Feeds.{IsLeft}
use Rattle.ht_crew.specs.Lists.{nearest_answer, answer_of, Listed, shown, TakesInTurn}

pub takes_first : (old new : Listed) → old.hits ≡ [] → TakesInTurn old new → map answer_of new.hits ≡ map nearest_answer (take (length new.hits) old.jobs)
takes_first old new none leads =
    leads.hits ∙ ap (λ (hits : List Hit). map answer_of hits ++ map nearest_answer (drop (length hits) (take (length new.hits) old.jobs))) none

pub takes_all : (old new : Listed) → old.hits ≡ [] → TakesInTurn old new → (shown new).due ≡ []
    → IsLeft (shown new).left [] → map answer_of new.hits ≡ map nearest_answer old.jobs
takes_all old new none leads due left =
    let n : ℕ = length new.hits in
    let same : length new.jobs ≡ length old.jobs = ap (λ (jobs : List JobView). length jobs) leads.jobs in
    let none_due : length (drop n (take new.given new.jobs)) ≡ 0 = ap (λ (jobs : List JobView). length jobs) due in
    let none_left : length (drop new.given new.jobs) ≡ 0 = ap (λ (jobs : List JobView). length jobs) left in
    let all : length old.jobs ≤ n =
    omega (arith, same, none_due, none_left, length-drop n (take new.given new.jobs), length-take new.given new.jobs, length-drop new.given new.jobs) in
    takes_first old new none leads ∙ ap (λ (jobs : List JobView). map nearest_answer jobs) (take_all n old.jobs all)
