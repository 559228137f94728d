use Rattle.std.proofs.Common.{◌∙◌, ℕ, List, ap, length}
use Rattle.ht_results.specs.declared.placing.Stretch.{Stretch}
use Rattle.ht_results.specs.Places.{places_in, put_on}
use Rattle.ht_results.proofs.Stretches.{put_last}
use Rattle.ht_results.proofs.placing.KeptPlaces.put_into.Goals as goal

pub returns : goal.returns
returns g c =
    let p = c.self.inside in
    let values = c.args.values.now in
    let kept = c.args.kept.now in
    let same = c.deref.ensures.value in
    let first = c.put_stretches-behind.ensures in
    put_last p.ended.items p.last c.put_stretches-behind.result values kept c.put_stretches-behind.new.kept c.put_stretch.new.kept
    (ap (λ (ps : List ℕ). length ps) c.self.view_is ∙ c.requires)
    (first.put ∙ ap (λ (ss : List Stretch). put_on (places_in ss) values kept) same)
    (first.count ∙ ap (λ (ss : List Stretch). length (places_in ss)) same) c.put_stretch.ensures
    ∙ ap (λ (ps : List ℕ). put_on ps values kept) c.self.view_is
