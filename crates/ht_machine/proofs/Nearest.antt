-- The emitted hits answer the first issued jobs.
use Rattle.std.proofs.Common.{◌≡◌, List, [], ◌∷◌, map, take, length, refl, ap, ◌∙◌}
use Rattle.ht_metric.specs.declared.hit.Hit.{Hit}
use Rattle.ht_metric.specs.Jobs.{JobView, near}
use Rattle.ht_metric.specs.declared.found.Found.{Found}
use Rattle.ht_metric.specs.Hits.{found_of}
use Rattle.ht_metric.proofs.Finding.{found_near}
use Rattle.ht_machine.specs.Machine.{MachineView}
use Rattle.ht_machine.specs.Facts.{IsMachine, jobs_of}

answers : (hits : List Hit) → map found_of hits ≡ map near (jobs_of hits)
answers [] = refl
answers (hit ∷ hits) = ap (λ (f : Found). f ∷ map found_of hits) (found_near hit) ∙ ap (λ (fs : List Found). near hit.job ∷ fs) (answers hits)

pub emitted_are_near : (c : MachineView) → IsMachine c → map found_of c.emitted ≡ map near (take (length c.emitted) c.issued)
emitted_are_near c w = answers c.emitted ∙ ap (λ (jobs : List JobView). map near jobs) w.emitted
