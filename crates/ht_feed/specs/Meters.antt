-- How far hits are, an octet for each.
use Rattle.std.specs.Prelude.{ℕ, List, map, min}
use Rattle.ht_metric.specs.Jobs.{near}
use Rattle.ht_metric.specs.declared.found.Found.{Found}
use Rattle.ht_feed.specs.Items.{Headed}

-- a distance, or 255 where it is more
abbrev pub octet_of : Found → ℕ
octet_of found = min found.distance 255

abbrev pub octets_of : {H : Type 0} → List (Headed H) → List ℕ
octets_of {H = H} jobs = map (λ (h : Headed H). octet_of (near h.job)) jobs
