-- An octet is put for each hit.
use Rattle.std.proofs.Common.{◌≡◌, ℕ, List, [], ◌∷◌, ◌++◌, map, refl, ap, ◌∙◌, sym, subst}
use Rattle.ht_io.specs.Devices.{Device, Grows, GrowsByPart}
use Rattle.ht_io.proofs.Calls.{grows_by_part-front, grows_by_part-none}
use Rattle.ht_metric.specs.Jobs.{JobView, near}
use Rattle.ht_metric.specs.declared.found.Found.{Found}
use Rattle.ht_feed.specs.Items.{Headed}
use Rattle.ht_feed.specs.Dues.{due_of, headed_due}
use Rattle.ht_feed.specs.Consumers.{PutsBlock, PutsPartOf}
use Rattle.ht_feed.specs.Meters.{octet_of, octets_of}

module _ {H : Type 0} (head : H) where
  octets-headed : (jobs : List JobView) (more : List (Headed H))
      → octets_of (headed_due (due_of head jobs) ++ more) ≡ map octet_of (map near jobs) ++ octets_of more
  octets-headed [] more = refl
  octets-headed (job ∷ jobs) more = ap (λ (ns : List ℕ). octet_of (near job) ∷ ns) (octets-headed jobs more)

  module _ (jobs : List JobView) (found : List Found) (octets : List ℕ) (right : found ≡ map near jobs) (made : octets ≡ map octet_of found) where
    whole : (more : List (Headed H)) → octets_of (headed_due (due_of head jobs) ++ more) ≡ octets ++ octets_of more
    whole more = octets-headed jobs more ∙ ap (λ (ns : List ℕ). ns ++ octets_of more) (sym (made ∙ ap (map octet_of) right))

    pub puts : (a b : Device ℕ) → Grows a b octets → PutsBlock a b octets_of octets_of (headed_due (due_of head jobs))
    puts a b grows = (octets, grows, whole)

    pub part : (a b : Device ℕ) → GrowsByPart a b octets → PutsPartOf a b octets_of (headed_due (due_of head jobs))
    part a b grows = λ more. subst (GrowsByPart a b) (sym (whole more)) (grows_by_part-front a b octets (octets_of more) grows)

-- nothing was put
pub nothing : {H : Type 0} (a : Device ℕ) (jobs : List (Headed H)) → PutsPartOf a a octets_of jobs
nothing a jobs = λ more. grows_by_part-none a (octets_of (jobs ++ more))
