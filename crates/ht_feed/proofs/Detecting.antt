-- The hits of a block, one after another.
use Rattle.std.proofs.Common.{◌≡◌, ℕ, ◌+◌, ◌^◌, ◌<◌, suc, zero, List, [], ◌∷◌, ◌++◌, map, take, slice_get, Some, ap, ◌∙◌, subst, sym}
use Rattle.std.proofs.lemmas.List.{map-append, take_more}
use Rattle.std.proofs.lemmas.Option.{get_or_from_slice_get, none-some, same_Some, slice_get_within}
use Rattle.ht_metric.specs.Jobs.{JobView, near}
use Rattle.ht_metric.specs.declared.found.Found.{Found}
use Rattle.ht_feed.specs.Dues.{AreBounded}

-- the hit of one job more
pub found_next : (jobs : List JobView) (at : ℕ) (job : JobView) (found : List Found) → Some job ≡ slice_get jobs at → found ≡ map near (take at jobs)
    → found ++ near job ∷ [] ≡ map near (take (at + 1) jobs)
found_next jobs at job found is so =
    ap (λ (fs : List Found). fs ++ near job ∷ []) so
    ∙ (sym (map-append near (take at jobs) (job ∷ []))
    ∙ ap (map near) (ap (λ (j : JobView). take at jobs ++ j ∷ []) (sym (get_or_from_slice_get jobs at job job (sym is)))
    ∙ sym (take_more jobs at job (slice_get_within jobs at job (sym is)))))

-- a distance more is below 2^66
pub bounded_next : (found : List Found) (f : Found) → AreBounded found → f.distance < 2 ^ 66 → AreBounded (found ++ f ∷ [])
bounded_next [] f are below zero g is = subst (λ (x : Found). x.distance < 2 ^ 66) (same_Some f g is) below
bounded_next [] f are below (suc k) g is = absurd (none-some g is)
bounded_next (x ∷ xs) f are below zero g is = are zero g is
bounded_next (x ∷ xs) f are below (suc k) g is = bounded_next xs f (λ n y at. are (suc n) y at) below k g is

pub bounded_none : AreBounded []
bounded_none k f is = absurd (none-some f is)
