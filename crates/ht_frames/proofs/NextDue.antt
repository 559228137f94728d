-- Whether a job is due behind the first block.
use Rattle.std.proofs.Common.{◌≡◌, ◌≤◌, List, [], ◌∷◌, length, drop, slice_get, Some, arith}
use Rattle.std.proofs.Common.{ap, sym, subst, length-append}
use Rattle.std.proofs.lemmas.List.{length-map}
use Rattle.std.proofs.lemmas.Option.{none-some, same_Some}
use Rattle.ht_feed.specs.Items.{Headed, headed_of}
use Rattle.ht_feed.specs.Dues.{Due, all_due, headed_due}

-- a block that has a job comes to some
some_of : {H : Type 0} (d : Due H) (ds : List (Due H)) → 1 ≤ length d.jobs → all_due (d ∷ ds) ≡ [] → ⊥
some_of {H = H} d ds some none =
    let parts = length-append (headed_due d) (all_due ds) in
    let same = length-map d.jobs (headed_of d.head) in
    let is = ap (λ (hs : List (Headed H)). length hs) none in
    absurd (omega (arith, parts, same, is, some))

pub next_due : {H : Type 0} (ds : List (Due H)) (next : Due H) → slice_get ds 1 ≡ Some next → 1 ≤ length next.jobs → all_due (drop 1 ds) ≡ [] → ⊥
next_due [] next is some none = none-some next is
next_due (d ∷ []) next is some none = none-some next is
next_due (d ∷ e ∷ ds) next is some none =
    some_of e ds (subst (λ (x : Due _). 1 ≤ length x.jobs) (sym (same_Some e next is)) some) none
