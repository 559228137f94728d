-- Slots of jobs, as hits are booked and emitted.
use Rattle.std.proofs.Common.{◌≡◌, ◌≢◌, ℕ, zero, suc, ◌+◌, ◌<◌, ◌≤◌, List, [], ◌∷◌, ◌++◌, length, drop, map, Bool, true, false, cond, refl, sym, ap, ◌∙◌, arith}
use Rattle.std.proofs.lemmas.Bool.{false≢true}
use Rattle.std.specs.Prelude.{slice_get, slice_set, Option, Some, None, option_map}
use Rattle.ht_metric.specs.Jobs.{JobView}
use Rattle.ht_metric.specs.Hits.{found_of}
use Rattle.ht_metric.specs.declared.found.Found.{Found}
use Rattle.ht_metric.specs.declared.hit.Hit.{Hit}
use Rattle.ht_metric.proofs.Finding.{found_near}
use Rattle.ht_machine.specs.Machine.{has_number, hit_of, without}
use Rattle.std.proofs.lemmas.Option.{none-some, same_Some}
use Rattle.ht_machine.proofs.Numbers.{IsFrom}
use Rattle.ht_window.specs.declared.slot.Slot.{Slot}
use Rattle.ht_window.specs.Windows.{booked}
use Rattle.ht_machine.specs.Shown.{slot_of}

-- one more hit, of another number
more_from : (b : Bool) (m : ℕ) (x : Hit) (hits : List Hit) (hit : Hit) → hit_of m (hits ++ hit ∷ []) ≡ hit_of m hits
    → cond b (Some x) (hit_of m (hits ++ hit ∷ [])) ≡ cond b (Some x) (hit_of m hits)
more_from true m x hits hit rest = refl
more_from false m x hits hit rest = rest

other_from : (b : Bool) (m : ℕ) (hit : Hit) → has_number m hit ≡ b → hit.job.number ≢ m → cond b (Some hit) None ≡ None
other_from true m hit is other = absurd (other (let e : hit.job.number ≡ m = grind (arith, is) in e))
other_from false m hit is other = refl

pub hit_of_more : (m : ℕ) (hits : List Hit) (hit : Hit) → hit.job.number ≢ m → hit_of m (hits ++ hit ∷ []) ≡ hit_of m hits
hit_of_more m [] hit other = other_from (has_number m hit) m hit refl other
hit_of_more m (x ∷ hits) hit other = more_from (has_number m x) m x hits hit (hit_of_more m hits hit other)

-- of that number, where there was none
same_from : (b : Bool) (m : ℕ) (hit : Hit) → has_number m hit ≡ b → hit.job.number ≡ m → cond b (Some hit) None ≡ Some hit
same_from true m hit is same = refl
same_from false m hit is same = absurd (let e : has_number m hit ≡ true = grind (arith, same) in false≢true (sym is ∙ e))

behind_from : (b : Bool) (m : ℕ) (x : Hit) (hits : List Hit) (hit : Hit) → (hit_of m hits ≡ None → hit_of m (hits ++ hit ∷ []) ≡ Some hit)
    → cond b (Some x) (hit_of m hits) ≡ None → cond b (Some x) (hit_of m (hits ++ hit ∷ [])) ≡ Some hit
behind_from true m x hits hit rest none = absurd (none-some x (sym none))
behind_from false m x hits hit rest none = rest none

pub hit_of_new : (m : ℕ) (hits : List Hit) (hit : Hit) → hit.job.number ≡ m → hit_of m hits ≡ None → hit_of m (hits ++ hit ∷ []) ≡ Some hit
hit_of_new m [] hit same none = same_from (has_number m hit) m hit refl same
hit_of_new m (x ∷ hits) hit same none = behind_from (has_number m x) m x hits hit (hit_of_new m hits hit same) none

-- one hit less, of another number
less_from : (b d : Bool) (m n : ℕ) (x : Hit) (hits : List Hit) → has_number n x ≡ b → has_number m x ≡ d → m ≢ n → hit_of m (without n hits) ≡ hit_of m hits
    → hit_of m (cond b hits (x ∷ without n hits)) ≡ cond d (Some x) (hit_of m hits)
less_from true true m n x hits is has other rest = absurd (other (let e : m ≡ n = grind (arith, is, has) in e))
less_from true false m n x hits is has other rest = refl
less_from false d m n x hits is has other rest =
    ap (λ (o : Option Hit). cond (has_number m x) (Some x) o) rest ∙ ap (λ (b : Bool). cond b (Some x) (hit_of m hits)) has

pub hit_of_less : (m n : ℕ) (hits : List Hit) → m ≢ n → hit_of m (without n hits) ≡ hit_of m hits
hit_of_less m n [] other = refl
hit_of_less m n (x ∷ hits) other = less_from (has_number n x) (has_number m x) m n x hits refl refl other (hit_of_less m n hits other)

-- slots behind a number don't see it
pub slots_more : (off n : ℕ) (jobs : List JobView) (hits : List Hit) (hit : Hit) → IsFrom off jobs → n < off → hit.job.number ≡ n
    → map (slot_of (hits ++ hit ∷ [])) jobs ≡ map (slot_of hits) jobs
slots_more off n [] hits hit from lt same = refl
slots_more off n (j ∷ jobs) hits hit from lt same =
    let with_hit : Option Hit → Slot = λ o. record { job = j; found = option_map found_of o } in
    let is = from 0 j refl in
    let other : hit.job.number ≢ j.number = omega (arith, is, lt, same) in
    let next : IsFrom (suc off) jobs = λ k i e. (let at = from (suc k) i e in omega (arith, at)) in
    ap (λ (s : Slot). s ∷ map (slot_of (hits ++ hit ∷ [])) jobs) (ap with_hit (hit_of_more j.number hits hit other))
    ∙ ap (λ (ss : List Slot). slot_of hits j ∷ ss) (slots_more (suc off) n jobs hits hit next (omega (arith, lt)) same)

pub slots_less : (off n : ℕ) (jobs : List JobView) (hits : List Hit) → IsFrom off jobs → n < off → map (slot_of (without n hits)) jobs ≡ map (slot_of hits) jobs
slots_less off n [] hits from lt = refl
slots_less off n (j ∷ jobs) hits from lt =
    let with_hit : Option Hit → Slot = λ o. record { job = j; found = option_map found_of o } in
    let is = from 0 j refl in
    let other : j.number ≢ n = omega (arith, is, lt) in
    let next : IsFrom (suc off) jobs = λ k i e. (let at = from (suc k) i e in omega (arith, at)) in
    ap (λ (s : Slot). s ∷ map (slot_of (without n hits)) jobs) (ap with_hit (hit_of_less j.number n hits other))
    ∙ ap (λ (ss : List Slot). slot_of hits j ∷ ss) (slots_less (suc off) n jobs hits next (omega (arith, lt)))

-- what a booked hit says was found stands in the slot of its job
pub slots_booked : (off d : ℕ) (jobs : List JobView) (hits : List Hit) (hit : Hit)
    → IsFrom off jobs → hit.job.number ≡ off + d → slice_get jobs d ≡ Some hit.job
    → hit_of hit.job.number hits ≡ None
    → map (slot_of (hits ++ hit ∷ [])) jobs ≡ slice_set (map (slot_of hits) jobs) d (booked hit.job)
slots_booked off d [] hits hit from is here none = refl
slots_booked off zero (j ∷ jobs) hits hit from is here none =
    let same : j ≡ hit.job = same_Some j hit.job here in
    let slot : Option Found → Slot = λ f. record { job = hit.job; found = f } in
    let now : slot_of (hits ++ hit ∷ []) j ≡ booked hit.job =
    ap (λ (i : JobView). slot_of (hits ++ hit ∷ []) i) same
    ∙ ap (λ (o : Option Hit). slot (option_map found_of o)) (hit_of_new hit.job.number hits hit refl none)
    ∙ ap (λ (f : Found). slot (Some f)) (found_near hit) in
    let next : IsFrom (suc off) jobs = λ k i e. (let at = from (suc k) i e in omega (arith, at)) in
    ap (λ (s : Slot). s ∷ map (slot_of (hits ++ hit ∷ [])) jobs) now
    ∙ ap (λ (ss : List Slot). booked hit.job ∷ ss) (slots_more (suc off) hit.job.number jobs hits hit next (omega (arith, is)) refl)
slots_booked off (suc d) (j ∷ jobs) hits hit from is here none =
    let with_hit : Option Hit → Slot = λ o. record { job = j; found = option_map found_of o } in
    let at = from 0 j refl in
    let other : hit.job.number ≢ j.number = omega (arith, is, at) in
    let next : IsFrom (suc off) jobs = λ k i e. (let at = from (suc k) i e in omega (arith, at)) in
    ap (λ (s : Slot). s ∷ map (slot_of (hits ++ hit ∷ [])) jobs) (ap with_hit (hit_of_more j.number hits hit other))
    ∙ ap (λ (ss : List Slot). slot_of hits j ∷ ss) (slots_booked (suc off) d jobs hits hit next (omega (arith, is)) here none)

pub slot_at : (hits : List Hit) (jobs : List JobView) (k : ℕ) (s : Slot) → slice_get (map (slot_of hits) jobs) k ≡ Some s
    → (j : JobView) × (slice_get jobs k ≡ Some j) × (s ≡ slot_of hits j)
slot_at hits [] k s e = absurd (none-some s e)
slot_at hits (j ∷ jobs) zero s e = (j, refl, sym (same_Some (slot_of hits j) s e))
slot_at hits (j ∷ jobs) (suc k) s e = slot_at hits jobs k s e

pub slot_there : (hits : List Hit) (jobs : List JobView) (k : ℕ) (j : JobView)
    → slice_get jobs k ≡ Some j → slice_get (map (slot_of hits) jobs) k ≡ Some (slot_of hits j)
slot_there hits [] k j e = absurd (none-some j e)
slot_there hits (i ∷ jobs) zero j e = ap (λ (x : JobView). Some (slot_of hits x)) (same_Some i j e)
slot_there hits (i ∷ jobs) (suc k) j e = slot_there hits jobs k j e

pub get_drop : (n k : ℕ) (jobs : List JobView) → slice_get (drop n jobs) k ≡ slice_get jobs (n + k)
get_drop zero k jobs = ap (λ (i : ℕ). slice_get jobs i) (let e : k ≡ 0 + k = omega arith in e)
get_drop (suc n) k [] = refl
get_drop (suc n) k (j ∷ jobs) = get_drop n k jobs ∙ ap (λ (i : ℕ). slice_get (j ∷ jobs) i) (let e : suc (n + k) ≡ suc n + k = omega arith in e)

pub drop_more : (n : ℕ) (jobs : List JobView) (job : JobView) → n ≤ length jobs → drop n (jobs ++ job ∷ []) ≡ drop n jobs ++ job ∷ []
drop_more zero jobs job few = refl
drop_more (suc n) [] job few = absurd (omega (arith, few))
drop_more (suc n) (j ∷ jobs) job few = drop_more n jobs job (omega (arith, few))

pub slots_append : (hits : List Hit) (jobs more : List JobView) → map (slot_of hits) (jobs ++ more) ≡ map (slot_of hits) jobs ++ map (slot_of hits) more
slots_append hits [] more = refl
slots_append hits (j ∷ jobs) more = ap (λ (ss : List Slot). slot_of hits j ∷ ss) (slots_append hits jobs more)

pub slots_length : (hits : List Hit) (jobs : List JobView) → length (map (slot_of hits) jobs) ≡ length jobs
slots_length hits [] = refl
slots_length hits (j ∷ jobs) = ap (λ (n : ℕ). suc n) (slots_length hits jobs)
