-- Where the slot of a job is.
use Rattle.std.proofs.Common.{◌≡◌, ◌≢◌, ◌↔◌, ℕ, suc, ◌-◌, List, [], ◌∷◌, Bool, true}
use Rattle.std.proofs.Common.{false, refl, sym, ap, ◌∙◌, subst, arith}
use Rattle.std.proofs.lemmas.Bool.{false≢true}
use Rattle.std.specs.Prelude.{slice_get, slice_set, Option, Some, None, is_some}
use Rattle.ht_metric.specs.Jobs.{JobView, near}
use Rattle.ht_metric.specs.declared.found.Found.{Found}
use Rattle.ht_window.specs.declared.slot.Slot.{Slot}
use Rattle.ht_window.specs.Windows.{WindowView, IsWindow, unbooked, booked, jobs, first_unbooked, job_without}
use Rattle.std.proofs.lemmas.Option.{none-some, same_Some}
use Rattle.ht_window.proofs.Slots.{accepted, jobs_put}
use Rattle.circular_buffer.specs.Buffer.{Buffer, buffer}
use Rattle.ht_window.specs.declared.window.Accepted.{Accepted}
use Rattle.ht_window.specs.declared.window.Accepted.TheVariants.{Booked, Twice, Stranger}
use Rattle.ht_window.specs.Accepting.{Accepts, IsUnbooked, IsBooked, IsStrange}

-- a slot of this job is at the job's number
pub at_number : (w : WindowView) (k at : ℕ) (s : Slot) (job : JobView) → IsWindow w
    → at ≡ job.number - w.front → slice_get w.slots k ≡ Some s → s.job ≡ job → k ≡ at
at_number w k at s job ok is e same =
    let n = ok.numbered k s e in
    let m : s.job.number ≡ job.number = ap (λ (j : JobView). j.number) same in
    omega (arith, is, n, m)

pub unbooked_where : (w : WindowView) (at : ℕ) (job : JobView) (A : Type 0) → IsWindow w → at ≡ job.number - w.front
    → (A ↔ (slice_get w.slots at ≡ Some (unbooked job))) → A ↔ IsUnbooked w job
unbooked_where w at job A ok is cases = (
  λ a. (at, cases.0 a),
  λ p. cases.1
      (subst (λ (k : ℕ). slice_get w.slots k ≡ Some (unbooked job)) (at_number w p.0 at (unbooked job) job ok is p.1 refl) p.1),
)

pub booked_where : (w : WindowView) (at : ℕ) (job : JobView) (A : Type 0) → IsWindow w → at ≡ job.number - w.front
    → (A ↔ ((other : Found) × (slice_get w.slots at ≡ Some (record { job = job; found = Some other })))) → A ↔ IsBooked w job
booked_where w at job A ok is cases = (
  λ a. let p = cases.0 a in
      let with_found : Found → Slot = λ f. record { job = job; found = Some f } in
      (at, p.1 ∙ ap (λ (f : Found). Some (with_found f)) (ok.own at (with_found p.0) p.0 p.1 refl)),
  λ p. cases.1
      (near job, subst (λ (k : ℕ). slice_get w.slots k ≡ Some (booked job)) (at_number w p.0 at (booked job) job ok is p.1 refl) p.1),
)

pub strange_where : (w : WindowView) (at : ℕ) (job : JobView) (A : Type 0) → IsWindow w → at ≡ job.number - w.front
    → (A ↔ ((s : Slot) → slice_get w.slots at ≡ Some s → s.job ≢ job)) → A ↔ IsStrange w job
strange_where w at job A ok is cases = (
  λ a k s e same. cases.0 a s (subst (λ (i : ℕ). slice_get w.slots i ≡ Some s) (at_number w k at s job ok is e same) e) same,
  λ all. cases.1 (λ s e same. all at s e same),
)

-- a slot that doesn't wait
has_found_of : (slots : List Slot) (at : ℕ) (s : Slot) (found : Option Found) (job : JobView)
    → slice_get slots at ≡ Some s → s.job ≡ job → s.found ≡ found → is_some found ≡ true
    → (other : Found) × (slice_get slots at ≡ Some (record { job = job; found = Some other }))
has_found_of slots at s None job e same is some = absurd (false≢true some)
has_found_of slots at s (Some other) job e same is some =
    let with_job : Slot → JobView → Slot = λ t j. record { job = j; found = t.found } in
    let with_found : Option Found → Slot = λ f. record { job = job; found = f } in
    (other, e ∙ ap (λ (j : JobView). Some (with_job s j)) same ∙ ap (λ (f : Option Found). Some (with_found f)) is)

pub has_found : (slots : List Slot) (at : ℕ) (s : Slot) (job : JobView) → slice_get slots at ≡ Some s → s.job ≡ job → is_some s.found ≡ true
    → (other : Found) × (slice_get slots at ≡ Some (record { job = job; found = Some other }))
has_found slots at s job e same some = has_found_of slots at s s.found job e same refl some

-- the first job that waits stands in a slot
first_unbooked_from : (s : Slot) (rest : List Slot) (job : JobView) (found : Option Found) → s.found ≡ found
    → (first_unbooked rest ≡ Some job → (k : ℕ) × (slice_get rest k ≡ Some (unbooked job))) → job_without found s.job (first_unbooked rest) ≡ Some job
    → (k : ℕ) × (slice_get (s ∷ rest) k ≡ Some (unbooked job))
first_unbooked_from s rest job None is later e =
    let with_found : Option Found → Slot = λ f. record { job = s.job; found = f } in
    (0, ap (λ (f : Option Found). Some (with_found f)) is ∙ ap (λ (j : JobView). Some (unbooked j)) (same_Some s.job job e))
first_unbooked_from s rest job (Some found) is later e = let p = later e in (suc p.0, p.1)

pub first_unbooked_where : (slots : List Slot) (job : JobView) → first_unbooked slots ≡ Some job → (k : ℕ) × (slice_get slots k ≡ Some (unbooked job))
first_unbooked_where [] job e = absurd (none-some job e)
first_unbooked_where (s ∷ rest) job e = first_unbooked_from s rest job s.found refl (first_unbooked_where rest job) e

abbrev is_it : Accepted → Bool
is_it Booked = true
is_it Twice = false
is_it Stranger = false

-- what the three answers leave is a window, and has the same jobs
pub kept : (front at : ℕ) (old new : Buffer Slot) (job : JobView) (answer : Accepted)
    → IsWindow (record { capacity = old.capacity; front = front; slots = old.items })
    → (answer ≡ Booked → slice_get old.items at ≡ Some (unbooked job))
    → (answer ≡ Booked → new ≡ buffer (slice_set old.items at (booked job)) old.capacity) → (answer ≢ Booked → new ≡ old)
    → IsWindow (record { capacity = new.capacity; front = front; slots = new.items }) × (jobs new.items ≡ jobs old.items)
kept front at old new job Booked w is books refused =
    let e = books refl in
    let here = is refl in (
      subst (λ (b : Buffer Slot). IsWindow (record { capacity = b.capacity; front = front; slots = b.items }))
          (sym e) (accepted old.capacity front at old.items job w here),
      ap (λ (b : Buffer Slot). jobs b.items) e ∙ jobs_put old.items at (unbooked job) (booked job) here refl,
    )
kept front at old new job Twice w is books refused =
    let e = refused (λ q. false≢true (ap is_it q)) in (
      subst (λ (b : Buffer Slot). IsWindow (record { capacity = b.capacity; front = front; slots = b.items })) (sym e) w,
      ap (λ (b : Buffer Slot). jobs b.items) e,
    )
kept front at old new job Stranger w is books refused =
    let e = refused (λ q. false≢true (ap is_it q)) in (
      subst (λ (b : Buffer Slot). IsWindow (record { capacity = b.capacity; front = front; slots = b.items })) (sym e) w,
      ap (λ (b : Buffer Slot). jobs b.items) e,
    )

-- what is shown of slots, the first of which has this number
abbrev shown : ℕ → Buffer Slot → WindowView
shown front slots = record { capacity = slots.capacity; front = front; slots = slots.items }

-- what the answers say of the slot at the job's number, they say of the window
pub accepts : (front at : ℕ) (old new : Buffer Slot) (job : JobView) (answer : Accepted) → IsWindow (shown front old) → at ≡ job.number - front
    → (answer ≡ Booked ↔ (slice_get old.items at ≡ Some (unbooked job)))
    → (answer ≡ Twice ↔ ((other : Found) × (slice_get old.items at ≡ Some (record { job = job; found = Some other }))))
    → (answer ≡ Stranger ↔ ((s : Slot) → slice_get old.items at ≡ Some s → s.job ≢ job))
    → (answer ≡ Booked → new ≡ buffer (slice_set old.items at (booked job)) old.capacity) → (answer ≢ Booked → new ≡ old)
    → Accepts (shown front old) job answer (shown front new)
accepts front at old new job answer w is is_booked is_twice is_strange books refused =
    let stays = kept front at old new job answer w is_booked.0 books refused in
    let with_slots : List Slot → WindowView = λ slots. record { capacity = old.capacity; front = front; slots = slots } in
    record {
      booked = unbooked_where (shown front old) at job (answer ≡ Booked) w is is_booked;
      twice = booked_where (shown front old) at job (answer ≡ Twice) w is is_twice;
      stranger = strange_where (shown front old) at job (answer ≡ Stranger) w is is_strange;
      books = λ e. ap (shown front) (books e) ∙ ap (λ (k : ℕ). with_slots (slice_set old.items k (booked job))) is;
      refused = λ n. ap (shown front) (refused n);
      jobs = stays.1;
      window = stays.0;
    }
