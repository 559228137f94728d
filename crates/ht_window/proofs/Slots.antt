-- A list of slots as a window changes it.
use Rattle.std.proofs.Common.{◌≡◌, ℕ, zero, suc, ◌+◌, ◌-◌, ◌^◌, ◌<◌, ◌≤◌, List, [], ◌∷◌, ◌++◌}
use Rattle.std.proofs.Common.{length, drop, refl, sym, ap, ◌∙◌, subst, arith}
use Rattle.std.proofs.lemmas.List.{length-append}
use Rattle.std.proofs.lemmas.Option.{none-some, same_Some}
use Rattle.std.specs.Prelude.{slice_get, slice_set, Some}
use Rattle.circular_buffer.specs.Buffer.{keep_last}
use Rattle.ht_metric.specs.Jobs.{JobView, near}
use Rattle.ht_metric.specs.declared.found.Found.{Found}
use Rattle.ht_window.specs.declared.slot.Slot.{Slot}
use Rattle.ht_window.specs.Windows.{IsWindow, unbooked, booked, jobs}

pub slice_get-tail : (xs : List Slot) (k : ℕ) → slice_get (drop 1 xs) k ≡ slice_get xs (suc k)
slice_get-tail [] k = refl
slice_get-tail (x ∷ xs) k = refl

-- the element of a list with one more: one of the list, or the new one at its end
pub slice_get-more : (xs : List Slot) (new : Slot) (k : ℕ) (s : Slot) → (P : ℕ → Slot → Type 0)
    → ((i : ℕ) (t : Slot) → slice_get xs i ≡ Some t → P i t) → P (length xs) new → slice_get (xs ++ new ∷ []) k ≡ Some s → P k s
slice_get-more [] new zero s P all last e = subst (λ (t : Slot). P 0 t) (same_Some new s e) last
slice_get-more [] new (suc k) s P all last e = absurd (none-some s e)
slice_get-more (x ∷ xs) new zero s P all last e = all 0 s e
slice_get-more (x ∷ xs) new (suc k) s P all last e = slice_get-more xs new k s (λ i t. P (suc i) t) (λ i t p. all (suc i) t p) last e

-- the element of a list in which one was put
pub slice_get-put : (xs : List Slot) (at : ℕ) (new : Slot) (k : ℕ) (s : Slot) → (P : ℕ → Slot → Type 0)
    → ((i : ℕ) (t : Slot) → slice_get xs i ≡ Some t → P i t) → P at new → slice_get (slice_set xs at new) k ≡ Some s → P k s
slice_get-put [] at new k s P all put e = absurd (none-some s e)
slice_get-put (x ∷ xs) zero new zero s P all put e = subst (λ (t : Slot). P 0 t) (same_Some new s e) put
slice_get-put (x ∷ xs) zero new (suc k) s P all put e = all (suc k) s e
slice_get-put (x ∷ xs) (suc at) new zero s P all put e = all 0 s e
slice_get-put (x ∷ xs) (suc at) new (suc k) s P all put e = slice_get-put xs at new k s (λ i t. P (suc i) t) (λ i t p. all (suc i) t p) put e

-- what is put back is no change
pub put_same : (xs : List Slot) (at : ℕ) (s : Slot) → slice_get xs at ≡ Some s → slice_set xs at s ≡ xs
put_same [] at s e = refl
put_same (x ∷ xs) zero s e = ap (λ (t : Slot). t ∷ xs) (sym (same_Some x s e))
put_same (x ∷ xs) (suc at) s e = ap (λ (ys : List Slot). x ∷ ys) (put_same xs at s e)

-- a slot with the same job changes no job
pub jobs_put : (xs : List Slot) (at : ℕ) (old new : Slot) → slice_get xs at ≡ Some old → old.job ≡ new.job → jobs (slice_set xs at new) ≡ jobs xs
jobs_put [] at old new e same = refl
jobs_put (x ∷ xs) zero old new e same = ap (λ (j : JobView). j ∷ jobs xs) (sym same ∙ ap (λ (t : Slot). t.job) (sym (same_Some x old e)))
jobs_put (x ∷ xs) (suc at) old new e same = ap (λ (js : List JobView). x.job ∷ js) (jobs_put xs at old new e same)

pub length_put : (xs : List Slot) (at : ℕ) (new : Slot) → length (slice_set xs at new) ≡ length xs
length_put [] at new = refl
length_put (x ∷ xs) zero new = refl
length_put (x ∷ xs) (suc at) new = ap (λ (n : ℕ). suc n) (length_put xs at new)

-- one more job
pub issued : (capacity front : ℕ) (slots : List Slot) (job : JobView) → IsWindow (record { capacity = capacity; front = front; slots = slots })
    → length slots < capacity → job.number ≡ front + length slots → job.number < 2 ^ 64 - 1
    → IsWindow (record { capacity = capacity; front = front; slots = slots ++ unbooked job ∷ [] })
issued capacity front slots job w free next last = record {
  some = w.some;
  few = w.few;
  within = omega (arith, free, length-append slots (unbooked job ∷ []));
  last = omega (arith, next, last, length-append slots (unbooked job ∷ []));
  numbered = λ k s e. slice_get-more slots (unbooked job) k s (λ i t. t.job.number ≡ front + i) w.numbered next e;
  own = λ k s found e f. slice_get-more slots (unbooked job) k s (λ i t. (other : Found) → t.found ≡ Some other → other ≡ near t.job)
      (λ i t p other q. w.own i t other p q) (λ other q. absurd (none-some other q)) e found f;
}

-- the first slot is out
pub emitted : (capacity front : ℕ) (slots : List Slot) → IsWindow (record { capacity = capacity; front = front; slots = slots }) → 0 < length slots
    → IsWindow (record { capacity = capacity; front = front + 1; slots = drop 1 slots })
emitted capacity front [] w some = absurd (omega (arith, some))
emitted capacity front (x ∷ xs) w some = record {
  some = w.some;
  few = w.few;
  within = let within = w.within in omega (arith, within);
  last = let last = w.last in omega (arith, last);
  numbered = λ k s e. let is = w.numbered (suc k) s e in omega (arith, is);
  own = λ k s found e f. w.own (suc k) s found e f;
}

-- what was found is in the slot of its job
pub accepted : (capacity front at : ℕ) (slots : List Slot) (job : JobView) → IsWindow (record { capacity = capacity; front = front; slots = slots })
    → slice_get slots at ≡ Some (unbooked job)
    → IsWindow (record { capacity = capacity; front = front; slots = slice_set slots at (booked job) })
accepted capacity front at slots job w is = record {
  some = w.some;
  few = w.few;
  within = let within = w.within in omega (arith, within, length_put slots at (booked job));
  last = let last = w.last in omega (arith, last, length_put slots at (booked job));
  numbered = λ k s e. slice_get-put slots at (booked job) k s (λ i t. t.job.number ≡ front + i) w.numbered (w.numbered at (unbooked job) is) e;
  own = λ k s found e f. slice_get-put slots at (booked job) k s (λ i t. (other : Found) → t.found ≡ Some other → other ≡ near t.job)
      (λ i t p other q. w.own i t other p q) (λ other q. sym (same_Some (near job) other q)) e found f;
}

pub keep_all : (n : ℕ) (xs : List Slot) → length xs ≤ n → keep_last n xs ≡ xs
keep_all n xs few = let e : length xs - n ≡ 0 = omega (arith, few) in rw e refl
