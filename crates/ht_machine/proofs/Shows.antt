-- What a window shows of each event.
use Rattle.std.proofs.Common.{◌≡◌, ℕ, zero, suc, ◌+◌, ◌-◌, ◌^◌, ◌<◌, ◌≤◌, List, [], ◌∷◌, ◌++◌, length}
use Rattle.std.proofs.Common.{drop, take, map, Bool, true, false, refl, sym, ap, ◌∙◌, subst, arith}
use Rattle.std.proofs.lemmas.List.{length-append, length-drop, length-take}
use Rattle.std.proofs.lemmas.Option.{slice_get_within}
use Rattle.std.proofs.lemmas.Bool.{false≢true}
use Rattle.std.specs.Prelude.{slice_get, slice_set, Option, Some, None, is_some, option_map, IfSome}
use Rattle.std.specs.Option.{option_to_list}
use Rattle.std.specs.List.{sum_by}
use Rattle.ht_metric.specs.Jobs.{JobView, near}
use Rattle.ht_metric.specs.Hits.{found_of, parts_of}
use Rattle.ht_metric.specs.declared.found.Found.{Found}
use Rattle.ht_metric.specs.declared.hit.Hit.{Hit}
use Rattle.ht_metric.proofs.Finding.{found_near}
use Rattle.ht_machine.specs.declared.event.Event.TheVariants.{Issue, Emit}
use Rattle.ht_machine.specs.declared.event.Spot.{Spot}
use Rattle.ht_machine.specs.declared.event.Spot.TheVariants.{Hand, Deque, Results, Booked, Emitted}
use Rattle.ht_machine.specs.Machine.{MachineView, IsEnabled, hit_of, without}
use Rattle.ht_machine.specs.Facts.{IsMachine, IsIssued, jobs_of, numbered, jobs_at}
use Rattle.std.proofs.lemmas.Option.{none-some, same_Some}
use Rattle.ht_machine.proofs.Lists.{some_is, found_number, all_hit_of}
use Rattle.ht_machine.proofs.Numbers.{one_of, IsFrom, present, hit_counts}
use Rattle.ht_machine.proofs.Kept.{emitted_few}
use Rattle.ht_machine.proofs.Going.{from_zero, taken_from}
use Rattle.ht_machine.proofs.Places.{one_place}
use Rattle.ht_window.specs.declared.slot.Slot.{Slot}
use Rattle.ht_window.specs.Windows.{IsWindow, unbooked, booked, front_hit}
use Rattle.ht_window.specs.Accepting.{IsUnbooked}
use Rattle.ht_machine.specs.Shown.{slot_of, window_of}
use Rattle.ht_machine.proofs.Slots.{slots_less, slots_booked, slot_at, slot_there, get_drop, drop_more, slots_append, slots_length}

-- the jobs that are issued and not emitted
abbrev left : MachineView → List JobView
left c = drop (length c.emitted) c.issued

left_from : (c : MachineView) → IsMachine c → IsFrom (length c.emitted) (left c)
left_from c w k j e = w.numbered (length c.emitted + k) j (sym (get_drop (length c.emitted) k c.issued) ∙ e)

-- a booked hit is of an issued job
booked_is : (c : MachineView) → IsMachine c → (n : ℕ) (hit : Hit) → hit_of n c.booked ≡ Some hit → IsIssued c.issued hit.job
booked_is c w n hit e =
    subst (λ (o : Option Hit). IfSome o (λ x. IsIssued c.issued x.job)) e (all_hit_of (λ (x : Hit). IsIssued c.issued x.job) n c.booked w.in_booked)

result_is : (c : MachineView) → IsMachine c → (n : ℕ) (hit : Hit) → hit_of n c.results ≡ Some hit → IsIssued c.issued hit.job
result_is c w n hit e =
    subst (λ (o : Option Hit). IfSome o (λ x. IsIssued c.issued x.job)) e (all_hit_of (λ (x : Hit). IsIssued c.issued x.job) n c.results w.in_results)

own_hit : (c : MachineView) → IsMachine c → (k : ℕ) (j : JobView) (hit : Hit) → slice_get (left c) k ≡ Some j → hit_of j.number c.booked ≡ Some hit
    → hit.job ≡ j
own_hit c w k j hit at e =
    let there : slice_get c.issued (length c.emitted + k) ≡ Some j = sym (get_drop (length c.emitted) k c.issued) ∙ at in
    let number : j.number ≡ length c.emitted + k = w.numbered (length c.emitted + k) j there in
    let issued : slice_get c.issued hit.job.number ≡ Some hit.job = booked_is c w j.number hit e in
    let same : hit.job.number ≡ length c.emitted + k = found_number j.number c.booked hit e ∙ number in
    same_Some hit.job j (sym issued ∙ ap (λ (i : ℕ). slice_get c.issued i) same ∙ there)

-- what is in the slot of a job is the first nearest vector of the job
own_found : (c : MachineView) → IsMachine c → (k : ℕ) (j : JobView) (found : Found) (o : Option Hit)
    → slice_get (left c) k ≡ Some j → hit_of j.number c.booked ≡ o → option_map found_of o ≡ Some found → found ≡ near j
own_found c w k j found None at is e = absurd (none-some found e)
own_found c w k j found (Some hit) at is e =
    sym (same_Some (found_of hit) found e) ∙ found_near hit ∙ ap (λ (job : JobView). near job) (own_hit c w k j hit at is)

pub window_is : (c : MachineView) → IsMachine c → length c.issued < 2 ^ 64 → IsWindow (window_of c)
window_is c w few =
    let before = emitted_few c w in
    let room = w.window in
    let long = slots_length c.booked (left c) in
    let rest = length-drop (length c.emitted) c.issued in
    record {
      some = w.wide;
      few = w.narrow;
      within = omega (arith, room, long, rest);
      last = omega (arith, few, long, rest, before);
      numbered = λ k s e. (
          let p = slot_at c.booked (left c) k s e in
          ap (λ (t : Slot). t.job.number) p.2 ∙ left_from c w k p.0 p.1);
      own = λ k s found e f. (
          let p = slot_at c.booked (left c) k s e in
          own_found c w k p.0 found (hit_of p.0.number c.booked) p.1 refl (ap (λ (t : Slot). t.found) (sym p.2) ∙ f)
          ∙ ap (λ (t : Slot). near t.job) (sym p.2));
    }

slots_long : (c : MachineView) → length (window_of c).slots ≡ length c.issued - length c.emitted
slots_long c = slots_length c.booked (left c) ∙ length-drop (length c.emitted) c.issued

pub issue_free : (c : MachineView) (job : JobView) → IsMachine c → IsEnabled c (Issue job) → length (window_of c).slots < (window_of c).capacity
issue_free c job w on = let room = on.1 in let wide = w.wide in omega (arith, slots_long c, room, wide)

pub issue_next : (c : MachineView) (job : JobView) → IsMachine c → IsEnabled c (Issue job) → job.number ≡ (window_of c).front + length (window_of c).slots
issue_next c job w on = let number = on.2 in omega (arith, slots_long c, number, emitted_few c w)

-- no hit of a job that isn't issued is booked
not_booked_from : (c : MachineView) → IsMachine c → (n : ℕ) (o : Option Hit) → hit_of n c.booked ≡ o → length c.issued ≤ n → hit_of n c.booked ≡ None
not_booked_from c w n None e ge = e
not_booked_from c w n (Some hit) e ge =
    let within = slice_get_within c.issued hit.job.number hit.job (booked_is c w n hit e) in
    absurd (omega (arith, within, ge, found_number n c.booked hit e))

pub issue_shown : (c : MachineView) (job : JobView) → IsMachine c → IsEnabled c (Issue job)
    → map (slot_of c.booked) (drop (length c.emitted) (c.issued ++ job ∷ [])) ≡ map (slot_of c.booked) (left c) ++ unbooked job ∷ []
issue_shown c job w on =
    let number = on.2 in
    let with_hit : Option Hit → Slot = λ o. record { job = job; found = option_map found_of o } in
    let none = not_booked_from c w job.number (hit_of job.number c.booked) refl (omega (arith, number)) in
    ap (λ (js : List JobView). map (slot_of c.booked) js) (drop_more (length c.emitted) c.issued job (emitted_few c w))
    ∙ slots_append c.booked (left c) (job ∷ [])
    ∙ ap (λ (o : Option Hit). map (slot_of c.booked) (left c) ++ with_hit o ∷ []) none

-- a result's job is neither emitted nor booked
result_behind_from : (c : MachineView) → IsMachine c → (n : ℕ) → numbered n (jobs_of c.emitted) ≡ 0
    → n < length c.issued → (d : ℕ) → length c.emitted - n ≡ d → length c.emitted ≤ n
result_behind_from c w n none lt zero e = omega (arith, e)
result_behind_from c w n none lt (suc d) e =
    let few = emitted_few c w in
    let one = present n 0 n (take (length c.emitted) c.issued) (taken_from c.issued (length c.emitted) (from_zero c w))
    (omega arith) (omega (arith, e, few, length-take (length c.emitted) c.issued)) in
    let same : numbered n (jobs_of c.emitted) ≡ sum_by (one_of n) (take (length c.emitted) c.issued) =
    ap (λ (js : List JobView). sum_by (one_of n) js) w.emitted in
    absurd (omega (arith, one, none, same))

no_hit_from : (n : ℕ) (hits : List Hit) (o : Option Hit) → hit_of n hits ≡ o → numbered n (jobs_of hits) ≡ 0 → hit_of n hits ≡ None
no_hit_from n hits None e none = e
no_hit_from n hits (Some hit) e none = let some = hit_counts n hits (ap (λ (o : Option Hit). is_some o) e) in absurd (omega (arith, some, none))

-- where the slot of a result's job is, and that it waits
pub record Waits (c : MachineView) (n : ℕ) (hit : Hit) : Type 0 where
  pub number : hit.job.number ≡ n
  pub behind : length c.emitted ≤ n
  pub there : slice_get (left c) (n - length c.emitted) ≡ Some hit.job
  pub none : hit_of n c.booked ≡ None

abbrev is_results : Spot → Bool
is_results (Hand a) = false
is_results (Deque a) = false
is_results Results = true
is_results Booked = false
is_results Emitted = false

pub waits : (c : MachineView) (n : ℕ) (hit : Hit) → IsMachine c → hit_of n c.results ≡ Some hit → Waits c n hit
waits c n hit w e =
    let some : 0 < numbered n (jobs_at c Results) = hit_counts n c.results (ap (λ (o : Option Hit). is_some o) e) in
    let p = one_place c w n Results some in
    let no_emitted : numbered n (jobs_of c.emitted) ≡ 0 = p.2 Emitted (λ same. false≢true (ap is_results same)) in
    let no_booked : numbered n (jobs_of c.booked) ≡ 0 = p.2 Booked (λ same. false≢true (ap is_results same)) in
    let number = found_number n c.results hit e in
    let behind = result_behind_from c w n no_emitted p.0 (length c.emitted - n) refl in
    let issued : slice_get c.issued hit.job.number ≡ Some hit.job = result_is c w n hit e in
    let at : length c.emitted + (n - length c.emitted) ≡ hit.job.number = omega (arith, number, behind) in
    record {
      number = number;
      behind = behind;
      there = get_drop (length c.emitted) (n - length c.emitted) c.issued ∙ ap (λ (i : ℕ). slice_get c.issued i) at ∙ issued;
      none = no_hit_from n c.booked (hit_of n c.booked) refl no_booked;
    }

pub accept_unbooked : (c : MachineView) (n : ℕ) (hit : Hit) → IsMachine c → hit_of n c.results ≡ Some hit → IsUnbooked (window_of c) hit.job
accept_unbooked c n hit w e =
    let p = waits c n hit w e in
    let slot : Option Hit → Slot = λ o. record { job = hit.job; found = option_map found_of o } in (
      n - length c.emitted,
      slot_there c.booked (left c) (n - length c.emitted) hit.job p.there
          ∙ ap (λ (i : ℕ). Some (slot (hit_of i c.booked))) p.number ∙ ap (λ (o : Option Hit). Some (slot o)) p.none,
    )

pub accept_shown : (c : MachineView) (n : ℕ) (hit : Hit) → IsMachine c → hit_of n c.results ≡ Some hit
    → map (slot_of (c.booked ++ option_to_list (hit_of n c.results))) (left c)
    ≡ slice_set (map (slot_of c.booked) (left c)) (hit.job.number - length c.emitted) (booked hit.job)
accept_shown c n hit w e =
    let p = waits c n hit w e in
    let number = p.number in
    let behind = p.behind in
    let there : slice_get (left c) (hit.job.number - length c.emitted) ≡ Some hit.job =
    ap (λ (i : ℕ). slice_get (left c) (i - length c.emitted)) number ∙ p.there in
    ap (λ (o : Option Hit). map (slot_of (c.booked ++ option_to_list o)) (left c)) e
    ∙ slots_booked (length c.emitted) (hit.job.number - length c.emitted) (left c) c.booked hit (left_from c w) (omega (arith, number, behind)) there
    (ap (λ (i : ℕ). hit_of i c.booked) number ∙ p.none)

-- what the hit of the first job says is that job and what was found for it
own_parts : (c : MachineView) → IsMachine c → (j : JobView) (o : Option Hit) → slice_get (left c) 0 ≡ Some j → hit_of j.number c.booked ≡ o
    → option_map parts_of o ≡ option_map (λ found. (j, found)) (option_map found_of o)
own_parts c w j None first is = refl
own_parts c w j (Some hit) first is =
    let with_job : JobView → Option (JobView × Found) = λ job. Some (job, found_of hit) in
    ap with_job (own_hit c w 0 j hit first is)

-- the first slot is that of the lowest number that isn't emitted
front_from : (c : MachineView) → IsMachine c → (jobs : List JobView) → left c ≡ jobs
    → option_map parts_of (hit_of (length c.emitted) c.booked) ≡ front_hit (map (slot_of c.booked) jobs)
front_from c w [] e =
    let rest = length-drop (length c.emitted) c.issued in
    let none : length (left c) ≡ 0 = ap (λ (js : List JobView). length js) e in
    ap (λ (o : Option Hit). option_map parts_of o)
    (not_booked_from c w (length c.emitted) (hit_of (length c.emitted) c.booked) refl (omega (arith, rest, none)))
front_from c w (j ∷ jobs) e =
    let first : slice_get (left c) 0 ≡ Some j = ap (λ (js : List JobView). slice_get js 0) e in
    let is = left_from c w 0 j first in
    let number : length c.emitted ≡ j.number = omega (arith, is) in
    ap (λ (i : ℕ). option_map parts_of (hit_of i c.booked)) number ∙ own_parts c w j (hit_of j.number c.booked) first refl

pub front_is : (c : MachineView) → IsMachine c → option_map parts_of (hit_of (length c.emitted) c.booked) ≡ front_hit (window_of c).slots
front_is c w = front_from c w (left c) refl

pub some_parts : (o : Option Hit) → is_some (option_map parts_of o) ≡ is_some o
some_parts None = refl
some_parts (Some hit) = refl

drop_slots : (n : ℕ) (hits : List Hit) (jobs : List JobView) → map (slot_of hits) (drop (suc n) jobs) ≡ drop 1 (map (slot_of hits) (drop n jobs))
drop_slots zero hits [] = refl
drop_slots zero hits (j ∷ jobs) = refl
drop_slots (suc n) hits [] = refl
drop_slots (suc n) hits (j ∷ jobs) = drop_slots n hits jobs

pub emit_long : (c : MachineView) → IsEnabled c Emit → length (c.emitted ++ option_to_list (hit_of (length c.emitted) c.booked)) ≡ suc (length c.emitted)
emit_long c on =
    let p = some_is (hit_of (length c.emitted) c.booked) on in
    let long = length-append c.emitted (p.0 ∷ []) in
    ap (λ (o : Option Hit). length (c.emitted ++ option_to_list o)) p.1
    ∙ (let e : length (c.emitted ++ p.0 ∷ []) ≡ suc (length c.emitted) = omega (arith, long) in e)

pub emit_shown : (c : MachineView) → IsMachine c → IsEnabled c Emit
    → map (slot_of (without (length c.emitted) c.booked)) (drop (suc (length c.emitted)) c.issued) ≡ drop 1 (window_of c).slots
emit_shown c w on =
    let from : IsFrom (suc (length c.emitted)) (drop (suc (length c.emitted)) c.issued) =
    λ k j e. w.numbered (suc (length c.emitted) + k) j (sym (get_drop (suc (length c.emitted)) k c.issued) ∙ e) in
    slots_less (suc (length c.emitted)) (length c.emitted) (drop (suc (length c.emitted)) c.issued) c.booked from (omega arith)
    ∙ drop_slots (length c.emitted) c.booked c.issued
