-- Each event keeps what holds of the machine.
use Rattle.std.proofs.Common.{◌≡◌, ℕ, suc, ◌+◌, ◌<◌, ◌≤◌, List, [], ◌∷◌, ◌++◌, length, drop, take, get_or, sym, ap, ◌∙◌, subst, arith, refl}
use Rattle.std.proofs.lemmas.List.{length-append, length-set, length-take, take-append-le}
use Rattle.std.specs.Prelude.{slice_get, slice_set, Option, Some, None, IfSome}
use Rattle.std.specs.List.{sum_by, flat_map}
use Rattle.std.specs.Option.{option_to_list}
use Rattle.std.proofs.lemmas.List.Sums.{sum_by-append, sum_by-cons, sum_by_push}
use Rattle.ht_metric.specs.Jobs.{JobView}
use Rattle.ht_metric.specs.declared.hit.Hit.{Hit}
use Rattle.ht_machine.specs.declared.event.Event.{Event}
use Rattle.ht_machine.specs.declared.event.Event.TheVariants.{Issue, Push, Pop, Steal, Finish, Accept, Emit}
use Rattle.ht_machine.specs.Machine.{MachineView, IsEnabled, after, hand, deque, hit_of, taken, without}
use Rattle.std.specs.List.{All}
use Rattle.std.proofs.lemmas.List.Elements.{All-nil, All-cons, All-append, All-set, All-drop, All-weaker}
use Rattle.ht_list.specs.Counts.{SameCounts}
use Rattle.ht_machine.specs.Facts.{IsIssued, IsMachine, jobs_of, places}
use Rattle.ht_machine.proofs.Lists.{some_is, all_at, all_front, all_option, option_weaker, all_without, all_hit_of}
use Rattle.ht_machine.proofs.Lists.{issued_more, issued_last, get_more, take_next, jobs_append, jobs_length, found_number}
use Rattle.ht_machine.proofs.Sums.{weigh_put, weigh_front, weigh_without, weigh_jobs, weigh_places}

abbrev pub in_hands : (JobView → ℕ) → List (Option JobView) → ℕ
in_hands h hands = sum_by h (flat_map option_to_list hands)

abbrev pub in_deques : (JobView → ℕ) → List (List JobView) → ℕ
in_deques h deques = sum_by h (flat_map (λ (jobs : List JobView). jobs) deques)

abbrev pub in_hits : (JobView → ℕ) → List Hit → ℕ
in_hits h hits = sum_by h (jobs_of hits)

-- what all places weigh is what the issued jobs weigh
pub weighed : (c : MachineView) → SameCounts (places c) c.issued → (h : JobView → ℕ)
    → in_hands h c.hands + (in_deques h c.deques + (in_hits h c.results + (in_hits h c.booked + in_hits h c.emitted))) ≡ sum_by h c.issued
weighed c once h = sym (weigh_places h c) ∙ once h

pub emitted_few : (c : MachineView) → IsMachine c → length c.emitted ≤ length c.issued
emitted_few c w =
    let e : length (jobs_of c.emitted) ≡ length (take (length c.emitted) c.issued) = ap (λ (js : List JobView). length js) w.emitted in
    omega (arith, e, jobs_length c.emitted, length-take (length c.emitted) c.issued)

kept_issue : (c : MachineView) (job : JobView) → IsMachine c → IsEnabled c (Issue job) → IsMachine (after c (Issue job))
kept_issue c job w on =
    let before = emitted_few c w in
    let room = on.1 in
    let more : (j : JobView) → IsIssued c.issued j → IsIssued (c.issued ++ job ∷ []) j = λ j is. issued_more c.issued job j.number j is in
    let here : IsIssued (c.issued ++ job ∷ []) job = issued_last c.issued job job.number on.2 in
    record {
      some = w.some;
      few = w.few;
      wide = w.wide;
      narrow = w.narrow;
      hands = length-set c.hands 0 (Some job) ∙ w.hands;
      deques = w.deques;
      numbered = λ k j e. get_more c.issued job (λ i t. t.number ≡ i) k j w.numbered on.2 e;
      once = λ h.
          let some = w.some in
          let put = weigh_put h option_to_list c.hands 0 (Some job) None (let hands = w.hands in omega (arith, hands, some)) in
          let was : sum_by h (option_to_list (get_or c.hands 0 None)) ≡ 0 = ap (λ (o : Option JobView). sum_by h (option_to_list o)) on.0 in
          let one = sum_by-cons h job [] in
          omega (arith, weigh_places h (after c (Issue job)), weighed c w.once h, put, was, one, sum_by_push h c.issued job);
      in_hand = All-set (λ o. IfSome o (IsIssued (c.issued ++ job ∷ []))) c.hands 0 (Some job) here
          (All-weaker (λ o. IfSome o (IsIssued c.issued)) (λ o. IfSome o (IsIssued (c.issued ++ job ∷ [])))
          (λ o. option_weaker (IsIssued c.issued) (IsIssued (c.issued ++ job ∷ [])) more o) c.hands w.in_hand);
      in_deque = All-weaker (All (IsIssued c.issued)) (All (IsIssued (c.issued ++ job ∷ [])))
          (λ jobs. All-weaker (IsIssued c.issued) (IsIssued (c.issued ++ job ∷ [])) more jobs) c.deques w.in_deque;
      in_results = All-weaker (λ (hit : Hit). IsIssued c.issued hit.job)
          (λ (hit : Hit). IsIssued (c.issued ++ job ∷ []) hit.job) (λ hit is. more hit.job is) c.results w.in_results;
      in_booked = All-weaker (λ (hit : Hit). IsIssued c.issued hit.job)
          (λ (hit : Hit). IsIssued (c.issued ++ job ∷ []) hit.job) (λ hit is. more hit.job is) c.booked w.in_booked;
      window = omega (arith, room, length-append c.issued (job ∷ []));
      emitted = w.emitted ∙ sym (take-append-le (length c.emitted) c.issued (job ∷ []) before);
    }

-- what holds where jobs went from place to place, and none was issued or emitted
kept_moved : (c : MachineView) (hands : List (Option JobView)) (deques : List (List JobView)) (results booked : List Hit) → IsMachine c
    → length hands ≡ length c.hands → length deques ≡ length c.deques
    → SameCounts (places (record c { hands = hands; deques = deques; results = results; booked = booked })) c.issued
    → All (λ o. IfSome o (IsIssued c.issued)) hands → All (All (IsIssued c.issued)) deques → All (λ (hit : Hit). IsIssued c.issued hit.job) results
    → All (λ (hit : Hit). IsIssued c.issued hit.job) booked
    → IsMachine (record c { hands = hands; deques = deques; results = results; booked = booked })
kept_moved c hands deques results booked w as_many_hands as_many_deques once in_hand in_deque in_results in_booked = record {
  some = w.some;
  few = w.few;
  wide = w.wide;
  narrow = w.narrow;
  hands = as_many_hands ∙ w.hands;
  deques = as_many_deques ∙ w.deques;
  numbered = w.numbered;
  once = once;
  in_hand = in_hand;
  in_deque = in_deque;
  in_results = in_results;
  in_booked = in_booked;
  window = w.window;
  emitted = w.emitted;
}

kept_push : (c : MachineView) (a : ℕ) → IsMachine c → IsEnabled c (Push a) → IsMachine (after c (Push a))
kept_push c a w on =
    let lt = on.0 in
    let hands = w.hands in
    let deques = w.deques in
    let new = deque c a ++ option_to_list (hand c a) in
    kept_moved c (slice_set c.hands a None) (slice_set c.deques a new) c.results c.booked w (length-set c.hands a None) (length-set c.deques a new)
    (λ h.
    let put = weigh_put h option_to_list c.hands a None None (omega (arith, hands, lt)) in
    let laid = weigh_put h (λ (jobs : List JobView). jobs) c.deques a new [] (omega (arith, deques, lt)) in
    omega (arith, weigh_places h (after c (Push a)), weighed c w.once h, put, laid, sum_by-append h (deque c a) (option_to_list (hand c a))))
    (All-set (λ o. IfSome o (IsIssued c.issued)) c.hands a None tt w.in_hand)
    (All-set (All (IsIssued c.issued)) c.deques a new
    (All-append (IsIssued c.issued) (deque c a) (option_to_list (hand c a))
    (all_at (All (IsIssued c.issued)) c.deques a [] w.in_deque (All-nil (IsIssued c.issued)))
    (all_option (IsIssued c.issued) (hand c a) (all_at (λ o. IfSome o (IsIssued c.issued)) c.hands a None w.in_hand tt)))
    w.in_deque)
    w.in_results w.in_booked

pub kept_taken : (c : MachineView) (a owner : ℕ) → IsMachine c → a < c.workers → owner < c.workers → hand c a ≡ None → IsMachine (taken c a owner)
kept_taken c a owner w here there none =
    let hands = w.hands in
    let deques = w.deques in
    let front = slice_get (deque c owner) 0 in
    let rest = drop 1 (deque c owner) in
    let all : All (IsIssued c.issued) (deque c owner) = all_at (All (IsIssued c.issued)) c.deques owner [] w.in_deque (All-nil (IsIssued c.issued)) in
    kept_moved c (slice_set c.hands a front) (slice_set c.deques owner rest) c.results c.booked w (length-set c.hands a front)
    (length-set c.deques owner rest)
    (λ h.
    let put = weigh_put h option_to_list c.hands a front None (omega (arith, hands, here)) in
    let laid = weigh_put h (λ (jobs : List JobView). jobs) c.deques owner rest [] (omega (arith, deques, there)) in
    let was : sum_by h (option_to_list (get_or c.hands a None)) ≡ 0 = ap (λ (o : Option JobView). sum_by h (option_to_list o)) none in
    omega (arith, weigh_places h (taken c a owner), weighed c w.once h, put, laid, was, weigh_front h (deque c owner)))
    (All-set (λ o. IfSome o (IsIssued c.issued)) c.hands a front (all_front (IsIssued c.issued) (deque c owner) all) w.in_hand)
    (All-set (All (IsIssued c.issued)) c.deques owner rest (All-drop (IsIssued c.issued) 1 (deque c owner) all) w.in_deque)
    w.in_results w.in_booked

kept_finish : (c : MachineView) (a : ℕ) (hit : Hit) → IsMachine c → IsEnabled c (Finish a hit) → IsMachine (after c (Finish a hit))
kept_finish c a hit w on =
    let lt = on.0 in
    let hands = w.hands in
    let is : IfSome (hand c a) (IsIssued c.issued) = all_at (λ o. IfSome o (IsIssued c.issued)) c.hands a None w.in_hand tt in
    let issued : IsIssued c.issued hit.job = subst (λ (o : Option JobView). IfSome o (IsIssued c.issued)) on.1 is in
    kept_moved c (slice_set c.hands a None) c.deques (c.results ++ hit ∷ []) c.booked w (length-set c.hands a None) refl
    (λ h.
    let put = weigh_put h option_to_list c.hands a None None (omega (arith, hands, lt)) in
    let was : sum_by h (option_to_list (get_or c.hands a None)) ≡ sum_by h (hit.job ∷ []) =
    ap (λ (o : Option JobView). sum_by h (option_to_list o)) on.1 in
    omega (arith, weigh_places h (after c (Finish a hit)), weighed c w.once h, put, was, weigh_jobs h c.results (hit ∷ [])))
    (All-set (λ o. IfSome o (IsIssued c.issued)) c.hands a None tt w.in_hand) w.in_deque
    (All-append (λ (x : Hit). IsIssued c.issued x.job) c.results (hit ∷ []) w.in_results
    (All-cons (λ (x : Hit). IsIssued c.issued x.job) hit [] issued (All-nil (λ (x : Hit). IsIssued c.issued x.job))))
    w.in_booked

pub kept_accept : (c : MachineView) (n : ℕ) → IsMachine c → IsMachine (after c (Accept n))
kept_accept c n w =
    let found = option_to_list (hit_of n c.results) in
    kept_moved c c.hands c.deques (without n c.results) (c.booked ++ found) w refl refl
    (λ h. omega (arith, weigh_places h (after c (Accept n)), weighed c w.once h, weigh_without h n c.results, weigh_jobs h c.booked found))
    w.in_hand w.in_deque (all_without (λ (x : Hit). IsIssued c.issued x.job) n c.results w.in_results)
    (All-append (λ (x : Hit). IsIssued c.issued x.job) c.booked found w.in_booked
    (all_option (λ (x : Hit). IsIssued c.issued x.job) (hit_of n c.results) (all_hit_of (λ (x : Hit). IsIssued c.issued x.job) n c.results w.in_results)))

pub kept_emit : (c : MachineView) → IsMachine c → IsEnabled c Emit → IsMachine (after c Emit)
kept_emit c w on =
    let n = length c.emitted in
    let some = some_is (hit_of n c.booked) on in
    let hit = some.0 in
    let found = option_to_list (hit_of n c.booked) in
    let is : IfSome (hit_of n c.booked) (λ x. IsIssued c.issued x.job) = all_hit_of (λ (x : Hit). IsIssued c.issued x.job) n c.booked w.in_booked in
    let issued : IsIssued c.issued hit.job = subst (λ (o : Option Hit). IfSome o (λ x. IsIssued c.issued x.job)) some.1 is in
    let there : slice_get c.issued n ≡ Some hit.job = subst (λ (k : ℕ). slice_get c.issued k ≡ Some hit.job) (found_number n c.booked hit some.1) issued in
    let one : found ≡ hit ∷ [] = ap (λ (o : Option Hit). option_to_list o) some.1 in
    let long : length (c.emitted ++ found) ≡ suc n =
    ap (λ (hits : List Hit). length (c.emitted ++ hits)) one ∙ (let e = length-append c.emitted (hit ∷ []) in omega (arith, e)) in
    record {
      some = w.some;
      few = w.few;
      wide = w.wide;
      narrow = w.narrow;
      hands = w.hands;
      deques = w.deques;
      numbered = w.numbered;
      once = λ h. omega (arith, weigh_places h (after c Emit), weighed c w.once h, weigh_without h n c.booked, weigh_jobs h c.emitted found);
      in_hand = w.in_hand;
      in_deque = w.in_deque;
      in_results = w.in_results;
      in_booked = all_without (λ (x : Hit). IsIssued c.issued x.job) n c.booked w.in_booked;
      window = let window = w.window in omega (arith, window, long);
      emitted = jobs_append c.emitted found
          ∙ ap (λ (hits : List Hit). jobs_of c.emitted ++ jobs_of hits) one
          ∙ ap (λ (js : List JobView). js ++ hit.job ∷ []) w.emitted
          ∙ sym (take_next c.issued n hit.job there)
          ∙ ap (λ (k : ℕ). take k c.issued) (sym long);
    }

pub kept : (c : MachineView) (e : Event) → IsMachine c → IsEnabled c e → IsMachine (after c e)
kept c (Issue job) w on = kept_issue c job w on
kept c (Push a) w on = kept_push c a w on
kept c (Pop a) w on = kept_taken c a a w on.0 on.0 on.1
kept c (Steal thief owner) w on = kept_taken c thief owner w on.0 on.1 on.3
kept c (Finish a hit) w on = kept_finish c a hit w on
kept c (Accept n) w on = kept_accept c n w
kept c Emit w on = kept_emit c w on
