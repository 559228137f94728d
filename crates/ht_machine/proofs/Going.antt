-- The machine is never stuck, and whole runs.
use Rattle.std.proofs.Common.{◌≡◌, ℕ, zero, suc, ◌+◌, ◌<◌, ◌≤◌, List, [], ◌∷◌, ◌++◌, length, take, replicate, true, false, refl, ap, ◌∙◌, subst, arith}
use Rattle.std.specs.Prelude.{slice_get, Option, Some, None, is_some, IfSome}
use Rattle.std.specs.List.{sum_by, flat_map}
use Rattle.std.specs.Option.{option_to_list}
use Rattle.std.proofs.lemmas.List.{length-replicate, length-take}
use Rattle.ht_metric.specs.Jobs.{JobView}
use Rattle.ht_metric.specs.declared.hit.Hit.{Hit}
use Rattle.ht_machine.specs.declared.event.Event.{Event}
use Rattle.ht_machine.specs.declared.event.Event.TheVariants.{Push, Pop, Accept, Emit}
use Rattle.ht_machine.specs.Machine.{MachineView, IsEnabled, IsLegal, after, after_all, empty, hand, deque, hit_of}
use Rattle.std.specs.List.{All}
use Rattle.std.proofs.lemmas.List.Elements.{All-nil, All-replicate}
use Rattle.std.proofs.lemmas.Option.{none-some}
use Rattle.ht_machine.specs.Facts.{IsIssued, IsMachine, CanGoOn, is_issue}
use Rattle.ht_machine.proofs.Numbers.{one_of, IsFrom, present, beyond, found_hand, found_deque, found_hit}
use Rattle.ht_machine.proofs.Kept.{in_hands, in_deques, in_hits, weighed, kept}

-- some event but Issue may come
abbrev Goes : MachineView → Type 0
Goes c = (e : Event) × IsEnabled c e × (is_issue e ≡ false)

with_deque : (c : MachineView) (a : ℕ) → a < c.workers → 0 < length (deque c a) → (o : Option JobView) → hand c a ≡ o → Goes c
with_deque c a lt some None e = (Pop a, (lt, e, some), refl)
with_deque c a lt some (Some job) e = (Push a, (lt, ap (λ (o : Option JobView). is_some o) e), refl)

with_place : (c : MachineView) → IsMachine c → (n : ℕ) → n ≡ length c.emitted
    → (hs : ℕ) → in_hands (one_of n) c.hands ≡ hs → (bs : ℕ) → in_deques (one_of n) c.deques ≡ bs
    → (cs : ℕ) → in_hits (one_of n) c.results ≡ cs → (ds : ℕ) → in_hits (one_of n) c.booked ≡ ds
    → hs + (bs + (cs + ds)) ≡ 1 → Goes c
with_place c w n is (suc hs) e bs f cs g ds h sum =
    let p = found_hand n c.hands (omega (arith, e)) in
    let lt = p.1 in
    let hands = w.hands in
    (Push p.0, (omega (arith, lt, hands), p.2), refl)
with_place c w n is zero e (suc bs) f cs g ds h sum =
    let p = found_deque n c.deques (omega (arith, f)) in
    let lt = p.1 in
    let deques = w.deques in
    with_deque c p.0 (omega (arith, lt, deques)) p.2 (hand c p.0) refl
with_place c w n is zero e zero f (suc cs) g ds h sum = (Accept n, found_hit n c.results (omega (arith, g)), refl)
with_place c w n is zero e zero f zero g (suc ds) h sum =
    let some = found_hit n c.booked (omega (arith, h)) in
    (Emit, subst (λ (k : ℕ). is_some (hit_of k c.booked) ≡ true) is some, refl)
with_place c w n is zero e zero f zero g zero h sum = absurd (omega (arith, sum))

pub from_zero : (c : MachineView) → IsMachine c → IsFrom 0 c.issued
from_zero c w k j e = let is = w.numbered k j e in omega (arith, is)

slice_get_taken : (xs : List JobView) (m k : ℕ) (j : JobView) → slice_get (take m xs) k ≡ Some j → slice_get xs k ≡ Some j
slice_get_taken [] zero k j e = e
slice_get_taken [] (suc m) k j e = e
slice_get_taken (x ∷ xs) zero k j e = absurd (none-some j e)
slice_get_taken (x ∷ xs) (suc m) zero j e = e
slice_get_taken (x ∷ xs) (suc m) (suc k) j e = slice_get_taken xs m k j e

pub taken_from : (xs : List JobView) (m : ℕ) → IsFrom 0 xs → IsFrom 0 (take m xs)
taken_from xs m from k j e = from k j (slice_get_taken xs m k j e)

pub can_go_on : (c : MachineView) → IsMachine c → CanGoOn c
can_go_on c w lt =
    let n = length c.emitted in
    let all : sum_by (one_of n) c.issued ≡ 1 = present n 0 n c.issued (from_zero c w) (omega arith) (omega (arith, lt)) in
    let out : in_hits (one_of n) c.emitted ≡ 0 =
    ap (λ (js : List JobView). sum_by (one_of n) js) w.emitted
    ∙ beyond n 0 (take n c.issued) (taken_from c.issued n (from_zero c w)) (omega (arith, length-take n c.issued)) in
    with_place c w n refl _ refl _ refl _ refl _ refl (omega (arith, weighed c w.once (one_of n), all, out))

pub run_kept : (es : List Event) (c : MachineView) → IsMachine c → IsLegal c es → IsMachine (after_all c es)
run_kept [] c w legal = w
run_kept (e ∷ es) c w legal = run_kept es (after c e) (kept c e w legal.0) legal.1

abbrev nothing : Option JobView
nothing = None

no_hands : (n : ℕ) → flat_map option_to_list (replicate n nothing) ≡ []
no_hands zero = refl
no_hands (suc n) = no_hands n

no_deques : (n : ℕ) → flat_map (λ (jobs : List JobView). jobs) (replicate n []) ≡ []
no_deques zero = refl
no_deques (suc n) = no_deques n

pub empty_machine : (workers window : ℕ) → 1 ≤ workers → workers ≤ 64 → 1 ≤ window → window ≤ 4096 → IsMachine (empty workers window)
empty_machine workers window some few wide narrow = record {
  some = some;
  few = few;
  wide = wide;
  narrow = narrow;
  hands = length-replicate workers None;
  deques = length-replicate workers [];
  numbered = λ k j e. absurd (none-some j e);
  once = λ h.
      ap (λ (js : List JobView). sum_by h (js ++ flat_map (λ (jobs : List JobView). jobs) (replicate workers []) ++ [] ++ [] ++ [])) (no_hands workers)
      ∙ ap (λ (js : List JobView). sum_by h (js ++ [] ++ [] ++ [])) (no_deques workers);
  in_hand = All-replicate (λ o. IfSome o (IsIssued [])) workers None tt;
  in_deque = All-replicate (All (IsIssued [])) workers [] (All-nil (IsIssued []));
  in_results = All-nil (λ (hit : Hit). IsIssued [] hit.job);
  in_booked = All-nil (λ (hit : Hit). IsIssued [] hit.job);
  window = omega arith;
  emitted = refl;
}
