-- Windows that change.
use Rattle.std.proofs.Common.{◌≡◌, ◌≢◌, ℕ, zero, suc, ◌+◌, ◌-◌, ◌%◌, ◌^◌, ◌<◌, ◌≤◌, List, [], ◌∷◌, ◌++◌, length, false, refl, ap, sym, subst, ◌∙◌, arith, rules}
use Rattle.std.proofs.Math.Nat.{add-mod_right, mod-add-mod, mod-eq_of_lt}
use Rattle.std.proofs.lemmas.Option.{same_Some}
use Rattle.std.specs.Prelude.{Option, Some, None, IfSome, slice_get, slice_set}
use Rattle.std.specs.Option.{is_some}
use Rattle.ht_metric.specs.Jobs.{JobView}
use Rattle.ht_feed.specs.Dues.{NoneEmpty, count_in}
use Rattle.ht_feed.proofs.Turning.{count_in-more}
use Rattle.ht_drive.specs.Blocks.{Books, BooksAt, IsBlock, IsBlockWindow, SlotOf, WindowOf, behind, due_in, first_answered, seen, slot_of, window_of}

-- what is put somewhere in a list
get_put : {S : Type 0} (xs : List S) (at : ℕ) (x y : S) → slice_get xs at ≡ Some x → slice_get (slice_set xs at y) at ≡ Some y
get_put [] at x y e = search rules
get_put (z ∷ zs) zero x y e = refl
get_put (z ∷ zs) (suc at) x y e = get_put zs at x y e

get_others : {S : Type 0} (xs : List S) (at : ℕ) (y : S) (k : ℕ) → k ≢ at → slice_get (slice_set xs at y) k ≡ slice_get xs k
get_others [] at y k other = refl
get_others (z ∷ zs) zero y zero other = absurd (other refl)
get_others (z ∷ zs) zero y (suc k) other = refl
get_others (z ∷ zs) (suc at) y zero other = refl
get_others (z ∷ zs) (suc at) y (suc k) other = get_others zs at y k (λ e. other (ap suc e))

length_put : {S : Type 0} (xs : List S) (at : ℕ) (y : S) → length (slice_set xs at y) ≡ length xs
length_put [] at y = refl
length_put (z ∷ zs) zero y = refl
length_put (z ∷ zs) (suc at) y = omega (arith, length_put zs at y)

none_behind : {S : Type 0} (xs : List S) (at : ℕ) → length xs ≤ at → slice_get xs at ≡ None
none_behind [] at few = refl
none_behind (z ∷ zs) zero few = absurd (omega (arith, few))
none_behind (z ∷ zs) (suc at) few = none_behind zs at (omega (arith, few))

-- a slot takes the place of one with the same block
pub due_put : {B A : Type 0} (jobs : B → List JobView) (slots : List (SlotOf B A)) (at : ℕ) (slot slot' : SlotOf B A) → slice_get slots at ≡ Some slot
    → slot'.block ≡ slot.block → due_in jobs (slice_set slots at slot') ≡ due_in jobs slots
due_put jobs [] at slot slot' e same = refl
due_put {B} {A} jobs (s ∷ ss) zero slot slot' e same =
    ap (λ (block : B). jobs block ∷ due_in jobs ss) (same ∙ ap (λ (x : SlotOf B A). x.block) (sym (same_Some s slot e)))
due_put jobs (s ∷ ss) (suc at) slot slot' e same = ap (λ (due : List (List JobView)). jobs s.block ∷ due) (due_put jobs ss at slot slot' e same)

-- an answer comes to a slot
pub books_put : {B A : Type 0} (Alike : B → B → Type 0) (slots : List (SlotOf B A)) (at : ℕ) (ran : B) (came : A) (slot slot' : SlotOf B A)
    → slice_get slots at ≡ Some slot → Books Alike ran came slot slot' → BooksAt Alike at ran came slots (slice_set slots at slot')
books_put {B} {A} Alike slots at ran came slot slot' e booked = record {
  books = λ s is. subst (λ (o : Option (SlotOf B A)). IfSome o (Books Alike ran came s)) (sym (get_put slots at slot slot' e))
      (subst (λ (x : SlotOf B A). Books Alike ran came x slot') (same_Some slot s (sym e ∙ is)) booked);
  others = λ k other. get_others slots at slot' k other;
  length_is = length_put slots at slot';
}

-- or there is none
pub books_none : {B A : Type 0} (Alike : B → B → Type 0) (slots : List (SlotOf B A)) (at : ℕ) (ran : B) (came : A) → slice_get slots at ≡ None
    → BooksAt Alike at ran came slots slots
books_none {B} {A} Alike slots at ran came none = record {
  books = λ s is. let bad : None ≡ Some s = sym none ∙ is in absurd (search rules);
  others = λ k other. refl;
  length_is = refl;
}

pub books_behind : {B A : Type 0} (Alike : B → B → Type 0) (slots : List (SlotOf B A)) (at : ℕ) (ran : B) (came : A) → length slots ≤ at
    → BooksAt Alike at ran came slots slots
books_behind Alike slots at ran came few = books_none Alike slots at ran came (none_behind slots at few)

-- the first one
pub first_some : {B A : Type 0} (slots : List (SlotOf B A)) (slot : SlotOf B A) → slice_get slots 0 ≡ Some slot → first_answered slots ≡ is_some slot.answer
first_some [] slot e = search rules
first_some {B} {A} (s ∷ ss) slot e = ap (λ (x : SlotOf B A). is_some x.answer) (same_Some s slot e)

pub first_none : {B A : Type 0} (slots : List (SlotOf B A)) → slice_get slots 0 ≡ None → first_answered slots ≡ false
first_none [] e = refl
first_none (s ∷ ss) e = search rules

-- no block is due
pub due_none : {B A : Type 0} (jobs : B → List JobView) (slots : List (SlotOf B A)) → length slots ≡ 0 → due_in jobs slots ≡ []
due_none jobs [] none = refl
due_none jobs (s ∷ ss) none = absurd (omega (arith, none))

pub empty_window : {B A : Type 0} (jobs : B → List JobView) (places capacity : ℕ) (slots : List (SlotOf B A)) → slots ≡ [] → places ≡ capacity
    → 1 ≤ capacity → capacity ≤ 4096 → IsBlockWindow places 0 (seen jobs (window_of capacity 0 slots))
empty_window {B} {A} jobs places capacity slots none places_are some few =
    subst (λ (x : List (SlotOf B A)). IsBlockWindow places 0 (seen jobs (window_of capacity 0 x))) (sym none) (record {
      held_is = refl;
      room = omega arith;
      places_are = places_are;
      some = some;
      few = few;
      full = tt;
    })

-- one more behind the others
pub due_more : {B A : Type 0} (jobs : B → List JobView) (slots : List (SlotOf B A)) (slot : SlotOf B A)
    → due_in jobs (slots ++ slot ∷ []) ≡ due_in jobs slots ++ jobs slot.block ∷ []
due_more jobs [] slot = refl
due_more jobs (s ∷ ss) slot = ap (λ (due : List (List JobView)). jobs s.block ∷ due) (due_more jobs ss slot)

due_length : {B A : Type 0} (jobs : B → List JobView) (slots : List (SlotOf B A)) → length (due_in jobs slots) ≡ length slots
due_length jobs [] = refl
due_length jobs (s ∷ ss) = omega (arith, due_length jobs ss)

round_trip : (m front n : ℕ) → front < m → n < m → ((front + n) % m + (m - front)) % m ≡ n
round_trip m front n low few =
    let sum : front + n + (m - front) ≡ n + m = omega (arith, low) in
    mod-add-mod (front + n) m (m - front) ∙ ap (λ (k : ℕ). k % m) sum ∙ add-mod_right n m ∙ mod-eq_of_lt few

-- it has as many in front of it as there were
pub behind_is : (front n : ℕ) → front < 2 ^ 64 → n < 2 ^ 64 → behind front ((front + n) % 2 ^ 64) ≡ n
behind_is front n low few = round_trip (2 ^ 64) front n low few

-- no more blocks than jobs
pub few_blocks : (blocks : List (List JobView)) → NoneEmpty blocks → length blocks ≤ count_in blocks
few_blocks [] full = omega arith
few_blocks (jobs ∷ blocks) full = let e = few_blocks blocks full.1 in let f = full.0 in omega (arith, e, f)

pub full-more : (blocks : List (List JobView)) (jobs : List JobView) → NoneEmpty blocks → 1 ≤ length jobs → NoneEmpty (blocks ++ jobs ∷ [])
full-more [] jobs full some = (some, tt)
full-more (b ∷ bs) jobs full some = (full.0, full-more bs jobs full.1 some)

-- where there is room for the jobs of one more block, there is a slot for it
pub has_place : {B A : Type 0} (of : B → List JobView) (places held : ℕ) (w : WindowOf B A) (jobs : List JobView) → IsBlockWindow places held (seen of w)
    → IsBlock jobs → count_in (due_in of w.slots) + length jobs ≤ w.capacity → length w.slots < places
has_place of places held w jobs is block room =
    let e = few_blocks (due_in of w.slots) is.full in
    let d = due_length of w.slots in
    let p = is.places_are in
    let s = block.some in
    omega (arith, e, d, p, s, room)

-- it stands behind the others
pub pushed : {B A : Type 0} (of : B → List JobView) (places held size : ℕ) (w : WindowOf B A) (block : B) → IsBlockWindow places held (seen of w)
    → IsBlock (of block) → count_in (due_in of w.slots) + length (of block) ≤ w.capacity → size ≡ length (of block) → (after : ℕ) (slots : List (SlotOf B A))
    → after ≡ places → slots ≡ w.slots ++ slot_of block None ∷ [] → IsBlockWindow after (held + size) (seen of (window_of w.capacity w.front slots))
pushed {B} {A} of places held size w block is good room size_is after slots after_is slots_is =
    let due : due_in of slots ≡ due_in of w.slots ++ of block ∷ [] = ap (λ (x : List (SlotOf B A)). due_in of x) slots_is
    ∙ due_more of w.slots (slot_of block None) in
    let e = ap count_in due ∙ count_in-more (due_in of w.slots) (of block) in
    let h = is.held_is in
    let p = is.places_are in
    record {
      held_is = omega (arith, e, h, size_is);
      room = omega (arith, h, room, size_is);
      places_are = omega (arith, p, after_is);
      some = is.some;
      few = is.few;
      full = subst NoneEmpty (sym due) (full-more (due_in of w.slots) (of block) is.full good.some);
    }
