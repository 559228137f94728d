-- A task is taken back.
use Rattle.std.proofs.Common.{◌≡◌, ℕ, List, [], ◌∷◌, ◌++◌, length, map, take, drop, Option, Some, None, IfSome, ap, ◌∙◌, sym, refl, arith}
use Rattle.std.specs.List.{sum_by}
use Rattle.std.proofs.lemmas.List.{length-append, length-map}
use Rattle.std.proofs.lemmas.List.Sums.{sum_by-append}
use Rattle.ht_list.specs.Counts.{SameCounts}
use Rattle.atomic_table.specs.Seated.{TableId}
use Rattle.ht_pool.specs.Takers.{DequeId, TakerView, OwnView, fresh_taker, fresh_own, popped_from, deques_at, taken_at, Steals}
use Rattle.ht_pool.proofs.Lists.{written_back}
use Rattle.ht_pool.specs.Callers.{CallerView, caller_view, unused, TakesBack}

pub ones : {X : Type 0} (xs : List X) → sum_by (λ _. 1) xs ≡ length xs
ones [] = refl
ones (x ∷ xs) = omega (arith, sum_by-append (λ _. 1) (x ∷ []) xs, ones xs)

-- as many members
pub same_length : {X : Type 0} (xs ys : List X) → SameCounts xs ys → length xs ≡ length ys
same_length xs ys same = omega (arith, same (λ _. 1), ones xs, ones ys)

module _ {T : Type 0} (takers : List (TakerView T)) (own own' : OwnView T) (task : T) where
  -- from one's own deque
  pub took-own : own' ≡ popped_from own task → SameCounts (own'.taken ++ taken_at takers) ((own.taken ++ taken_at takers) ++ task ∷ [])
  took-own popped h = omega (
    arith,
    ap (λ (v : OwnView T). sum_by h v.taken) popped,
    sum_by-append h own'.taken (taken_at takers),
    sum_by-append h (own.taken ++ taken_at takers) (task ∷ []),
    sum_by-append h own.taken (taken_at takers),
    sum_by-append h own.taken (task ∷ []),
  )

  -- from another's
  pub took-other : (takers' : List (TakerView T)) → own' ≡ own → Steals takers takers' (Some task)
      → SameCounts (own'.taken ++ taken_at takers') ((own.taken ++ taken_at takers) ++ task ∷ [])
  took-other takers' still steals h = omega (
    arith,
    ap (λ (v : OwnView T). sum_by h v.taken) still,
    steals.took h,
    sum_by-append h own'.taken (taken_at takers'),
    sum_by-append h (own.taken ++ taken_at takers) (task ∷ []),
    sum_by-append h own.taken (taken_at takers),
  )

module _ {T A : Type 0} (queue : TableId) (answers : List A) where
  pub takes-own : (own own' : OwnView T) (takers : List (TakerView T)) (task : T) → own' ≡ popped_from own task
      → TakesBack (caller_view own takers queue answers) (caller_view own' takers queue answers) task
  takes-own own own' takers task popped = record {
    same = record { capacity_is = ap (λ (v : OwnView T). v.capacity) popped; deques_are = refl; queue_is = refl };
    given_is = ap (λ (v : OwnView T). v.pushed) popped;
    took = took-own takers own own' task popped;
    longer = same_length (own'.taken ++ taken_at takers) ((own.taken ++ taken_at takers) ++ task ∷ []) (took-own takers own own' task popped)
        ∙ length-append (own.taken ++ taken_at takers) (task ∷ []);
    answers_are = refl;
  }

  pub takes-other : (own : OwnView T) (takers takers' : List (TakerView T)) (task : Option T) → Steals takers takers' task
      → IfSome task (TakesBack (caller_view own takers queue answers) (caller_view own takers' queue answers))
  takes-other own takers takers' None steals = tt
  takes-other own takers takers' (Some task) steals = record {
    same = record { capacity_is = refl; deques_are = steals.at; queue_is = refl };
    given_is = refl;
    took = took-other takers own own task takers' refl steals;
    longer = same_length (own.taken ++ taken_at takers') ((own.taken ++ taken_at takers) ++ task ∷ [])
        (took-other takers own own task takers' refl steals) ∙ length-append (own.taken ++ taken_at takers) (task ∷ []);
    answers_are = refl;
  }

  -- nothing was given or taken yet
  pub taken-none : (deques : List DequeId) → taken_at {T = T} (map fresh_taker deques) ≡ []
  taken-none [] = refl
  taken-none (deque ∷ deques) = taken-none deques

  pub new_caller : (own : OwnView T) (takers : List (TakerView T)) (parts : ℕ) → own ≡ fresh_own parts own.capacity own.deque
      → takers ≡ map fresh_taker (deques_at takers) → answers ≡ [] → caller_view own takers queue answers ≡ unused own.capacity (deques_at takers) queue
  new_caller own takers parts fresh takers_are none =
      let given : own.pushed ≡ [] = ap (λ (v : OwnView T). v.pushed) fresh in
      let own_taken : own.taken ≡ [] = ap (λ (v : OwnView T). v.taken) fresh in
      let takers_taken : taken_at takers ≡ [] = ap (λ (ss : List (TakerView T)). taken_at ss) takers_are ∙ taken-none (deques_at takers) in
      let taken : own.taken ++ taken_at takers ≡ [] = ap (λ (xs : List T). xs ++ taken_at takers) own_taken ∙ takers_taken in
      let at : List T → List T → List A → CallerView T A = λ xs ys zs. record {
        capacity = own.capacity;
        deques = deques_at takers;
        queue = queue;
        given = xs;
        taken = ys;
        answers = zs;
      } in
      ap (λ xs. at xs (own.taken ++ taken_at takers) answers) given ∙ (ap (λ ys. at [] ys answers) taken ∙ ap (λ zs. at [] [] zs) none)

-- takers at the same deques are written back whole
pub whole_again : {T : Type 0} (len : ℕ) (old new : List (TakerView T)) → length old ≡ len → deques_at new ≡ deques_at old
    → take len (new ++ drop (length new) old) ≡ new
whole_again len old new all at = written_back len old new all
    (sym (length-map new (λ s. s.at)) ∙ (ap (λ (ids : List DequeId). length ids) at ∙ length-map old (λ s. s.at)))
