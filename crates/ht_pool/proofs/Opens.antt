-- Deques and takers that are just made.
use Rattle.std.proofs.Common.{◌≡◌, ℕ, zero, suc, ◌+◌, ◌-◌, ◌<◌, ◌≤◌, List, [], ◌∷◌, ◌++◌, length, map, set, get_or, take, drop, Some, ap, ◌∙◌, sym, refl}
use Rattle.std.proofs.Common.{subst, arith}
use Rattle.std.specs.List.{All, AllByRecursion}
use Rattle.std.specs.Global.{Vec}
use Rattle.std.proofs.lemmas.List.{length-map, take_all, drop_all, append-nil}
use Rattle.std.proofs.lemmas.List.Elements.{All-from_recursion, recursion_from_All, All-pop}
use Rattle.atomic_table.specs.Seated.{TableId}
use Rattle.ht_pool.specs.Takers.{DequeId, TakerView, OwnView, fresh_taker, fresh_own, deques_at, taken_at}
use Rattle.ht_pool.specs.Opening.{AreReady, own_deques, lent}
use Rattle.ht_pool.specs.Members.{AnswersTo, HasYetToServe, workplace, workplace_of, answers_of}
use Rattle.ht_pool.specs.declared.member.Member.{Member}
use Rattle.ht_pool.proofs.Lists.{all_first, written_back}

fresh-parts : (T : Type 0) (capacity : ℕ) (ids : List DequeId) → AllByRecursion (λ (o : OwnView T). o.parts ≡ 1024) (map (fresh_own 1024 capacity) ids)
fresh-parts T capacity [] = tt
fresh-parts T capacity (id ∷ ids) = (refl, fresh-parts T capacity ids)

fresh-lent : (T : Type 0) (capacity n : ℕ) (ids : List DequeId)
    → AllByRecursion (λ (o : OwnView T). o ≡ fresh_own (1024 - n) o.capacity o.deque) (lent n (map (fresh_own 1024 capacity) ids))
fresh-lent T capacity n [] = tt
fresh-lent T capacity n (id ∷ ids) = (refl, fresh-lent T capacity n ids)

capacities-lent : (T : Type 0) (capacity n : ℕ) (ids : List DequeId)
    → AllByRecursion (λ (o : OwnView T). o.capacity ≡ capacity) (lent n (map (fresh_own 1024 capacity) ids))
capacities-lent T capacity n [] = tt
capacities-lent T capacity n (id ∷ ids) = (refl, capacities-lent T capacity n ids)

pub deques-fresh : (T : Type 0) (ids : List DequeId) → deques_at (map (fresh_taker {T = T}) ids) ≡ ids
deques-fresh T [] = refl
deques-fresh T (id ∷ ids) = ap (λ (xs : List DequeId). id ∷ xs) (deques-fresh T ids)

module _ {T : Type 0} where
  abbrev pub less : ℕ → OwnView T → OwnView T
  less takers own = record own { parts = own.parts - takers }

  at_next : (os : List (OwnView T)) (k : ℕ) (d : OwnView T) → k < length os → get_or (lent 1 (take k os) ++ drop k os) k d ≡ get_or os k d
  at_next [] k d lt = absurd (omega (arith, lt))
  at_next (o ∷ os) zero d lt = refl
  at_next (o ∷ os) (suc k) d lt = at_next os k d (omega (arith, lt))

  lent-more : (os : List (OwnView T)) (k : ℕ) (d : OwnView T) → k < length os
      → set (lent 1 (take k os) ++ drop k os) k (less 1 (get_or os k d)) ≡ lent 1 (take (suc k) os) ++ drop (suc k) os
  lent-more [] k d lt = absurd (omega (arith, lt))
  lent-more (o ∷ os) zero d lt = refl
  lent-more (o ∷ os) (suc k) d lt = ap (λ (xs : List (OwnView T)). less 1 o ∷ xs) (lent-more os k d (omega (arith, lt)))

  takers-more : (os : List (OwnView T)) (k : ℕ) (d : OwnView T) → k < length os
      → map (fresh_taker {T = T}) (own_deques (take k os)) ++ fresh_taker (get_or os k d).deque ∷ [] ≡ map fresh_taker (own_deques (take (suc k) os))
  takers-more [] k d lt = absurd (omega (arith, lt))
  takers-more (o ∷ os) zero d lt = refl
  takers-more (o ∷ os) (suc k) d lt = ap (λ (xs : List (TakerView T)). fresh_taker o.deque ∷ xs) (takers-more os k d (omega (arith, lt)))

  -- one more deque gives a taker
  pub row-more : (os l : List (OwnView T)) (k : ℕ) (d new : OwnView T) (ss ss' : List (TakerView T)) (taker : TakerView T) → k < length os
      → l ≡ lent 1 (take k os) ++ drop k os → new ≡ less 1 (get_or l k d) → taker ≡ fresh_taker (get_or l k d).deque
      → ss ≡ map fresh_taker (own_deques (take k os)) → ss' ≡ ss ++ taker ∷ []
      → (set l k new ≡ lent 1 (take (k + 1) os) ++ drop (k + 1) os) × (ss' ≡ map fresh_taker (own_deques (take (k + 1) os)))
  row-more os l k d new ss ss' taker lt l_is new_is taker_is ss_are more =
      let next : suc k ≡ k + 1 = omega arith in
      let there : get_or l k d ≡ get_or os k d = ap (λ (xs : List (OwnView T)). get_or xs k d) l_is ∙ at_next os k d lt in
      let new' : new ≡ less 1 (get_or os k d) = new_is ∙ ap (less 1) there in
      let taker' : taker ≡ fresh_taker (get_or os k d).deque = taker_is ∙ ap (λ (o : OwnView T). fresh_taker o.deque) there in
      let owners : set l k new ≡ lent 1 (take (suc k) os) ++ drop (suc k) os =
      ap (λ (o : OwnView T). set l k o) new' ∙ (ap (λ (xs : List (OwnView T)). set xs k (less 1 (get_or os k d))) l_is ∙ lent-more os k d lt) in
      let takers : ss' ≡ map fresh_taker (own_deques (take (suc k) os)) =
      more ∙ (ap (λ (xs : List (TakerView T)). xs ++ taker ∷ []) ss_are
      ∙ (ap (λ (s : TakerView T). map fresh_taker (own_deques (take k os)) ++ s ∷ []) taker' ∙ takers-more os k d lt)) in
      subst (λ (n : ℕ). (set l k new ≡ lent 1 (take n os) ++ drop n os) × (ss' ≡ map fresh_taker (own_deques (take n os)))) next (owners, takers)

  -- a deque that has yet to give a taker
  pub some_at : (os l : List (OwnView T)) (k : ℕ) (d : OwnView T) → k < length os → l ≡ lent 1 (take k os) ++ drop k os
      → All (λ (o : OwnView T). 1 < o.parts) os → 1 < (get_or l k d).parts
  some_at os l k d lt l_is some =
      let there : get_or l k d ≡ get_or os k d = ap (λ (xs : List (OwnView T)). get_or xs k d) l_is ∙ at_next os k d lt in
      subst (λ (o : OwnView T). 1 < o.parts) (sym there) (some k d lt)

  -- every deque has given a taker
  pub row-done : (os l : List (OwnView T)) (k : ℕ) (ss : List (TakerView T)) → length os ≤ k → l ≡ lent 1 (take k os) ++ drop k os
      → ss ≡ map fresh_taker (own_deques (take k os)) → (l ≡ lent 1 os) × (ss ≡ map fresh_taker (own_deques os))
  row-done os l k ss past l_is ss_are =
      let all : take k os ≡ os = take_all k os past in (
        l_is ∙ (ap (λ (xs : List (OwnView T)). lent 1 xs ++ drop k os) all
            ∙ (ap (λ (xs : List (OwnView T)). lent 1 os ++ xs) (drop_all k os past) ∙ append-nil (lent 1 os))),
        ss_are ∙ ap (λ (xs : List (OwnView T)). map fresh_taker (own_deques xs)) all,
      )

  pub lent-none : (os : List (OwnView T)) → os ≡ lent 0 os
  lent-none [] = refl
  lent-none (o ∷ os) =
      let same : o.parts ≡ o.parts - 0 = omega arith in
      ap (λ (n : ℕ). record o { parts = n } ∷ os) same ∙ ap (λ (xs : List (OwnView T)). less 0 o ∷ xs) (lent-none os)

  pub lent-next : (k : ℕ) (os : List (OwnView T)) → lent 1 (lent k os) ≡ lent (k + 1) os
  lent-next k [] = refl
  lent-next k (o ∷ os) =
      let same : o.parts - k - 1 ≡ o.parts - (k + 1) = omega arith in
      ap (λ (n : ℕ). record o { parts = n } ∷ lent 1 (lent k os)) same ∙ ap (λ (xs : List (OwnView T)). less (k + 1) o ∷ xs) (lent-next k os)

  some-left : (k : ℕ) (os : List (OwnView T)) → k < 64 → AllByRecursion (λ (o : OwnView T). o.parts ≡ 1024) os
      → AllByRecursion (λ (o : OwnView T). 1 < o.parts) (lent k os)
  some-left k [] few all = tt
  some-left k (o ∷ os) few all = (omega (arith, few, all.0), some-left k os few all.1)

  pub some_left : (k : ℕ) (os : List (OwnView T)) → k < 64 → All (λ (o : OwnView T). o.parts ≡ 1024) os → All (λ (o : OwnView T). 1 < o.parts) (lent k os)
  some_left k os few all = All-from_recursion (λ (o : OwnView T). 1 < o.parts) (lent k os)
      (some-left k os few (recursion_from_All (λ (o : OwnView T). o.parts ≡ 1024) os all))

  pub same-deques : (k : ℕ) (os : List (OwnView T)) → own_deques (lent k os) ≡ own_deques os
  same-deques k [] = refl
  same-deques k (o ∷ os) = ap (λ (ids : List DequeId). o.deque ∷ ids) (same-deques k os)

  pub all_fresh : (capacity : ℕ) (os : List (OwnView T)) → os ≡ map (fresh_own 1024 capacity) (own_deques os) → All (λ (o : OwnView T). o.parts ≡ 1024) os
  all_fresh capacity os fresh = subst (λ (xs : List (OwnView T)). All (λ (o : OwnView T). o.parts ≡ 1024) xs) (sym fresh)
      (All-from_recursion (λ (o : OwnView T). o.parts ≡ 1024) (map (fresh_own 1024 capacity) (own_deques os)) (fresh-parts T capacity (own_deques os)))

  pub all_ready : (capacity n : ℕ) (os made : List (OwnView T)) (rows : List (Vec (TakerView T))) → os ≡ map (fresh_own 1024 capacity) (own_deques os)
      → length os ≡ n → n ≤ 64 → made ≡ lent n os → All (λ (ss : Vec (TakerView T)). ss.items ≡ map fresh_taker (own_deques os)) rows
      → AreReady (own_deques made) made rows × All (λ (o : OwnView T). o.capacity ≡ capacity) made
  all_ready capacity n os made rows fresh count few made_are rows_are =
      let ids : List DequeId = own_deques os in
      let made' : made ≡ lent n (map (fresh_own 1024 capacity) ids) = made_are ∙ ap (lent n) fresh in
      let deques : own_deques made ≡ ids = ap (λ (xs : List (OwnView T)). own_deques xs) made_are ∙ same-deques n os in
      let long : n ≡ length (own_deques made) =
      sym (ap (λ (xs : List DequeId). length xs) deques ∙ (length-map os (λ (o : OwnView T). o.deque) ∙ count)) in
      let owners = subst (λ (xs : List (OwnView T)). All (λ (o : OwnView T). o ≡ fresh_own (1024 - n) o.capacity o.deque) xs) (sym made')
      (All-from_recursion (λ (o : OwnView T). o ≡ fresh_own (1024 - n) o.capacity o.deque) (lent n (map (fresh_own 1024 capacity) ids))
      (fresh-lent T capacity n ids)) in
      let capacities = subst (λ (xs : List (OwnView T)). All (λ (o : OwnView T). o.capacity ≡ capacity) xs) (sym made')
      (All-from_recursion (λ (o : OwnView T). o.capacity ≡ capacity) (lent n (map (fresh_own 1024 capacity) ids)) (capacities-lent T capacity n ids)) in (
        record {
          owners_are = subst (λ (k : ℕ). All (λ (o : OwnView T). o ≡ fresh_own (1024 - k) o.capacity o.deque) made) long owners;
          rows_are = subst (λ (xs : List DequeId). All (λ (ss : Vec (TakerView T)). ss.items ≡ map fresh_taker xs) rows) (sym deques) rows_are;
          few = omega (arith, few, long);
        },
        capacities,
      )

  module _ (len : ℕ) (os new : List (OwnView T)) where
    -- a vector of owners, into which they were written back
    abbrev back : List (OwnView T)
    back = take len (new ++ drop (length new) os)

    with_takers-back : (n : ℕ) (value : List (OwnView T)) → length os ≡ n → length os ≡ len → value ≡ os → new ≡ lent (length value) value → back ≡ lent n os
    with_takers-back n value count all is lent_is =
        let lent_all : new ≡ lent (length os) os = lent_is ∙ ap (λ (xs : List (OwnView T)). lent (length xs) xs) is in
        let long : length new ≡ length os = ap (λ (xs : List (OwnView T)). length xs) lent_all ∙ length-map os (less (length os)) in
        written_back len os new all long ∙ (lent_all ∙ ap (λ (k : ℕ). lent k os) count)

    pub with_takers-long : (n : ℕ) (value : List (OwnView T)) → length os ≡ n → length os ≡ len → value ≡ os → new ≡ lent (length value) value → length back ≡ n
    with_takers-long n value count all is lent_is =
        ap (λ (xs : List (OwnView T)). length xs) (with_takers-back n value count all is lent_is) ∙ (length-map os (less n) ∙ count)

    pub with_takers : (capacity n : ℕ) (value : List (OwnView T)) (rows : List (Vec (TakerView T))) → os ≡ map (fresh_own 1024 capacity) (own_deques os)
        → length os ≡ n → n ≤ 64 → length os ≡ len → value ≡ os → new ≡ lent (length value) value
        → All (λ (ss : Vec (TakerView T)). ss.items ≡ map fresh_taker (own_deques value)) rows
        → AreReady (own_deques back) back rows × All (λ (o : OwnView T). o.capacity ≡ capacity) back
    with_takers capacity n value rows fresh count few all is lent_is rows_are =
        let at_owners = subst (λ (xs : List (OwnView T)). All (λ (ss : Vec (TakerView T)). ss.items ≡ map fresh_taker (own_deques xs)) rows) is rows_are in
        all_ready capacity n os back rows fresh count few (with_takers-back n value count all is lent_is) at_owners

  taken-fresh : (ids : List DequeId) → taken_at (map (fresh_taker {T = T}) ids) ≡ []
  taken-fresh [] = refl
  taken-fresh (id ∷ ids) = taken-fresh ids

  -- the first owner and the last row go to one thread
  pub ready-less : (ids : List DequeId) (owners rest : List (OwnView T)) (rows others : List (Vec (TakerView T))) (own : OwnView T) (takers : Vec (TakerView T))
      → owners ≡ own ∷ rest → rows ≡ others ++ takers ∷ [] → AreReady ids owners rows
      → AreReady ids rest others × (own ≡ fresh_own (1024 - length ids) own.capacity own.deque) × (takers.items ≡ map fresh_taker ids)
  ready-less ids owners rest rows others own takers first last ready =
      let o = all_first (λ (o : OwnView T). o ≡ fresh_own (1024 - length ids) o.capacity o.deque) owners rest own first ready.owners_are in
      let r = All-pop (λ (ss : Vec (TakerView T)). ss.items ≡ map fresh_taker ids) rows others (Some takers) last ready.rows_are in
      (record { owners_are = o.1; rows_are = r.0; few = ready.few }, o.0, r.1)

  module _ {A : Type 0} where
    -- a new worker
    pub member_new : (queue : TableId) (ids : List DequeId) (m : Member T A) → m.own ≡ fresh_own (1024 - length ids) m.own.capacity m.own.deque
        → m.takers.items ≡ map fresh_taker ids → length ids ≤ 64 → AnswersTo queue m → (answers_of m).pushed ≡ []
        → HasYetToServe queue m × (workplace_of m ≡ workplace ids m.own.deque)
    member_new queue ids m own_is takers_are few answers none =
        let at : deques_at m.takers.items ≡ ids = ap (λ (ss : List (TakerView T)). deques_at ss) takers_are ∙ deques-fresh T ids in
        let taken : taken_at m.takers.items ≡ [] = ap (λ (ss : List (TakerView T)). taken_at ss) takers_are ∙ taken-fresh ids in
        let parts : m.own.parts ≡ 1024 - length ids = ap (λ (o : OwnView T). o.parts) own_is in (
          record {
            answers = answers;
            none_moved = ap (λ (o : OwnView T). o.pushed) own_is;
            none_taken = ap (λ (o : OwnView T). o.taken ++ taken_at m.takers.items) own_is ∙ taken;
            none_given = none;
            few = omega (arith, few, ap length at, length-map m.takers.items (λ (s : TakerView T). s.at));
          },
          ap (λ (n : ℕ). record { deque = m.own.deque; parts = n; at = deques_at m.takers.items }) parts
              ∙ ap (λ (xs : List DequeId). record { deque = m.own.deque; parts = 1024 - length ids; at = xs }) at,
        )
