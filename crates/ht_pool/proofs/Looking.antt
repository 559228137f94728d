-- Steps by which a thread comes by a task.
use Rattle.std.proofs.Common.{◌≡◌, ℕ, zero, suc, ◌+◌, ◌<◌, List, [], ◌∷◌, set, get_or, length, Option, Some, None, sym, refl, ap, ◌∙◌, arith, subst}
use Rattle.std.specs.List.{sum_by}
use Rattle.std.proofs.lemmas.List.{append-nil}
use Rattle.std.proofs.lemmas.List.Sums.{sum_by-append, sum_by-cons}
use Rattle.std.proofs.Math.Seq.{map-set_same}
use Rattle.ht_pool.specs.Takers.{DequeId, TakerView, OwnView, stole, pushed_on, popped_from, taken_at, Steals, Gets}

module _ {T : Type 0} where
  one : (h : T → ℕ) (task : T) → sum_by h (task ∷ []) ≡ h task
  one h task = omega (arith, sum_by-cons h task [])

  at_one : (h : T → ℕ) (s : TakerView T) → sum_by h (taken_at (s ∷ [])) ≡ sum_by h s.taken
  at_one h s = ap (sum_by h) (append-nil s.taken)

  -- the sum of what was taken, after a step at one taker
  pub taken-set : (h : T → ℕ) (ss : List (TakerView T)) (i : ℕ) (s d : TakerView T) → i < length ss
      → sum_by h (taken_at (set ss i s)) + sum_by h (get_or ss i d).taken ≡ sum_by h (taken_at ss) + sum_by h s.taken
  taken-set h [] i s d lt = absurd (omega arith)
  taken-set h (x ∷ xs) zero s d lt = omega (arith, sum_by-append h s.taken (taken_at xs), sum_by-append h x.taken (taken_at xs))
  taken-set h (x ∷ xs) (suc i) s d lt = omega (
    arith,
    taken-set h xs i s d (omega arith),
    sum_by-append h x.taken (taken_at (set xs i s)),
    sum_by-append h x.taken (taken_at xs),
  )

  pub gets-none : (ss : List (TakerView T)) (o : OwnView T) → Gets ss o ss o None
  gets-none ss o = record { at = refl; deque_is = refl; parts_are = refl; got = λ h. omega arith }

  pub gets-after : (a b c : List (TakerView T)) (o p q : OwnView T) (task : Option T) → Gets a o b p None → Gets b p c q task → Gets a o c q task
  gets-after a b c o p q task first second = record {
    at = second.at ∙ first.at;
    deque_is = second.deque_is ∙ first.deque_is;
    parts_are = second.parts_are ∙ first.parts_are;
    got = λ h. omega (arith, first.got h, second.got h);
  }

  pub gets-popped : (ss : List (TakerView T)) (o o' : OwnView T) (task : T) → o' ≡ popped_from o task → Gets ss o ss o' (Some task)
  gets-popped ss o o' task popped = record {
    at = refl;
    deque_is = ap (λ (v : OwnView T). v.deque) popped;
    parts_are = ap (λ (v : OwnView T). v.parts) popped;
    got = λ h. omega (
      arith,
      ap (λ (v : OwnView T). sum_by h v.taken) popped,
      ap (λ (v : OwnView T). sum_by h v.pushed) popped,
      sum_by-append h o.taken (task ∷ []),
    );
  }

  -- a task more was taken at a taker
  stolen-sum : (h : T → ℕ) (s s' : TakerView T) (task : T) → s' ≡ stole s task
      → sum_by h (taken_at (s' ∷ [])) ≡ sum_by h (taken_at (s ∷ [])) + sum_by h (task ∷ [])
  stolen-sum h s s' task stolen =
      omega (arith, ap (λ (v : TakerView T). sum_by h v.taken) stolen, at_one h s, at_one h s', sum_by-append h s.taken (task ∷ []))

  pub gets-moved : (s s' : TakerView T) (o o' : OwnView T) (task : T) → s' ≡ stole s task → o' ≡ pushed_on o task → Gets (s ∷ []) o (s' ∷ []) o' None
  gets-moved s s' o o' task stolen pushed = record {
    at = ap (λ (v : TakerView T). v.at ∷ []) stolen;
    deque_is = ap (λ (v : OwnView T). v.deque) pushed;
    parts_are = ap (λ (v : OwnView T). v.parts) pushed;
    got = λ h. omega (
      arith,
      stolen-sum h s s' task stolen,
      ap (λ (v : OwnView T). sum_by h v.taken) pushed,
      ap (λ (v : OwnView T). sum_by h v.pushed) pushed,
      sum_by-append h o.pushed (task ∷ []),
    );
  }

  pub gets-refused : (s s' : TakerView T) (o o' : OwnView T) (task back : T) → s' ≡ stole s task → back ≡ task → o' ≡ o
      → Gets (s ∷ []) o (s' ∷ []) o' (Some back)
  gets-refused s s' o o' task back stolen same still =
      let got : Gets (s ∷ []) o (s' ∷ []) o (Some task) =
      record { at = ap (λ (v : TakerView T). v.at ∷ []) stolen; deque_is = refl; parts_are = refl; got = λ h. omega (arith, stolen-sum h s s' task stolen) } in
      subst (λ (v : OwnView T). Gets (s ∷ []) o (s' ∷ []) v (Some back)) (sym still)
      (subst (λ (x : T). Gets (s ∷ []) o (s' ∷ []) o (Some x)) (sym same) got)

  pub gets-still : (s s' : TakerView T) (o : OwnView T) → s' ≡ s → Gets (s ∷ []) o (s' ∷ []) o None
  gets-still s s' o same = subst (λ (v : TakerView T). Gets (s ∷ []) o (v ∷ []) o None) (sym same) (gets-none (s ∷ []) o)

  -- what was got at one of the takers
  pub gets-at : (ss : List (TakerView T)) (i : ℕ) (d s' : TakerView T) (o o' : OwnView T) (task : Option T) → i < length ss
      → Gets (get_or ss i d ∷ []) o (s' ∷ []) o' task → Gets ss o (set ss i s') o' task
  gets-at ss i d s' o o' task lt gets = record {
    at = map-set_same (λ (v : TakerView T). v.at) ss i s' d (ap (λ (ids : List DequeId). get_or ids 0 s'.at) gets.at);
    deque_is = gets.deque_is;
    parts_are = gets.parts_are;
    got = λ h. omega (arith, gets.got h, at_one h s', at_one h (get_or ss i d), taken-set h ss i s' d lt);
  }

  pub steals-at : (ss : List (TakerView T)) (i : ℕ) (s s' : TakerView T) (task : T) → i < length ss → s ≡ get_or ss i s → s' ≡ stole s task
      → Steals ss (set ss i s') (Some task)
  steals-at ss i s s' task lt is stolen = record {
    at = map-set_same (λ (v : TakerView T). v.at) ss i s' s (ap (λ (v : TakerView T). v.at) stolen ∙ ap (λ (v : TakerView T). v.at) is);
    took = λ h. omega (
      arith,
      taken-set h ss i s' s lt,
      ap (λ (v : TakerView T). sum_by h v.taken) stolen,
      ap (λ (v : TakerView T). sum_by h v.taken) is,
      sum_by-append h s.taken (task ∷ []),
    );
  }

  pub steals-none : (ss : List (TakerView T)) → Steals ss ss None
  steals-none ss = record { at = refl; took = λ h. omega arith }
