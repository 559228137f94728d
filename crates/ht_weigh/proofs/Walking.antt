-- The walk over the levels of a coordinate: what is left of it still lowers the least distances as all of it does.
use Rattle.std.proofs.Common.{◌≡◌, ◌⊎◌, ℕ, ◌+◌, ◌≤◌, ℤ, List, [], ◌∷◌, ◌++◌, drop, inl, inr, ap, sym, ◌∙◌, subst, arith}
use Rattle.ht_rate.specs.declared.kinds.Modulation.{Modulation}
use Rattle.ht_pam.specs.Zigzags.{Ascending, From}
use Rattle.ht_sphere.specs.Coordinates.{Real, cost, order, order_at, target}
use Rattle.ht_sphere.specs.Tree.{Reached}
use Rattle.ht_sphere.specs.Searching.{leaves, leaves_by, Among}
use Rattle.ht_sphere.proofs.Bests.{among-append, among-left, among-right, leaves-le, sorted}
use Rattle.ht_sphere.proofs.Steps.{Step}
use Rattle.ht_weigh.specs.Leasts.{IsLowered, AreWithin}
use Rattle.ht_weigh.specs.Walks.{Tells}
use Rattle.ht_weigh.proofs.Lowered.{lowered-not, lowered-then}

-- vectors among others tell no less there
told-among : (m : Modulation) (xs ys : List Reached) (j n : ℕ) → ((v : Reached) → Among xs v → Among ys v) → Tells m xs j n → Tells m ys j n
told-among m xs ys j n into h = record {
  vector = h.vector;
  stream = h.stream;
  bit = h.bit;
  value = h.value;
  among = into h.vector h.among;
  first = h.first;
  within = h.within;
  has = h.has;
  place = h.place;
  distance = h.distance;
}

told-either : (m : Modulation) (xs ys : List Reached) (j n : ℕ) → Tells m (xs ++ ys) j n → Tells m xs j n ⊎ Tells m ys j n
told-either m xs ys j n h = elim (among-append xs ys h.vector h.among) [
  | inl l ↦ inl record {
    vector = h.vector;
    stream = h.stream;
    bit = h.bit;
    value = h.value;
    among = l;
    first = h.first;
    within = h.within;
    has = h.has;
    place = h.place;
    distance = h.distance;
  }
  | inr r ↦ inr record {
    vector = h.vector;
    stream = h.stream;
    bit = h.bit;
    value = h.value;
    among = r;
    first = h.first;
    within = h.within;
    has = h.has;
    place = h.place;
    distance = h.distance;
  }
]

-- some vectors, and then others
lowered-append : (m : Modulation) (xs ys : List Reached) (a b c : List ℕ) → IsLowered (Tells m xs) a b → IsLowered (Tells m ys) b c
    → IsLowered (Tells m (xs ++ ys)) a c
lowered-append m xs ys a b c p q =
    lowered-then (Tells m xs) (Tells m ys) (Tells m (xs ++ ys)) a b c p q (told-either m xs ys)
    (λ j n. told-among m xs (xs ++ ys) j n (among-left xs ys)) (λ j n. told-among m ys (xs ++ ys) j n (among-right xs ys))

lowered-none : (m : Modulation) (a : List ℕ) → IsLowered (Tells m []) a a
lowered-none m a = lowered-not (Tells m []) a (λ j n h. absurd h.among)

-- levels that are all too far
all-far : (c : Real) (cs : List Real) (s : List ℤ) (p k : ℕ) (xs : List ℤ) (v : Reached) → From (cost c s) k xs → Among (leaves_by (leaves cs) c s p xs) v
    → p + k ≤ v.1
all-far c cs s p k [] v far h = absurd h
all-far c cs s p k (x ∷ xs) v far h = elim (among-append (leaves cs (x ∷ s) (p + cost c s x)) (leaves_by (leaves cs) c s p xs) v h) [
  | inl l ↦ omega (arith, leaves-le cs (x ∷ s) (p + cost c s x) v l, far.0)
  | inr r ↦ all-far c cs s p k xs v far.1 r
]

lowered-far : (m : Modulation) (c : Real) (cs : List Real) (s : List ℤ) (p clip : ℕ) (x : ℤ) (xs : List ℤ) (a : List ℕ) → AreWithin clip a
    → clip ≤ p + cost c s x → Ascending (cost c s) (x ∷ xs) → IsLowered (Tells m (leaves_by (leaves cs) c s p (x ∷ xs))) a a
lowered-far m c cs s p clip x xs a within far rises =
    lowered-not (Tells m (leaves_by (leaves cs) c s p (x ∷ xs))) a
    (λ j n h. omega (arith, within j, far, h.distance, all-far c cs s p (cost c s x) (x ∷ xs) h.vector (omega arith, rises.0) h.among))

-- what was known of the least distances at the start and now
pub record IsLeft (m : Modulation) (c : Real) (cs : List Real) (s : List ℤ) (p : ℕ) (walk : List ℤ) (old now : List ℕ) : Type 0 where
  pub sorted : Ascending (cost c s) walk
  pub lowered : (b : List ℕ) → IsLowered (Tells m (leaves_by (leaves cs) c s p walk)) now b → IsLowered (Tells m (leaves (c ∷ cs) s p)) old b

module _ (m : Modulation) (c : Real) (cs : List Real) (s : List ℤ) (p : ℕ) where
  -- at the start all levels are left
  pub starts : (t : ℤ) (walk : List ℤ) (old : List ℕ) → walk ≡ order_at c t → t ≡ target c s → IsLeft m c cs s p walk old old
  starts t walk old is at_target =
      let listed : walk ≡ order c s = is ∙ ap (order_at c) at_target in
      record {
        sorted = subst (Ascending (cost c s)) (sym listed) (sorted c (target c s));
        lowered = λ b h. subst (λ (l : List ℤ). IsLowered (Tells m (leaves_by (leaves cs) c s p l)) old b) listed h;
      }

  pub ends : (walk : List ℤ) (old now : List ℕ) → IsLeft m c cs s p walk old now → walk ≡ [] → IsLowered (Tells m (leaves (c ∷ cs) s p)) old now
  ends walk old now left none =
      left.lowered now (subst (λ (l : List ℤ). IsLowered (Tells m (leaves_by (leaves cs) c s p l)) now now) (sym none) (lowered-none m now))

  module _ (walk xs all : List ℤ) (x : ℤ) (place n : ℕ) (old now : List ℕ) (left : IsLeft m c cs s p walk old now) (first : walk ≡ x ∷ xs)
      (step : Step c s all place n x) where
    -- the next level is beyond the clip
    pub ends_far : (clip : ℕ) → AreWithin clip now → clip ≤ p + n → IsLowered (Tells m (leaves (c ∷ cs) s p)) old now
    ends_far clip within far =
        left.lowered now
        (subst (λ (l : List ℤ). IsLowered (Tells m (leaves_by (leaves cs) c s p l)) now now) (sym first)
        (lowered-far m c cs s p clip x xs now within (subst (λ (k : ℕ). clip ≤ p + k) step.costs far) (subst (Ascending (cost c s)) first left.sorted)))

    -- what is below the next level is walked
    pub goes_on : (new : List ℕ) → IsLowered (Tells m (leaves cs (drop place all) (p + n))) now new → IsLeft m c cs s p xs old new
    goes_on new walked = record {
      sorted = (subst (Ascending (cost c s)) first left.sorted).1;
      lowered = λ b h.
          let below : IsLowered (Tells m (leaves cs (x ∷ s) (p + cost c s x))) now new =
          subst (λ (l : List ℤ). IsLowered (Tells m (leaves cs l (p + cost c s x))) now new) step.chosen
          (subst (λ (k : ℕ). IsLowered (Tells m (leaves cs (drop place all) (p + k))) now new) step.costs walked) in
          left.lowered b
          (subst (λ (l : List ℤ). IsLowered (Tells m (leaves_by (leaves cs) c s p l)) now b) (sym first)
          (lowered-append m (leaves cs (x ∷ s) (p + cost c s x)) (leaves_by (leaves cs) c s p xs) now new b below h));
    }
