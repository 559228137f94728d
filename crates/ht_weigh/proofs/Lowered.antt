-- How least distances are lowered, step by step.
use Rattle.std.proofs.Common.{◌≡◌, ◌⊎◌, ℕ, zero, suc, ◌<◌, ◌≤◌, List, [], ◌∷◌, length, set, replicate, inl, inr, arith, refl, sym, ◌∙◌, subst}
use Rattle.std.specs.Prelude.{slice_index}
use Rattle.std.proofs.Math.ListN.{length-set}
use Rattle.ht_weigh.specs.Leasts.{IsLowered, IsOf, AreWithin}

-- where what is heard is at least what is known already, nothing changes
pub lowered-not : (Heard : ℕ → ℕ → Type 0) (a : List ℕ) → ((j n : ℕ) → Heard j n → slice_index a j ≤ n) → IsLowered Heard a a
lowered-not Heard a known = record {
  size = refl;
  falls = λ j. omega arith;
  low = known;
  sound = λ bound was heard. was;
}

-- one after the other
pub lowered-then : (S T U : ℕ → ℕ → Type 0) (a b c : List ℕ) → IsLowered S a b → IsLowered T b c → ((j n : ℕ) → U j n → S j n ⊎ T j n)
    → ((j n : ℕ) → S j n → U j n) → ((j n : ℕ) → T j n → U j n) → IsLowered U a c
lowered-then S T U a b c p q either first second = record {
  size = q.size ∙ p.size;
  falls = λ j. omega (arith, p.falls j, q.falls j);
  low = λ j n h. elim (either j n h) [ inl s ↦ omega (arith, p.low j n s, q.falls j) | inr t ↦ q.low j n t ];
  sound = λ bound was heard j there.
      q.sound bound (λ i in_b. p.sound bound was (λ k n s. heard k n (first k n s)) i (subst (λ (m : ℕ). i < m) p.size in_b))
      (λ k n t. heard k n (second k n t)) j (subst (λ (m : ℕ). j < m) (sym p.size) there);
}

-- what is as much is enough: each thing heard is no nearer than one that was heard of the same half
pub record Nearer (S : ℕ → ℕ → Type 0) (j n : ℕ) : Type 0 where
  pub distance : ℕ
  pub heard : S j distance
  pub less : distance ≤ n

pub lowered-as : (S U : ℕ → ℕ → Type 0) (a b : List ℕ) → IsLowered S a b → ((j n : ℕ) → U j n → Nearer S j n) → ((j n : ℕ) → S j n → U j n) → IsLowered U a b
lowered-as S U a b p nearer known = record {
  size = p.size;
  falls = p.falls;
  low = λ j n h. let s = nearer j n h in omega (arith, p.low j s.distance s.heard, s.less);
  sound = λ bound was heard. p.sound bound was (λ k n s. heard k n (known k n s));
}

-- none rises above the clip
pub within-lowered : (Heard : ℕ → ℕ → Type 0) (clip : ℕ) (a b : List ℕ) → AreWithin clip a → IsLowered Heard a b → AreWithin clip b
within-lowered Heard clip a b within p j = omega (arith, within j, p.falls j)

set-falls : (xs : List ℕ) (i n j : ℕ) → n ≤ slice_index xs i → slice_index (set xs i n) j ≤ slice_index xs j
set-falls [] i n j le = omega arith
set-falls (x ∷ xs) zero n zero le = le
set-falls (x ∷ xs) zero n (suc j) le = omega arith
set-falls (x ∷ xs) (suc i) n zero le = omega arith
set-falls (x ∷ xs) (suc i) n (suc j) le = set-falls xs i n j le

set-here : (xs : List ℕ) (i n : ℕ) → i < length xs → slice_index (set xs i n) i ≡ n
set-here [] i n there = absurd (omega arith)
set-here (x ∷ xs) zero n there = refl
set-here (x ∷ xs) (suc i) n there = set-here xs i n (omega arith)

set-sound : (bound : ℕ → ℕ) (xs : List ℕ) (i n : ℕ) → ((j : ℕ) → j < length xs → bound j ≤ slice_index xs j) → bound i ≤ n
    → (j : ℕ) → j < length xs → bound j ≤ slice_index (set xs i n) j
set-sound bound [] i n was le j there = absurd (omega arith)
set-sound bound (x ∷ xs) zero n was le zero there = le
set-sound bound (x ∷ xs) zero n was le (suc j) there = was (suc j) there
set-sound bound (x ∷ xs) (suc i) n was le zero there = was zero there
set-sound bound (x ∷ xs) (suc i) n was le (suc j) there =
    set-sound (λ k. bound (suc k)) xs i n (λ k below. was (suc k) (omega arith)) le j (omega arith)

-- a lesser distance is written
pub lowered-set : (xs : List ℕ) (i n : ℕ) → i < length xs → n ≤ slice_index xs i → IsLowered (IsOf i n) xs (set xs i n)
lowered-set xs i n there le = record {
  size = length-set xs i n;
  falls = λ j. set-falls xs i n j le;
  low = λ j m h. subst (λ (k : ℕ). slice_index (set xs i n) k ≤ m) (sym h.place) (omega (arith, set-here xs i n there, h.distance));
  sound = λ bound was heard. set-sound bound xs i n was (heard i n record { place = refl; distance = refl });
}

-- one that is no less changes nothing
pub lowered-kept : (xs : List ℕ) (i n : ℕ) → slice_index xs i ≤ n → IsLowered (IsOf i n) xs xs
lowered-kept xs i n le =
    lowered-not (IsOf i n) xs (λ j m h. subst (λ (k : ℕ). slice_index xs k ≤ m) (sym h.place) (omega (arith, h.distance)))

-- at the start each is at the clip
pub all-within : (clip n : ℕ) → AreWithin clip (replicate n clip)
all-within clip zero j = omega arith
all-within clip (suc n) zero = omega arith
all-within clip (suc n) (suc j) = all-within clip n j
