-- What follows where a field passes its test, and octets in parts.
use Rattle.std.proofs.Common.{◌≡◌, ℕ, zero, suc, ◌≤◌, List, [], ◌∷◌, ◌++◌, length}
use Rattle.std.proofs.Common.{nat_eq, nat_lt, Bool, true, false, ◌||◌, if◌then◌else◌, refl, subst, arith}
use Rattle.std.proofs.lemmas.Bool.Decides.{nat_tests}
use Rattle.byteorder.specs.Endian.{big_number}
use Rattle.ht_io.specs.declared.faults.Kind.{Kind}
use Rattle.ht_fields.specs.Grammar.{Verdict, Good, Bad}
use Rattle.ht_fields.specs.Tests.{AreBytes, checked, differs, octet_of}
use Rattle.ht_heads.specs.declared.starting.Limits.{Limits}
use Rattle.ht_heads.specs.Starts.{is_outside}

-- a good verdict is of one state
pub same_good : {S I : Type 0} (n next : S) (i here : List I) → Good n i ≡ Good next here → (n ≡ next) × (i ≡ here)
same_good n next i here e =
    let a : n ≡ next = cc in
    let b : i ≡ here = cc in
    (a, b)

-- what is judged good has passed the test
pub passes : {S I : Type 0} (kind : Kind) (b : Bool) (good : Verdict S I) (next : S) (here : List I)
    → (if b then Bad kind else good) ≡ Good next here → (b ≡ false) × (good ≡ Good next here)
passes kind true good next here e = absurd cc
passes kind false good next here e = (refl, e)

pub passed : {S I : Type 0} (kind : Kind) (refused : List ℕ → Bool) (good : List ℕ → Verdict S I) (x : List ℕ) (next : S) (here : List I)
    → checked kind refused good x ≡ Good next here → (refused x ≡ false) × (good x ≡ Good next here)
unfolding checked
passed kind refused good x next here e = passes kind (refused x) (good x) next here e

pub other_way : (b : Bool) → (if b then false else true) ≡ false → b ≡ true
other_way true e = refl
other_way false e = absurd cc

pub neither : (a b : Bool) → (a || b) ≡ false → (a ≡ false) × (b ≡ false)
neither true b e = absurd cc
neither false b e = (refl, e)

pub same_number : (a b : ℕ) → nat_eq a b ≡ true → a ≡ b
same_number a b e = grind (arith, nat_tests)

pub at_most : (a b : ℕ) → nat_lt a b ≡ false → b ≤ a
at_most a b e = grind (arith, nat_tests)

pub not_none : (a : ℕ) → nat_eq a 0 ≡ false → 1 ≤ a
not_none a e = grind (arith, nat_tests)

-- a count that passes is between the limits
pub within : (limits : Limits) (x : List ℕ) → is_outside limits x ≡ false
    → (limits.least ≤ big_number limits.width x) × (big_number limits.width x ≤ limits.most)
unfolding is_outside
within limits x e =
    let parts = neither (nat_lt (big_number limits.width x) limits.least) (nat_lt limits.most (big_number limits.width x)) e in
    (at_most _ _ parts.0, at_most _ _ parts.1)

-- one octet
pub single : (x : List ℕ) → length x ≡ 1 → x ≡ octet_of x ∷ []
single [] size = absurd (omega (arith, size))
single (a ∷ []) size = refl
single (a ∷ b ∷ x) size = absurd (omega (arith, size))

-- the octet that is wanted
pub wanted_is : (wanted : ℕ) (x : List ℕ) → length x ≡ 1 → differs wanted x ≡ false → x ≡ wanted ∷ []
wanted_is wanted x size e =
    let same : octet_of x ≡ wanted = same_number (octet_of x) wanted (other_way (nat_eq (octet_of x) wanted) e) in
    subst (λ (k : ℕ). x ≡ k ∷ []) same (single x size)

-- octets in two parts
pub bytes_front : (xs ys : List ℕ) → AreBytes (xs ++ ys) → AreBytes xs
bytes_front [] ys bytes i = omega arith
bytes_front (x ∷ xs) ys bytes zero = bytes 0
bytes_front (x ∷ xs) ys bytes (suc i) = bytes_front xs ys (λ j. bytes (suc j)) i

pub bytes_behind : (xs ys : List ℕ) → AreBytes (xs ++ ys) → AreBytes ys
bytes_behind [] ys bytes = bytes
bytes_behind (x ∷ xs) ys bytes = bytes_behind xs ys (λ j. bytes (suc j))
