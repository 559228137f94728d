-- A field that a test judges.
use Rattle.std.proofs.Common.{◌≡◌, ℕ, List, Bool, true, false, if◌then◌else◌, ap, ◌∙◌}
use Rattle.ht_io.specs.declared.faults.Kind.{Kind}
use Rattle.ht_fields.specs.Grammar.{Verdict, Bad}
use Rattle.ht_fields.specs.Tests.{checked}

pub when_true : {A : Type 0} (b : Bool) (x y : A) → b ≡ true → (if b then x else y) ≡ x
when_true b x y e = ap (λ c. if c then x else y) e

pub when_false : {A : Type 0} (b : Bool) (x y : A) → b ≡ false → (if b then x else y) ≡ y
when_false b x y e = ap (λ c. if c then x else y) e

-- the test refuses the field
pub checked_bad : {S I : Type 0} (kind : Kind) (refused : List ℕ → Bool) (good : List ℕ → Verdict S I) (octets : List ℕ)
    → refused octets ≡ true → checked kind refused good octets ≡ Bad kind
unfolding checked
checked_bad kind refused good octets is = when_true _ _ _ is

-- the test lets the field pass
pub checked_good : {S I : Type 0} (kind : Kind) (refused : List ℕ → Bool) (good : List ℕ → Verdict S I) (octets : List ℕ) (verdict : Verdict S I)
    → refused octets ≡ false → good octets ≡ verdict → checked kind refused good octets ≡ verdict
unfolding checked
checked_good kind refused good octets verdict is means = when_false _ _ _ is ∙ means
