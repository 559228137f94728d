-- Known octets of a reader and a writer of std, over several calls.
use Rattle.std.proofs.Common.{◌≡◌, ◌+◌, ◌≤◌, ℕ, List, [], ◌++◌, length, take, drop, Option, Some, None}
use Rattle.std.proofs.Common.{refl, ap, ◌∙◌, sym, ◌-◌, append_assoc, append-nil, length-drop, arith}
use Rattle.std.proofs.Math.Seq.{take-add}
use Rattle.std.proofs.lemmas.List.{take_all}
use Rattle.std.specs.Io.KnownBytes.{Keeps, Appends, Consumes}

pub keeps-refl : (known : Option (List ℕ)) → Keeps known known
keeps-refl None = tt
keeps-refl (Some xs) = refl

-- kept, and then kept
pub keeps-keeps : (before between after : Option (List ℕ)) → Keeps before between → Keeps between after → Keeps before after
keeps-keeps None between after p q = tt
keeps-keeps (Some xs) None after p q = absurd p
keeps-keeps (Some xs) (Some ys) None p q = absurd q
keeps-keeps (Some xs) (Some ys) (Some zs) p q = q ∙ p

-- kept, and then read
pub keeps-consumes : (before between after : Option (List ℕ)) (octets : List ℕ)
    → Keeps before between → Consumes between after octets → Consumes before after octets
keeps-consumes None between after octets p q = tt
keeps-consumes (Some xs) None after octets p q = absurd p
keeps-consumes (Some xs) (Some ys) None octets p q = absurd q
keeps-consumes (Some xs) (Some ys) (Some zs) octets p q = sym p ∙ q

-- nothing written
pub appends-none : (known : Option (List ℕ)) → Appends known known []
appends-none None = tt
appends-none (Some xs) = sym (append-nil xs)

-- written, and then kept
pub appends-keeps : (before between after : Option (List ℕ)) (octets : List ℕ)
    → Appends before between octets → Keeps between after → Appends before after octets
appends-keeps None between after octets p q = tt
appends-keeps (Some xs) None after octets p q = absurd p
appends-keeps (Some xs) (Some ys) None octets p q = absurd q
appends-keeps (Some xs) (Some ys) (Some zs) octets p q = q ∙ p

-- written, and then written
pub appends-append : (before between after : Option (List ℕ)) (first second : List ℕ)
    → Appends before between first → Appends between after second → Appends before after (first ++ second)
appends-append None between after first second p q = tt
appends-append (Some xs) None after first second p q = absurd p
appends-append (Some xs) (Some ys) None first second p q = absurd q
appends-append (Some xs) (Some ys) (Some zs) first second p q = q ∙ (ap (λ z. z ++ second) p ∙ append_assoc xs first second)

-- a front of the piece was written, and then a front of the rest
pub appends-more : (before between after : Option (List ℕ)) (piece : List ℕ) (done count : ℕ) → done ≤ length piece
    → Appends before between (take done piece) → Appends between after (take count (take (length piece - done) (drop done piece)))
    → Appends before after (take (done + count) piece)
appends-more before between after piece done count within p q =
    let whole : take (length piece - done) (drop done piece) ≡ drop done piece =
    take_all (length piece - done) (drop done piece) (omega (arith, length-drop done piece)) in
    let fronts : take (done + count) piece ≡ take done piece ++ take count (drop done piece) = take-add done count piece in
    rw fronts (appends-append before between after (take done piece) (take count (drop done piece)) p (rw whole at q))
