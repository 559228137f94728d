-- Worked values of the definitions.
use Rattle.std.proofs.Common.{◌≡◌, ℕ, [], ◌∷◌, Some, None, refl}
use Rattle.ht_io.specs.Causes.{one_more}
use Rattle.ht_io.specs.Pieces.{KnownTaken, KnownAllTaken, KnownGrown}

-- a counter stands still at its last value
at_last : one_more 18446744073709551615 ≡ 18446744073709551615
at_last = refl

before_last : one_more 18446744073709551614 ≡ 18446744073709551615
before_last = refl

-- two octets of three are read
reads_two : KnownTaken {P = ℕ} (Some (72 ∷ 84 ∷ 67 ∷ [])) (Some (67 ∷ [])) (72 ∷ 84 ∷ [])
reads_two = refl

-- an octet is put behind two
puts_one : KnownGrown {P = ℕ} (Some (72 ∷ 84 ∷ [])) (Some (72 ∷ 84 ∷ 67 ∷ [])) (67 ∷ [])
puts_one = refl

-- what a sink holds may be known no longer
known_no_longer : KnownGrown {P = ℕ} (Some (72 ∷ [])) None (84 ∷ [])
known_no_longer = tt

-- the last octet is read
reads_all : KnownAllTaken {P = ℕ} (Some (67 ∷ [])) (Some []) (67 ∷ [])
reads_all = (refl, refl)
