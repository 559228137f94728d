-- The six input bits that the encoder remembers, as a number below 64.
use Rattle.std.specs.Prelude.{ℕ, ◌/◌, ◌%◌, List, [], ◌∷◌, Bool, ◌==◌}

-- the bits of a state, the latest input first: it has the value 32, the oldest 1
abbrev pub history_of : ℕ → List Bool
history_of state =
    (state / 32 == 1) ∷ (state / 16 % 2 == 1) ∷ (state / 8 % 2 == 1) ∷ (state / 4 % 2 == 1) ∷ (state / 2 % 2 == 1) ∷ (state % 2 == 1) ∷ []
