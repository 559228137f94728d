-- Octets that wait in a chunk until they are put.
use Rattle.std.specs.Prelude.{◌≡◌, ℕ, List, ◌++◌}
use Rattle.ht_io.specs.Devices.{Device, Grows}

-- of the octets that waited, and of these behind them, the first were put, and the others wait
abbrev pub Moves : Device ℕ → Device ℕ → List ℕ → List ℕ → List ℕ → Type 0
Moves before after waited waits octets = (put : List ℕ) × (put ++ waits ≡ waited ++ octets) × Grows before after put
