-- A list of which one element may change.
use Rattle.std.specs.Prelude.{◌≡◌, ◌≢◌, ℕ, List, length, slice_index_or}

-- as many elements as before, of which all but the one with this number stay as they were
pub record OthersStay {X : Type 0} (before after : List X) (at : ℕ) : Type 0 where
  pub as_many : length after ≡ length before
  pub others : (x : X) (k : ℕ) → k ≢ at → slice_index_or after k x ≡ slice_index_or before k x
