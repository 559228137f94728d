-- One place of several lists.
use Rattle.std.proofs.Common.{◌≡◌, ℕ, ◌<◌, ◌≤◌, List, [], ◌∷◌, length, get_or, ◌∙◌, sym, arith}
use Rattle.std.proofs.lemmas.List.{get_or_past}

-- one of them, where there are some
pub some_of : {X : Type 0} (xs : List X) (k : ℕ) → k < length xs → X
some_of [] k few = absurd (omega (arith, few))
some_of (x ∷ xs) k few = x

-- behind the end of two lists of the same length the same value stands for an entry
pub past_both : {X : Type 0} (xs ys : List X) (k : ℕ) (x : X) → length ys ≡ length xs → length xs ≤ k → get_or ys k x ≡ get_or xs k x
past_both xs ys k x same high =
    let beyond : length ys ≤ k = omega (arith, same, high) in
    get_or_past ys k x beyond ∙ sym (get_or_past xs k x high)
