-- Stops on the way of a read, and entries that are spent.
use Rattle.std.proofs.Common.{◌≡◌, ◌+◌, ◌<◌, ◌≤◌, ◌⊎◌, ℕ, List, [], ◌∷◌, ◌++◌, length, take, get_or, Contains, inl, inr, ◌∙◌, sym, subst, arith}
use Rattle.std.proofs.lemmas.List.{take_more}
use Rattle.std.proofs.lemmas.List.Elements.{All-more, Contains-append_left, Contains-append_right}
use Rattle.ht_io.specs.Reading.{PassesNone, IsFull}

-- one more stop is not passed
pub passes_none-more : (stops : List ℕ) (at most next i : ℕ) → i < length stops → PassesNone (take i stops) at most
    → next ≤ most → (get_or stops i 0 ≤ at) ⊎ (at + next ≤ get_or stops i 0) → PassesNone (take (i + 1) stops) at next
passes_none-more stops at most next i within before less here =
    All-more (λ stop. (stop ≤ at) ⊎ (at + next ≤ stop)) stops i 0 within
    (λ k d below. elim (before k d below) [ inl p ↦ inl p | inr p ↦ inr (omega arith) ]) here

-- a shorter read passes none either
pub passes_none-shorter : (stops : List ℕ) (at most next : ℕ) → PassesNone stops at most → next ≤ most → PassesNone stops at next
passes_none-shorter stops at most next before less =
    λ k d below. elim (before k d below) [ inl p ↦ inl p | inr p ↦ inr (omega arith) ]

-- a stop among the first is one of them all
contains-more : (stops : List ℕ) (i x : ℕ) → i < length stops → Contains (take i stops) x → Contains (take (i + 1) stops) x
contains-more stops i x within has = rw (take_more stops i 0 within) (Contains-append_left (take i stops) (get_or stops i 0 ∷ []) x has)

contains-here : (stops : List ℕ) (i x : ℕ) → i < length stops → get_or stops i 0 ≡ x → Contains (take (i + 1) stops) x
contains-here stops i x within is =
    let one : Contains (get_or stops i 0 ∷ []) x = (0, omega arith, is) in
    rw (take_more stops i 0 within) (Contains-append_right (take i stops) (get_or stops i 0 ∷ []) x one)

-- a read that ends at one more stop, or where it ended, is full
pub is_full-more : (stops : List ℕ) (at room most next i : ℕ) → i < length stops → IsFull (take i stops) at room most
    → (next ≡ most) ⊎ (get_or stops i 0 ≡ at + next) → IsFull (take (i + 1) stops) at room next
is_full-more stops at room most next i within before (inr here) = inr (contains-here stops i (at + next) within here)
is_full-more stops at room most next i within (inl whole) (inl same) = inl (same ∙ whole)
is_full-more stops at room most next i within (inr has) (inl same) =
    inr (contains-more stops i (at + next) within (subst (λ (n : ℕ). Contains (take i stops) (at + n)) (sym same) has))

-- a read between two lists of stops
pub is_full-both : (cuts failing : List ℕ) (at room between count : ℕ) → IsFull cuts at room between → IsFull failing at between count
    → IsFull (cuts ++ failing) at room count
is_full-both cuts failing at room between count first (inr has) = inr (Contains-append_right cuts failing (at + count) has)
is_full-both cuts failing at room between count (inl whole) (inl same) = inl (same ∙ whole)
is_full-both cuts failing at room between count (inr has) (inl same) =
    inr (Contains-append_left cuts failing (at + count) (subst (λ (n : ℕ). Contains cuts (at + n)) (sym same) has))
