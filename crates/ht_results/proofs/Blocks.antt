-- Lists of blocks that are equally long.
use Rattle.std.proofs.Common.{◌≡◌, ℕ, zero, suc, ◌+◌, ◌-◌, ◌*◌, ◌<◌, List, ◌++◌, get_or, length, ap, ◌∙◌, arith}
use Rattle.std.specs.List.{flat_map, range_with_len}
use Rattle.std.proofs.lemmas.List.{get_or-append_right, get_or_append_left}

-- a place in a list of blocks
pub block_at : (f : ℕ → List ℕ) (w a n k m : ℕ) → ((i : ℕ) → length (f i) ≡ w) → k < n → m < w
    → get_or (flat_map f (range_with_len a n)) (k * w + m) 0 ≡ get_or (f (a + k)) m 0
block_at f w a zero k m wide below within = absurd (omega (arith, below))
block_at f w a (suc n) zero m wide below within =
    let rest : List ℕ = flat_map f (range_with_len (a + 1) n) in
    let start : 0 * w + m ≡ m = omega arith in
    let place : a ≡ a + 0 = omega arith in
    let size = wide a in
    ap (λ (k : ℕ). get_or (f a ++ rest) k 0) start
    ∙ (get_or_append_left (f a) rest 0 m (omega (arith, within, size)) ∙ ap (λ (i : ℕ). get_or (f i) m 0) place)
block_at f w a (suc n) (suc k) m wide below within =
    let rest : List ℕ = flat_map f (range_with_len (a + 1) n) in
    let start : suc k * w + m ≡ w + (k * w + m) = omega arith in
    let back : w + (k * w + m) - w ≡ k * w + m = omega arith in
    let place : a + 1 + k ≡ a + suc k = omega arith in
    ap (λ (i : ℕ). get_or (f a ++ rest) i 0) start
    ∙ (get_or-append_right (f a) rest w (w + (k * w + m)) 0 (wide a) (omega arith)
    ∙ (ap (λ (i : ℕ). get_or rest i 0) back
    ∙ (block_at f w (a + 1) n k m wide (omega (arith, below)) within ∙ ap (λ (i : ℕ). get_or (f i) m 0) place)))
