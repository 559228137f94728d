use Rattle.std.proofs.Common.{◌≡◌, ◌∙◌, ◌+◌, ◌-◌, ℕ, List, ap, arith, drop, get_or, length, take}
use Rattle.std.proofs.lemmas.List.{get_or-drop, take_rest}
use Rattle.std.proofs.lemmas.Simd.{get_or-chunk}
use Rattle.ht_inverse.proofs.Marked.{word-flag}
use Rattle.ht_inverse.proofs.words.word_from.Goals as goal

-- an octet of those from one on
rest-at : (octets : List ℕ) (start i : ℕ) → get_or (take (length octets - start) (drop start octets)) i 0 ≡ get_or octets (start + i) 0
rest-at octets start i = ap (λ (xs : List ℕ). get_or xs i 0) (take_rest octets start) ∙ get_or-drop start octets i 0

pub returns-then-rest-lt-LANES : goal.returns-then-rest-lt-LANES
returns-then-rest-lt-LANES c = λ k low.
    word-flag c.flags.result c.args.start k c.args.octets.now c.filled_up.result low c.flags.ensures
    (λ i lt. c.filled_up.ensures i lt ∙ rest-at c.args.octets.now c.args.start i)

pub returns-else-rest-lt-LANES : goal.returns-else-rest-lt-LANES
returns-else-rest-lt-LANES c = λ k low.
    let octets = c.args.octets.now in
    let start = c.args.start in
    let rest = take (length octets - start) (drop start octets) in
    word-flag c.flags-else-rest-lt-LANES.result start k octets (take 64 (drop 0 rest)) low c.flags-else-rest-lt-LANES.ensures
    (λ i lt.
    let first : 0 + i ≡ i = omega arith in
    get_or-chunk 0 64 rest i 0 lt ∙ (ap (λ (n : ℕ). get_or rest n 0) first ∙ rest-at octets start i))
