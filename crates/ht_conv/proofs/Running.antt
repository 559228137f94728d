-- The loop of the encoder: what was sent, and what the rest of the input still sends.
use Rattle.std.proofs.Common.{◌≡◌, ℕ, zero, suc, ◌+◌, ◌-◌, ◌%◌, ◌<◌, ◌≤◌, List, [], ◌∷◌, ◌++◌, length, take, drop}
use Rattle.std.proofs.Common.{get_or, replicate, Bool, false, refl, ap, sym, ◌∙◌, arith, add-one, append_assoc}
use Rattle.std.proofs.Math.Seq.{drop-cons}
use Rattle.std.proofs.lemmas.List.{get_or-replicate, get_or-take, get_or_past}
use Rattle.ht_rate.specs.declared.kinds.Pattern.{Pattern}
use Rattle.ht_rate.specs.declared.kinds.Pattern.TheVariants.{Half, TwoThirds, ThreeQuarters, FiveSixths}
use Rattle.ht_conv.specs.declared.puncture.Kept.{Kept}
use Rattle.ht_conv.specs.declared.puncture.Kept.TheVariants.{Both}
use Rattle.ht_conv.specs.Puncturing.{period_of, kept_of, kept_bits, kept_count, sent_count}
use Rattle.ht_conv.specs.Code.{taps_a, taps_b, sent_bits}
use Rattle.ht_conv.specs.Continued.{tapped, step_bits, sent_from}
use Rattle.ht_conv.proofs.MidStream.{Agree, sent_bits-from, sent_from-agree}

zeros : Agree (replicate 6 false) []
zeros d lt = get_or-replicate 6 d false false lt ∙ sym (get_or_past [] d false (omega arith))

-- a register of zeros is no earlier input
pub starts : (p : Pattern) (u before sent : List Bool) → sent ≡ [] → before ≡ replicate 6 false → sent ++ sent_from p 0 before u ≡ sent_bits p u
starts p u before sent none e =
    ap (λ (s : List Bool). s ++ sent_from p 0 before u) none
    ∙ (ap (λ (h : List Bool). sent_from p 0 h u) e ∙ (sent_from-agree p 0 (replicate 6 false) [] u zeros ∙ sym (sent_bits-from p u)))

-- a register that lets its oldest bit go agrees with one that keeps it
agree-five : (b : Bool) (h : List Bool) → Agree (b ∷ take 5 h) (b ∷ h)
agree-five b h zero lt = refl
agree-five b h (suc d) lt = get_or-take 5 h d false (omega arith)

pub goes_on : (p : Pattern) (u : List Bool) (t : ℕ) (before after : List Bool) (kept : Kept) (a b : Bool) (old new whole : List Bool) → t < length u
    → kept ≡ kept_of p t → a ≡ tapped taps_a (get_or u t false ∷ before) → b ≡ tapped taps_b (get_or u t false ∷ before)
    → after ≡ get_or u t false ∷ take 5 before → new ≡ old ++ kept_bits kept a b
    → old ++ sent_from p t before (drop t u) ≡ whole → new ++ sent_from p (t + 1) after (drop (t + 1) u) ≡ whole
goes_on p u t before after kept a b old new whole lt is_kept is_a is_b is_after is_new was =
    let bit : Bool = get_or u t false in
    let rest : List Bool = drop (t + 1) u in
    let more : List Bool = sent_from p (t + 1) (bit ∷ before) rest in
    let next : drop t u ≡ bit ∷ rest = rw add-one (drop-cons u t false lt) in
    let bits : kept_bits kept a b ≡ step_bits p t (bit ∷ before) =
    ap (λ (k : Kept). kept_bits k a b) is_kept
    ∙ (ap (λ (x : Bool). kept_bits (kept_of p t) x b) is_a ∙ ap (λ (y : Bool). kept_bits (kept_of p t) (tapped taps_a (bit ∷ before)) y) is_b) in
    let shorter : sent_from p (t + 1) after rest ≡ more =
    ap (λ (h : List Bool). sent_from p (t + 1) h rest) is_after ∙ sent_from-agree p (t + 1) (bit ∷ take 5 before) (bit ∷ before) rest (agree-five bit before) in
    let whole_step : sent_from p t before (drop t u) ≡ step_bits p t (bit ∷ before) ++ more =
    ap (sent_from p t before) next ∙ rw add-one refl in
    ap (λ (xs : List Bool). xs ++ sent_from p (t + 1) after rest) is_new
    ∙ (ap (λ (xs : List Bool). (old ++ kept_bits kept a b) ++ xs) shorter
    ∙ (append_assoc old (kept_bits kept a b) more
    ∙ (ap (λ (xs : List Bool). old ++ (xs ++ more)) bits
    ∙ (ap (λ (xs : List Bool). old ++ xs) (sym whole_step) ∙ was))))

-- the place in the period
pub kept-phase : (p : Pattern) (t phase : ℕ) (period : List Kept) → period ≡ period_of p
    → phase ≡ t % length (period_of p) → get_or period phase Both ≡ kept_of p t
kept-phase p t phase period is_period is_phase = ap (λ (k : List Kept). get_or k phase Both) is_period ∙ ap (λ (n : ℕ). get_or (period_of p) n Both) is_phase

pub phase-starts : (p : Pattern) → 0 ≡ 0 % length (period_of p)
phase-starts Half = refl
phase-starts TwoThirds = refl
phase-starts ThreeQuarters = refl
phase-starts FiveSixths = refl

next-phase : (p : Pattern) (t : ℕ) → (t % length (period_of p) + 1) % length (period_of p) ≡ (t + 1) % length (period_of p)
next-phase Half t = omega arith
next-phase TwoThirds t = omega arith
next-phase ThreeQuarters t = omega arith
next-phase FiveSixths t = omega arith

pub phase-more : (p : Pattern) (t phase next : ℕ) (period : List Kept) → period ≡ period_of p
    → phase ≡ t % length (period_of p) → next ≡ (phase + 1) % length period → next ≡ (t + 1) % length (period_of p)
phase-more p t phase next period is_period is_phase is_next =
    is_next
    ∙ (ap (λ (k : List Kept). (phase + 1) % length k) is_period
    ∙ (ap (λ (n : ℕ). (n + 1) % length (period_of p)) is_phase ∙ next-phase p t))

sent_count-grows : (p : Pattern) (n k : ℕ) → sent_count p n ≤ sent_count p (n + k)
sent_count-grows p n zero = let same : n + 0 ≡ n = omega arith in rw same (omega arith)
sent_count-grows p n (suc k) =
    let same : n + suc k ≡ suc (n + k) = omega arith in
    rw same (omega (arith, sent_count-grows p n k))

-- there is room for each step
pub room-for : (p : Pattern) (t n capacity len : ℕ) (kept : Kept) → t < n → kept ≡ kept_of p t
    → len ≡ sent_count p t → capacity ≡ sent_count p n → len + kept_count kept ≤ capacity
room-for p t n capacity len kept lt is_kept is_len is_capacity =
    let same : suc t + (n - suc t) ≡ n = omega arith in
    let more : sent_count p (suc t) ≤ sent_count p n = rw (← same) (sent_count-grows p (suc t) (n - suc t)) in
    let count : kept_count kept ≡ kept_count (kept_of p t) = ap kept_count is_kept in
    omega arith

pub count-more : (p : Pattern) (t old new : ℕ) (kept : Kept) → kept ≡ kept_of p t
    → old ≡ sent_count p t → new ≡ old + kept_count kept → new ≡ sent_count p (t + 1)
count-more p t old new kept is_kept is_old is_new =
    let count : kept_count kept ≡ kept_count (kept_of p t) = ap kept_count is_kept in
    rw add-one (omega arith)
