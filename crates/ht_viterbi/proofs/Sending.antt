-- The cost along the trellis is what the bits that an input sends cost.
use Rattle.std.proofs.Common.{◌≡◌, ◌==◌, ℕ, zero, suc, ◌+◌, ◌*◌, ◌/◌, ◌%◌, ◌<◌, ◌≤◌, List, [], ◌∷◌, ◌++◌, length, drop}
use Rattle.std.proofs.Common.{take, get_or, map, Bool, true, false, refl, ap, sym, ◌∙◌, arith}
use Rattle.std.proofs.Math.Seq.{drop-cons}
use Rattle.std.proofs.lemmas.List.{drop_all, length-map}
use Rattle.ht_rate.specs.declared.kinds.Pattern.{Pattern}
use Rattle.ht_conv.specs.declared.puncture.Kept.{Kept}
use Rattle.ht_conv.specs.declared.puncture.Kept.TheVariants.{Both, A, B}
use Rattle.ht_conv.specs.Puncturing.{kept_of, kept_bits, kept_count, sent_count}
use Rattle.ht_conv.specs.Code.{sent_bits, taps_a, taps_b}
use Rattle.ht_conv.specs.Continued.{tapped, sent_from}
use Rattle.ht_conv.specs.Register.{history_of}
use Rattle.ht_conv.proofs.MidStream.{Agree, sent_bits-from, sent_from-agree}
use Rattle.ht_viterbi.specs.declared.bit_costs.BitCosts.{BitCosts}
use Rattle.ht_viterbi.specs.Inputs.{total_cost, cost_of, IsCheapest}
use Rattle.ht_viterbi.specs.Trellis.{bit_cost, costs_of, free_bit, pair_of, steps_from, word_steps, moved}
use Rattle.ht_viterbi.specs.Trellis.{output_a, output_b, branch_cost, least_from, first_from}
use Rattle.ht_viterbi.proofs.Nearest.{cost_from, terminated-parts, terminated-from, first-length, first-ends, first-least, least-cheapest, first-first}

pub length-pairs : (pattern : Pattern) (places : List BitCosts) (step count : ℕ) → length (steps_from pattern places step count) ≡ count
unfolding steps_from
length-pairs pattern places step zero = refl
length-pairs pattern places step (suc count) = ap suc (length-pairs pattern places (suc step) count)

-- a bit put in front of a state's bits
shifted : (state bit next : ℕ) → state < 64 → bit < 2 → next ≡ state / 2 + 32 * bit → history_of next ≡ (bit == 1) ∷ take 5 (history_of state)
shifted state bit next lt few is =
    let a : next / 32 ≡ bit = omega arith in
    let b : next / 16 % 2 ≡ state / 32 = omega arith in
    let c : next / 8 % 2 ≡ state / 16 % 2 = omega arith in
    let d : next / 4 % 2 ≡ state / 8 % 2 = omega arith in
    let e : next / 2 % 2 ≡ state / 4 % 2 = omega arith in
    let f : next % 2 ≡ state / 2 % 2 = omega arith in
    rw (a, b, c, d, e, f) refl

-- the register after a bit, as the encoder's history
pub half-bits : (state : ℕ) → state < 64 → (bit : Bool) → history_of (moved state bit) ≡ bit ∷ take 5 (history_of state)
half-bits state lt false = shifted state 0 (state / 2) lt (omega arith) (omega arith)
half-bits state lt true = shifted state 1 (state / 2 + 32) lt (omega arith) (omega arith)

pub moved-lt : (state : ℕ) (bit : Bool) → state < 64 → moved state bit < 64
moved-lt state false lt = omega arith
moved-lt state true lt = omega arith

-- the history is six bits long, so one bit more forgets the oldest
pub agree-next : (h : List Bool) (bit a b c d e f : Bool) → h ≡ bit ∷ take 5 (a ∷ b ∷ c ∷ d ∷ e ∷ f ∷ []) → Agree (bit ∷ a ∷ b ∷ c ∷ d ∷ e ∷ f ∷ []) h
agree-next h bit a b c d e f is zero lt = rw is refl
agree-next h bit a b c d e f is (suc zero) lt = rw is refl
agree-next h bit a b c d e f is (suc (suc zero)) lt = rw is refl
agree-next h bit a b c d e f is (suc (suc (suc zero))) lt = rw is refl
agree-next h bit a b c d e f is (suc (suc (suc (suc zero)))) lt = rw is refl
agree-next h bit a b c d e f is (suc (suc (suc (suc (suc zero))))) lt = rw is refl
agree-next h bit a b c d e f is (suc (suc (suc (suc (suc (suc n)))))) lt = absurd (omega arith)

-- a punctured bit costs nothing
free : (bit : Bool) → bit_cost free_bit bit ≡ 0
free false = refl
free true = refl

-- what one step's bits cost
one-step : (kept : Kept) (places : List BitCosts) (start : ℕ) (a b : Bool) (rest : List Bool) → start + kept_count kept ≤ length places
    → total_cost bit_cost (drop start places) (kept_bits kept a b ++ rest)
    ≡ bit_cost (pair_of free_bit kept places start).0 a + bit_cost (pair_of free_bit kept places start).1 b + total_cost bit_cost
    (drop (start + kept_count kept) places) rest
one-step Both places start a b rest fits =
    let first : drop start places ≡ get_or places start free_bit ∷ drop (suc start) places = drop-cons places start free_bit (omega arith) in
    let second : drop (suc start) places ≡ get_or places (suc start) free_bit ∷ drop (suc (suc start)) places =
    drop-cons places (suc start) free_bit (omega arith) in
    let last : suc (suc start) ≡ start + 2 = omega arith in
    let one : suc start ≡ start + 1 = omega arith in
    let tail : total_cost bit_cost (drop (suc (suc start)) places) rest ≡ total_cost bit_cost (drop (start + 2) places) rest =
    ap (λ (n : ℕ). total_cost bit_cost (drop n places) rest) last in
    let next : bit_cost (get_or places (suc start) free_bit) b ≡ bit_cost (get_or places (start + 1) free_bit) b =
    ap (λ (n : ℕ). bit_cost (get_or places n free_bit) b) one in
    ap (λ (z : List BitCosts). total_cost bit_cost z (a ∷ b ∷ rest)) first
    ∙ (ap (λ (z : List BitCosts). bit_cost (get_or places start free_bit) a + total_cost bit_cost z (b ∷ rest)) second
    ∙ omega (arith, tail, next))
one-step A places start a b rest fits =
    let first : drop start places ≡ get_or places start free_bit ∷ drop (suc start) places = drop-cons places start free_bit (omega arith) in
    let last : suc start ≡ start + 1 = omega arith in
    let tail : total_cost bit_cost (drop (suc start) places) rest
    ≡ total_cost bit_cost (drop (start + 1) places) rest = ap (λ (n : ℕ). total_cost bit_cost (drop n places) rest) last in
    ap (λ (z : List BitCosts). total_cost bit_cost z (a ∷ rest)) first ∙ omega (arith, tail, free b)
one-step B places start a b rest fits =
    let first : drop start places ≡ get_or places start free_bit ∷ drop (suc start) places = drop-cons places start free_bit (omega arith) in
    let last : suc start ≡ start + 1 = omega arith in
    let tail : total_cost bit_cost (drop (suc start) places) rest
    ≡ total_cost bit_cost (drop (start + 1) places) rest = ap (λ (n : ℕ). total_cost bit_cost (drop n places) rest) last in
    ap (λ (z : List BitCosts). total_cost bit_cost z (b ∷ rest)) first ∙ omega (arith, tail, free a)

pub sent-grows : (pattern : Pattern) (count step : ℕ) → sent_count pattern step ≤ sent_count pattern (step + count)
sent-grows pattern zero step = let same : step + 0 ≡ step = omega arith in rw same (omega arith)
sent-grows pattern (suc count) step = let same : step + suc count ≡ suc (step + count) = omega arith in rw same (omega (arith, sent-grows pattern count step))

-- from a step and a state on
pub along : (pattern : Pattern) (places : List BitCosts) (bits : List Bool) (step state : ℕ)
    → state < 64 → length places ≡ sent_count pattern (step + length bits)
    → total_cost bit_cost (drop (sent_count pattern step) places) (sent_from pattern step (history_of state) bits)
    ≡ cost_from (steps_from pattern places step (length bits)) state bits
unfolding steps_from branch_cost output_a output_b
along pattern places [] step state lt len =
    let whole : length places ≡ sent_count pattern step = let e : step + 0 ≡ step = omega arith in len ∙ ap (sent_count pattern) e in
    ap (λ (z : List BitCosts). total_cost bit_cost z []) (drop_all (sent_count pattern step) places (omega arith))
along pattern places (bit ∷ bits) step state lt len =
    let end : suc step + length bits ≡ step + length (bit ∷ bits) = omega arith in
    let kept = kept_of pattern step in
    let start = sent_count pattern step in
    let history = history_of state in
    let rest : List Bool = sent_from pattern (suc step) (bit ∷ history) bits in
    let len' : length places ≡ sent_count pattern (suc step + length bits) = len ∙ ap (sent_count pattern) (sym end) in
    let fits : start + kept_count kept ≤ length places = omega (arith, sent-grows pattern (length bits) (suc step)) in
    let next : rest ≡ sent_from pattern (suc step) (history_of (moved state bit)) bits =
    sent_from-agree pattern (suc step) (bit ∷ history) (history_of (moved state bit)) bits
    (agree-next (history_of (moved state bit)) bit _ _ _ _ _ _ (half-bits state lt bit)) in
    one-step kept places start (tapped taps_a (bit ∷ history)) (tapped taps_b (bit ∷ history)) rest fits
    ∙ ap (λ (n : ℕ). bit_cost (pair_of free_bit kept places start).0 (tapped taps_a (bit ∷ history))
    + bit_cost (pair_of free_bit kept places start).1 (tapped taps_b (bit ∷ history)) + n)
    (ap (λ (z : List Bool). total_cost bit_cost (drop (sent_count pattern (suc step)) places) z) next
    ∙ along pattern places bits (suc step) (moved state bit) (moved-lt state bit lt) len')

pub agree-start : Agree [] (history_of 0)
agree-start zero lt = refl
agree-start (suc zero) lt = refl
agree-start (suc (suc zero)) lt = refl
agree-start (suc (suc (suc zero))) lt = refl
agree-start (suc (suc (suc (suc zero)))) lt = refl
agree-start (suc (suc (suc (suc (suc zero))))) lt = refl
agree-start (suc (suc (suc (suc (suc (suc n)))))) lt = absurd (omega arith)

-- what a bit costs is kept
place-kept : {P : Type 0} (cost : P → Bool → ℕ) (place : P) (bit : Bool) → bit_cost (costs_of cost place) bit ≡ cost place bit
place-kept cost place false = refl
place-kept cost place true = refl

as-costs : {P : Type 0} (cost : P → Bool → ℕ) (received : List P) (sent : List Bool)
    → total_cost cost received sent ≡ total_cost bit_cost (map (costs_of cost) received) sent
as-costs cost [] sent = refl
as-costs cost (place ∷ received) [] = refl
as-costs cost (place ∷ received) (bit ∷ sent) = omega (arith, place-kept cost place bit, as-costs cost received sent)

pub cost-path : {P : Type 0} (cost : P → Bool → ℕ) (pattern : Pattern) (received : List P) (steps : ℕ) (bits : List Bool)
    → length bits ≡ steps → length received ≡ sent_count pattern steps
    → cost_of cost pattern received bits ≡ cost_from (word_steps cost pattern received steps) 0 bits
unfolding cost_of
cost-path {P} cost pattern received steps bits same len =
    let places = map (costs_of cost) received in
    let from_start : steps ≡ 0 + length bits = omega arith in
    as-costs cost received (sent_bits pattern bits)
    ∙ (ap (λ (z : List Bool). total_cost bit_cost places z) (sent_bits-from pattern bits ∙ sent_from-agree pattern 0 [] (history_of 0) bits agree-start)
    ∙ (along pattern places bits 0 0 (omega arith) (length-map received (costs_of cost) ∙ (len ∙ ap (sent_count pattern) from_start))
    ∙ ap (λ (n : ℕ). cost_from (steps_from pattern places 0 n) 0 bits) same))

pub first-cheapest : {P : Type 0} (cost : P → Bool → ℕ) (steps : ℕ) (pattern : Pattern) (received : List P) → length received ≡ sent_count pattern steps
    → IsCheapest cost steps pattern received (first_from (word_steps cost pattern received steps) 0)
first-cheapest cost steps pattern received len =
    let branches = word_steps cost pattern received steps in
    let input = first_from branches 0 in
    let count : length branches ≡ steps = length-pairs pattern (map (costs_of cost) received) 0 steps in
    let long : length input ≡ steps = first-length branches 0 ∙ count in
    let here : cost_of cost pattern received input ≡ least_from branches 0 =
    cost-path cost pattern received steps input long len ∙ first-least branches 0 in
    record {
      within = terminated-from steps input long (first-ends branches 0);
      nearest = λ other member.
          let parts = terminated-parts steps other member in
          let there = cost-path cost pattern received steps other parts.0 len in
          let least = least-cheapest branches 0 other (parts.0 ∙ sym count) parts.1 in
          omega (arith, here, there, least);
      first = λ other member before.
          let parts = terminated-parts steps other member in
          let there = cost-path cost pattern received steps other parts.0 len in
          let least = first-first branches 0 other (parts.0 ∙ sym count) parts.1 before in
          omega (arith, here, there, least);
    }

pub first-cost : {P : Type 0} (cost : P → Bool → ℕ) (steps : ℕ) (pattern : Pattern) (received : List P) → length received ≡ sent_count pattern steps
    → cost_of cost pattern received (first_from (word_steps cost pattern received steps) 0) ≡ least_from (word_steps cost pattern received steps) 0
first-cost cost steps pattern received len =
    let branches = word_steps cost pattern received steps in
    cost-path cost pattern received steps (first_from branches 0)
    (first-length branches 0 ∙ length-pairs pattern (map (costs_of cost) received) 0 steps) len ∙ first-least branches 0
