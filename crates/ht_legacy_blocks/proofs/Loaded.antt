-- Numbers of eight subcarriers in lanes.
use Rattle.std.proofs.Common.{◌≡◌, ℕ, ℤ, ◌+◌, ◌-◌, ◌*◌, ◌<◌, ◌≤◌, List, [], ◌∷◌}
use Rattle.std.proofs.Common.{Bool, true, nat_eq, drop}
use Rattle.std.proofs.Common.{slice_index_or, refl, ap, subst, ◌∙◌, arith, w32}
use Rattle.std.specs.Int.{cast_signed}
use Rattle.std.proofs.lemmas.Bool.{agree_below, agree_below_at, eqb-true}
use Rattle.byteorder.specs.Endian.{big_number}
use Rattle.ht_metric.specs.declared.sample.Sample.{Sample}
use Rattle.ht_metric.specs.Rows.{no_sample}
use Rattle.ht_rate.specs.declared.kinds.Carrier.{Carrier}
use Rattle.ht_rate.specs.declared.kinds.Carrier.TheVariants.{Data, Pilot}
use Rattle.ht_clause18.specs.Carriers.{carriers, carrier_of}
use Rattle.ht_capture.specs.Numbers.{sample_at, unsigned_at}
use Rattle.ht_rounding.specs.Loading.{IsWord}
use Rattle.ht_legacy_blocks.specs.Jobs.{diagonals_of, samples_of}
use Rattle.ht_legacy_blocks.specs.Lanes.{IsData}
use Rattle.ht_legacy_blocks.proofs.Octets.{diagonal_is, sample_is}

-- the diagonal in a lane
pub lane-diagonal : (octets : List ℕ) (first k f x : ℕ) → f ≡ first → first + 8 ≤ carriers → k < 8 → x ≡ unsigned_at octets (2 * f + 2 * k)
    → x ≡ slice_index_or (diagonals_of octets) (first + k) 0
lane-diagonal octets first k f x same few lt is =
    let place : 2 * f + 2 * k ≡ 2 * (f + k) = omega arith in
    diagonal_is octets (first + k) (f + k) x (omega (arith, same)) (omega (arith, few, lt)) (is ∙ ap (λ (n : ℕ). unsigned_at octets n) place)

lane-sample : (octets : List ℕ) (first k f : ℕ) → f ≡ first → first + 8 ≤ carriers → k < 8
    → sample_at octets (8 * (f + k)) ≡ slice_index_or (samples_of octets) (first + k) no_sample
lane-sample octets first k f same few lt =
    sample_is octets (first + k) (f + k) (sample_at octets (8 * (f + k))) (omega (arith, same)) (omega (arith, few, lt)) refl

-- the parts of a sample in lanes
pub lane-re : (octets : List ℕ) (first k f x : ℕ) → f ≡ first → first + 8 ≤ carriers → k < 8
    → IsWord x (cast_signed w32 (big_number 4 (drop (8 * f + 8 * k) octets))) → IsWord x (slice_index_or (samples_of octets) (first + k) no_sample).re
unfolding sample_at
lane-re octets first k f x same few lt word =
    let place : 8 * f + 8 * k ≡ 8 * (f + k) = omega arith in
    subst (λ (z : ℤ). IsWord x z)
    (ap (λ (n : ℕ). cast_signed w32 (big_number 4 (drop n octets))) place ∙ ap (λ (s : Sample). s.re) (lane-sample octets first k f same few lt)) word

pub lane-im : (octets : List ℕ) (first k f x : ℕ) → f ≡ first → first + 8 ≤ carriers → k < 8
    → IsWord x (cast_signed w32 (big_number 4 (drop (8 * f + 4 + 8 * k) octets))) → IsWord x (slice_index_or (samples_of octets) (first + k) no_sample).im
unfolding sample_at
lane-im octets first k f x same few lt word =
    let place : 8 * f + 4 + 8 * k ≡ 8 * (f + k) + 4 = omega arith in
    subst (λ (z : ℤ). IsWord x z)
    (ap (λ (n : ℕ). cast_signed w32 (big_number 4 (drop n octets))) place ∙ ap (λ (s : Sample). s.im) (lane-sample octets first k f same few lt)) word

-- the table of what carries data, by a test of each subcarrier
abbrev pub data_words : List ℕ
data_words =
    1 ∷ 1 ∷ 1 ∷ 1 ∷ 1 ∷ 0 ∷ 1 ∷ 1 ∷ 1 ∷ 1 ∷ 1 ∷ 1 ∷ 1 ∷ 1 ∷ 1 ∷ 1 ∷ 1 ∷ 1 ∷ 1 ∷ 0 ∷ 1 ∷ 1 ∷ 1 ∷ 1 ∷ 1 ∷ 1 ∷ 1 ∷ 1 ∷ 1 ∷ 1 ∷ 1 ∷ 1 ∷
    0 ∷ 1 ∷ 1 ∷ 1 ∷ 1 ∷ 1 ∷ 1 ∷ 1 ∷ 1 ∷ 1 ∷ 1 ∷ 1 ∷ 1 ∷ 1 ∷ 0 ∷ 1 ∷ 1 ∷ 1 ∷ 1 ∷ 1 ∷ []

carries : Carrier → ℕ
carries (Data m) = 1
carries (Pilot k) = 0

same_word : ℕ → Bool
same_word i = nat_eq (slice_index_or data_words i 0) (carries (carrier_of i))

tests : agree_below same_word (λ _. true) 52 ≡ true
unfolding carries same_word carrier_of
tests = refl

carried : (c : Carrier) → 0 < carries c → IsData c
unfolding carries
carried (Data m) some = (m, refl)
carried (Pilot k) some = absurd (omega (arith, some))

word-found : (c : ℕ) → c < carriers → slice_index_or data_words c 0 ≡ carries (carrier_of c)
unfolding same_word
word-found c lt = eqb-true _ _ (agree_below_at same_word (λ _. true) 52 c tests lt)

pub data-lane : (first k f n : ℕ) → f ≡ first → first + 8 ≤ carriers → k < 8 → n ≡ slice_index_or data_words (f + k) 0 → 0 < n
    → IsData (carrier_of (first + k))
data-lane first k f n same few lt is some =
    let place : f + k ≡ first + k = omega (arith, same) in
    let found = is ∙ (ap (λ (c : ℕ). slice_index_or data_words c 0) place ∙ word-found (first + k) (omega (arith, few, lt))) in
    carried (carrier_of (first + k)) (omega (arith, found, some))
