-- A rate is named by its bandwidth's code and its MCS index, both ways.
use Rattle.std.proofs.Common.{◌≡◌, ℕ, ◌+◌, ◌*◌, ◌-◌, ◌/◌, ◌%◌, ◌<◌, ◌≤◌, zero, suc, Bool, true, ◌&&◌, nat_eq, List, [], ◌∷◌, slice_index_or, refl, sym, ap}
use Rattle.std.proofs.Common.{◌∙◌, Result, Ok, lit≤, arith}
use Rattle.std.proofs.lemmas.List.{get_or_default}
use Rattle.std.proofs.lemmas.Bool.{agree_below_at, and_parts, eqb-true}
use Rattle.std.proofs.lemmas.Bool.Decides.{nat_tests}
use Rattle.ht_rate.specs.declared.kinds.Bandwidth.{Bandwidth}
use Rattle.ht_rate.specs.declared.kinds.Bandwidth.TheVariants.{Mhz20, Mhz40}
use Rattle.ht_rate.specs.declared.parts.Streams.{Streams}
use Rattle.ht_rate.specs.declared.parts.Streams.TheVariants.{One, Two, Three, Four}
use Rattle.ht_rate.specs.declared.parts.Scheme.{Scheme}
use Rattle.ht_rate.specs.declared.parts.Scheme.TheVariants.{BpskHalf, QpskHalf, QpskThreeQuarters, Qam16Half, Qam16ThreeQuarters}
use Rattle.ht_rate.specs.declared.parts.Scheme.TheVariants.{Qam64TwoThirds, Qam64ThreeQuarters, Qam64FiveSixths}
use Rattle.ht_rate.specs.declared.rates.Rate.{Rate}
use Rattle.ht_rate.specs.declared.rates.RateFault.{RateFault}
use Rattle.ht_rate.specs.Rates.{rate_of, rate_at, bandwidth_of, streams_of, mcs_of}
use Rattle.ht_rate.specs.Schemes.{bandwidth_at, bandwidth_code, streams_at, scheme_at, count_of, number_of}
use Rattle.ht_rate.proofs.RateFacts.{mcs_of-range}
use Rattle.ht_rate.proofs.AllRates.{of_streams, of_scheme, each_bandwidth, each_streams, each_scheme, each_rate, at_rate}

-- what the code looks up
abbrev all_streams : List Streams
all_streams = One ∷ Two ∷ Three ∷ Four ∷ []

abbrev all_schemes : List Scheme
all_schemes =
    BpskHalf ∷ QpskHalf ∷ QpskThreeQuarters ∷ Qam16Half ∷ Qam16ThreeQuarters ∷ Qam64TwoThirds ∷ Qam64ThreeQuarters ∷ Qam64FiveSixths ∷ []

-- three parts at a code and an index are the rate there
made : (bw mcs : ℕ) (b : Bandwidth) (n : Streams) (s : Scheme) → b ≡ bandwidth_at bw → n ≡ streams_at (mcs / 8) → s ≡ scheme_at (mcs % 8) →
    ◌≡◌ {A = Rate} (record { bandwidth = b; streams = n; scheme = s }) (rate_at bw mcs)
unfolding rate_at
made bw mcs b n s eb en es = cc

-- and so are those that the code looks up
pub looked_up : (bw mcs i k : ℕ) (b : Bandwidth) → b ≡ bandwidth_at bw → i ≡ mcs / 8 → k ≡ mcs % 8 → mcs ≤ 31 →
    ◌≡◌ {A = Rate} (record { bandwidth = b; streams = slice_index_or all_streams i One; scheme = slice_index_or all_schemes k BpskHalf }) (rate_at bw mcs)
looked_up bw mcs i k b eb ei ek few =
    made bw mcs b (slice_index_or all_streams i One) (slice_index_or all_schemes k BpskHalf) eb
    (ap (λ (j : ℕ). slice_index_or all_streams j One) ei ∙ get_or_default all_streams (mcs / 8) One Four (omega arith))
    (ap (λ (j : ℕ). slice_index_or all_schemes j BpskHalf) ek ∙ get_or_default all_schemes (mcs % 8) BpskHalf Qam64FiveSixths (omega arith))

-- a code up to 1 and an index up to 31 are not refused
pub rate_of-ok : (bw mcs : ℕ) → bw ≤ 1 → mcs ≤ 31 → rate_of bw mcs ≡ Ok (rate_at bw mcs)
unfolding rate_of
rate_of-ok bw mcs low high = grind (arith, nat_tests)

-- the index of a made rate is the one that it was made from
test_mcs : ℕ → Bool
test_mcs mcs = nat_eq (8 * (count_of (streams_at (mcs / 8)) - 1) + number_of (scheme_at (mcs % 8))) mcs

pub rate_at-mcs : (bw mcs : ℕ) → mcs < 32 → mcs_of (rate_at bw mcs) ≡ mcs
unfolding mcs_of streams_of rate_at test_mcs
rate_at-mcs bw mcs lt = eqb-true _ mcs (agree_below_at test_mcs (λ _. true) 32 mcs refl lt)

pub rate_at-bandwidth : (bw mcs : ℕ) → bw < 2 → bandwidth_code (bandwidth_of (rate_at bw mcs)) ≡ bw
unfolding bandwidth_of rate_at
rate_at-bandwidth zero mcs lt = refl
rate_at-bandwidth (suc zero) mcs lt = refl
rate_at-bandwidth (suc (suc n)) mcs lt = absurd (omega arith)

pub rate_at-given : (bw mcs : ℕ) → bw ≤ 1 → mcs ≤ 31 → (bandwidth_code (bandwidth_of (rate_at bw mcs)) ≡ bw) × (mcs_of (rate_at bw mcs) ≡ mcs)
rate_at-given bw mcs low high = (rate_at-bandwidth bw mcs (omega arith), rate_at-mcs bw mcs (omega arith))

-- and each rate is made so from its own
pub streams_at-count : (n : Streams) → streams_at (count_of n - 1) ≡ n
streams_at-count = of_streams (λ n. streams_at (count_of n - 1) ≡ n) refl refl refl refl

pub scheme_at-number : (s : Scheme) → scheme_at (number_of s) ≡ s
scheme_at-number = of_scheme (λ s. scheme_at (number_of s) ≡ s) refl refl refl refl refl refl refl refl

pub bandwidth_at-code : (b : Bandwidth) → bandwidth_at (bandwidth_code b) ≡ b
bandwidth_at-code Mhz20 = refl
bandwidth_at-code Mhz40 = refl

pub bandwidth_code-bound : (b : Bandwidth) → bandwidth_code b ≤ 1
bandwidth_code-bound Mhz20 = lit≤ tt
bandwidth_code-bound Mhz40 = lit≤ tt

test_parts : Rate → Bool
test_parts r = nat_eq (mcs_of r / 8) (count_of r.streams - 1) && nat_eq (mcs_of r % 8) (number_of r.scheme)

parts : (r : Rate) → (mcs_of r / 8 ≡ count_of r.streams - 1) × (mcs_of r % 8 ≡ number_of r.scheme)
unfolding mcs_of streams_of test_parts each_bandwidth each_streams each_scheme each_rate
parts r =
    let test = and_parts (nat_eq (mcs_of r / 8) (count_of r.streams - 1)) (nat_eq (mcs_of r % 8) (number_of r.scheme)) (at_rate test_parts refl r) in
    (eqb-true _ _ test.0, eqb-true _ _ test.1)

pub rate_at-named : (r : Rate) → rate_at (bandwidth_code r.bandwidth) (mcs_of r) ≡ r
rate_at-named r =
    sym (made (bandwidth_code r.bandwidth) (mcs_of r) r.bandwidth r.streams r.scheme
    (sym (bandwidth_at-code r.bandwidth))
    (sym (ap streams_at (parts r).0 ∙ streams_at-count r.streams))
    (sym (ap scheme_at (parts r).1 ∙ scheme_at-number r.scheme)))

pub rate_of-named : (r : Rate) → rate_of (bandwidth_code (bandwidth_of r)) (mcs_of r) ≡ Ok r
unfolding bandwidth_of
rate_of-named r =
    let good : Rate → Result Rate RateFault = Ok in
    rate_of-ok (bandwidth_code r.bandwidth) (mcs_of r) (bandwidth_code-bound r.bandwidth) (mcs_of-range r) ∙ ap good (rate_at-named r)

pub same_rate : (a b : Rate) → bandwidth_of a ≡ bandwidth_of b → mcs_of a ≡ mcs_of b → a ≡ b
unfolding bandwidth_of
same_rate a b width index =
    sym (rate_at-named a) ∙ (ap (λ (w : Bandwidth). rate_at (bandwidth_code w) (mcs_of a)) width
    ∙ (ap (λ (m : ℕ). rate_at (bandwidth_code b.bandwidth) m) index ∙ rate_at-named b))
