-- Coded bits and label bits are one to one.
use Rattle.std.proofs.Common.{◌≡◌, ℕ, zero, suc, ◌+◌, ◌*◌, ◌/◌, ◌%◌, ◌<◌, ◌≤◌, ◌↔◌, refl, sym, ap, ◌∙◌, subst, arith}
use Rattle.std.proofs.Math.Nat.{div-lt_iff_lt-mul}
use Rattle.std.proofs.lemmas.Nat.{div-add-mod', div-mul-add, mod-mul-add, mul-add-lt, mod_below}
use Rattle.ht_rate.specs.declared.rates.Rate.{Rate}
use Rattle.ht_rate.specs.Rates.{encoders_of, streams_of, stream_bits_of, data_carriers_of, label_bits_of, coded_bits_of}
use Rattle.ht_rate.proofs.RateFacts.{streams_of-range, data_carriers_of-range, label_bits_of-range}
use Rattle.ht_rate.proofs.RateFacts.{stream_bits_of-is, coded_bits_of-range, coded_bits_of-shared}
use Rattle.ht_parse.specs.Streams.{share_of, source_of, stream_place_of}
use Rattle.ht_interleave.specs.Interleaver.{place_of, origin_of}
use Rattle.ht_landing.specs.declared.landings.Landing.{Landing}
use Rattle.ht_landing.specs.Landings.{coded_bit_of, IsLabelBit, landing_of, Lands}
use Rattle.ht_interleave.proofs.Inverse.{place_of-bound, origin_of-bound, origin_of-place_of, place_of-origin_of}
use Rattle.ht_parse.proofs.Maps.{stream_place_of-bit, source_of-place}

some_part : (e s n : ℕ) → e * s ≡ n → 52 ≤ n → 0 < s
some_part e zero n h lt = grind arith
some_part e (suc s) n h lt = omega arith

-- each encoder has a share of a symbol
pub share-some : (r : Rate) → 0 < share_of r
unfolding share_of
share-some r = some_part (encoders_of r) (share_of r) (coded_bits_of r) (coded_bits_of-shared r) (coded_bits_of-range r).0

-- the place of a bit of a stream that the rate has, and back
place-there : (r : Rate) (stream k : ℕ) → 1 ≤ stream → stream ≤ streams_of r → k < stream_bits_of r
    → (place_of r stream k < stream_bits_of r) × (origin_of r stream (place_of r stream k) ≡ k)
place-there r stream k low high lt =
    let few : stream ≤ 4 = omega (arith, streams_of-range r) in
    (place_of-bound r stream k low few lt, origin_of-place_of r stream k low few lt)

origin-there : (r : Rate) (stream p : ℕ) → 1 ≤ stream → stream ≤ streams_of r → p < stream_bits_of r
    → (origin_of r stream p < stream_bits_of r) × (place_of r stream (origin_of r stream p) ≡ p)
origin-there r stream p low high lt =
    let few : stream ≤ 4 = omega (arith, streams_of-range r) in
    (origin_of-bound r stream p low few lt, place_of-origin_of r stream p low few lt)

-- a coded bit lands where it is said to
pub lands : (r : Rate) (j q : ℕ) → j < encoders_of r → Lands r j q (landing_of r j q)
unfolding landing_of
lands r j q lj =
    let i = q % share_of r in
    let li : i < share_of r = mod_below q (share_of r) (share-some r) in
    let at = stream_place_of-bit r j i lj li in
    let s = (stream_place_of r j i).0 in
    let k = (stream_place_of r j i).1 in
    let there = place-there r s k at.0 at.1 at.2 in
    let bits : 0 < label_bits_of r = (label_bits_of-range r).0 in
    let below : place_of r s k < data_carriers_of r * label_bits_of r = subst (λ (n : ℕ). place_of r s k < n) (stream_bits_of-is r) there.0 in
    record {
      label = record {
        stream_low = at.0;
        stream_high = at.1;
        carrier = (div-lt_iff_lt-mul {x = place_of r s k} bits).1 below;
        bit = mod_below (place_of r s k) (label_bits_of r) bits;
      };
      i = i;
      share = li;
      counted = sym (div-add-mod' q (share_of r));
      k = k;
      stream = at.2;
      parsed = at.3;
      interleaved = sym (div-add-mod' (place_of r s k) (label_bits_of r));
    }

-- the data subcarrier of a place of a stream
pub carrier-below : (r : Rate) (p b : ℕ) → b ≡ label_bits_of r → p < stream_bits_of r → p / b < 109
carrier-below r p b same lt =
    let some : 0 < b = omega (arith, label_bits_of-range r) in
    let bits : stream_bits_of r ≡ data_carriers_of r * b = stream_bits_of-is r ∙ ap (λ (y : ℕ). data_carriers_of r * y) (sym same) in
    let below : p / b < data_carriers_of r = (div-lt_iff_lt-mul {x = p} some).1 (omega arith) in
    omega (arith, data_carriers_of-range r)

-- where a coded bit lands is a label bit
pub landing_of-label : (r : Rate) (j q : ℕ) (l : Landing) → j < encoders_of r → l ≡ landing_of r j q → IsLabelBit r l
landing_of-label r j q l lj e = subst (λ (m : Landing). IsLabelBit r m) (sym e) (lands r j q lj).label

-- a landing from its parts
same_landing : (l m : Landing) → l.symbol ≡ m.symbol → l.stream ≡ m.stream → l.carrier ≡ m.carrier → l.bit ≡ m.bit → l ≡ m
same_landing l m a b c d =
    ap (λ (x : ℕ). let at : Landing = record { symbol = x; stream = l.stream; carrier = l.carrier; bit = l.bit } in at) a
    ∙ ap (λ (x : ℕ). let at : Landing = record { symbol = m.symbol; stream = x; carrier = l.carrier; bit = l.bit } in at) b
    ∙ ap (λ (x : ℕ). let at : Landing = record { symbol = m.symbol; stream = m.stream; carrier = x; bit = l.bit } in at) c
    ∙ ap (λ (x : ℕ). let at : Landing = record { symbol = m.symbol; stream = m.stream; carrier = m.carrier; bit = x } in at) d

-- and nowhere else
pub lands-only : (r : Rate) (j q : ℕ) (l : Landing) → Lands r j q l → l ≡ landing_of r j q
unfolding landing_of
lands-only r j q l h =
    let b = label_bits_of r in
    let back = source_of-place r l.stream h.k h.label.stream_low h.label.stream_high h.stream in
    let rest : q % share_of r ≡ h.i = ap (λ (x : ℕ). x % share_of r) h.counted ∙ mod-mul-add l.symbol (share_of r) h.i h.share in
    let at : stream_place_of r j (q % share_of r) ≡ (l.stream, h.k) =
    ap (stream_place_of r j) rest ∙ ap (λ (f : ℕ × ℕ). stream_place_of r f.0 f.1) (sym h.parsed) ∙ back.2 in
    let place : place_of r (stream_place_of r j (q % share_of r)).0 (stream_place_of r j (q % share_of r)).1 ≡ l.carrier * b + l.bit =
    ap (λ (f : ℕ × ℕ). place_of r f.0 f.1) at ∙ h.interleaved in
    same_landing l (landing_of r j q)
    (sym (ap (λ (x : ℕ). x / share_of r) h.counted ∙ div-mul-add l.symbol (share_of r) h.i h.share))
    (sym (ap (λ (f : ℕ × ℕ). f.0) at))
    (sym (ap (λ (x : ℕ). x / b) place ∙ div-mul-add l.carrier b l.bit h.label.bit))
    (sym (ap (λ (x : ℕ). x % b) place ∙ mod-mul-add l.carrier b l.bit h.label.bit))

-- the symbol of a landing is that of the coded bit's share
pub landing_of-symbol : (r : Rate) (j q n : ℕ) → (landing_of r j q).symbol < n ↔ (q < n * share_of r)
unfolding landing_of
landing_of-symbol r j q n = div-lt_iff_lt-mul {x = q} (share-some r)

-- the coded bit that is said to land at a label bit does
pub coded_bit_of-lands : (r : Rate) (l : Landing) → IsLabelBit r l
    → ((coded_bit_of r l).0 < encoders_of r) × Lands r (coded_bit_of r l).0 (coded_bit_of r l).1 l
unfolding coded_bit_of
coded_bit_of-lands r l h =
    let b = label_bits_of r in
    let p = l.carrier * b + l.bit in
    let below : p < stream_bits_of r =
    subst (λ (n : ℕ). p < n) (sym (stream_bits_of-is r)) (omega (arith, mul-add-lt l.carrier b l.bit (data_carriers_of r) h.carrier h.bit)) in
    let there = origin-there r l.stream p h.stream_low h.stream_high below in
    let k = origin_of r l.stream p in
    let from = source_of-place r l.stream k h.stream_low h.stream_high there.0 in (
      from.0,
      record {
        label = h;
        i = (source_of r l.stream k).1;
        share = from.1;
        counted = refl;
        k = k;
        stream = there.0;
        parsed = refl;
        interleaved = there.1;
      },
    )

-- and no other one does
pub coded_bit_of-only : (r : Rate) (l : Landing) (j q : ℕ) → Lands r j q l → (j, q) ≡ coded_bit_of r l
unfolding coded_bit_of
coded_bit_of-only r l j q h =
    let b = label_bits_of r in
    let p = l.carrier * b + l.bit in
    let back = place-there r l.stream h.k h.label.stream_low h.label.stream_high h.stream in
    let k : origin_of r l.stream p ≡ h.k = ap (origin_of r l.stream) (sym h.interleaved) ∙ back.1 in
    let from : source_of r l.stream (origin_of r l.stream p) ≡ (j, h.i) = ap (source_of r l.stream) k ∙ h.parsed in
    ap (λ (x : ℕ). (j, x)) h.counted ∙ ap (λ (f : ℕ × ℕ). (f.0, l.symbol * share_of r + f.1)) (sym from)

pub ruleset landed = (share-some, lands, lands-only, landing_of-symbol, coded_bit_of-lands, coded_bit_of-only)
