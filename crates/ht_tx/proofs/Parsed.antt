-- Where the coded bit of a label bit stands, by numbers that are those of a rate.
use Rattle.std.proofs.Common.{◌≡◌, ℕ, zero, suc, ◌+◌, ◌-◌, ◌*◌, ◌/◌, ◌%◌, ◌^◌, ◌<◌, ◌≤◌, ap, ◌∙◌, arith}
use Rattle.std.proofs.Math.Nat.{mul-le-mul_right}
use Rattle.ht_rate.specs.declared.rates.Rate.{Rate}
use Rattle.ht_rate.specs.Rates.{encoders_of, streams_of, stream_bits_of, axis_bits_of, coded_bits_of, label_bits_of, data_carriers_of}
use Rattle.ht_rate.proofs.RateFacts.{coded_bits_of-shared, coded_bits_of-range, encoders_of-range, streams_of-range, label_bits_of-range}
use Rattle.ht_parse.specs.Streams.{share_of, source_of}
use Rattle.ht_parse.proofs.Maps.{source_of-place}
use Rattle.ht_interleave.specs.Interleaver.{origin_of}
use Rattle.ht_landing.specs.Landings.{coded_bit_of}
use Rattle.ht_tx.specs.Sources.{source_at, source_of_slot}
use Rattle.ht_tx.proofs.Places.{coded_bits_of-labels, parts-below, place-below}

-- the encoder and the bit of its share
pub parsed-value : (r : Rate) (stream k e n s : ℕ) → e ≡ encoders_of r → n ≡ streams_of r → s ≡ axis_bits_of r
    → (k / s % e ≡ (source_of r stream k).0)
    × ((stream - 1) * s + n * s * (k / (e * s)) + k % s ≡ (source_of r stream k).1)
unfolding source_of
parsed-value r stream k e n s de dn ds = (
  ap (λ (y : ℕ). k / y % e) ds ∙ ap (λ (y : ℕ). k / axis_bits_of r % y) de,
  ap (λ (y : ℕ). (stream - 1) * y + n * y * (k / (e * y)) + k % y) ds
      ∙ ap (λ (y : ℕ). (stream - 1) * axis_bits_of r + y * axis_bits_of r * (k / (e * axis_bits_of r)) + k % axis_bits_of r) dn
      ∙ ap (λ (y : ℕ). (stream - 1) * axis_bits_of r + streams_of r * axis_bits_of r * (k / (y * axis_bits_of r)) + k % axis_bits_of r) de,
)

pub parsed-out : (r : Rate) (stream k reach b u e n s : ℕ) → b ≡ k → u ≡ stream - 1 → e ≡ encoders_of r → n ≡ streams_of r → s ≡ axis_bits_of r
    → b / s % e * reach + (u * s + n * s * (b / (e * s)) + b % s) ≡ (source_of r stream k).0 * reach + (source_of r stream k).1
parsed-out r stream k reach b u e n s db du de dn ds =
    let v = parsed-value r stream k e n s de dn ds in
    ap (λ (y : ℕ). y / s % e * reach + (u * s + n * s * (y / (e * s)) + y % s)) db
    ∙ ap (λ (y : ℕ). k / s % e * reach + (y * s + n * s * (k / (e * s)) + k % s)) du
    ∙ ap (λ (y : ℕ). y * reach + ((stream - 1) * s + n * s * (k / (e * s)) + k % s)) v.0
    ∙ ap (λ (y : ℕ). (source_of r stream k).0 * reach + y) v.1

share_part : (e s n : ℕ) → 1 ≤ e → e * s ≡ n → s ≤ n
share_part zero s n low h = absurd (omega arith)
share_part (suc e) s n low h = omega arith

pub share_of-bound : (r : Rate) → share_of r ≤ 2592
unfolding share_of
share_of-bound r =
    let part = share_part (encoders_of r) (share_of r) (coded_bits_of r) (encoders_of-range r).0 (coded_bits_of-shared r) in
    omega (arith, part, coded_bits_of-range r)

-- their place fits
pub parsed-fits : (r : Rate) (stream k reach : ℕ) → 1 ≤ stream → stream ≤ streams_of r → k < stream_bits_of r → reach < 2 ^ 30
    → (source_of r stream k).0 * reach + (source_of r stream k).1 < 2 ^ 31
parsed-fits r stream k reach low high lk lr =
    let at = source_of-place r stream k low high lk in
    let j : (source_of r stream k).0 ≤ 1 = omega (arith, encoders_of-range r, at.0) in
    omega (arith, mul-le-mul_right reach j, at.1, share_of-bound r)

-- of a label bit, by its place in the symbol
pub slot-parts : (r : Rate) (slot b n : ℕ) → b ≡ label_bits_of r → n ≡ streams_of r → slot < coded_bits_of r
    → (slot / b / n < data_carriers_of r) × (slot / b % n < n) × (slot % b < label_bits_of r) × (slot / b / n * b + slot % b < stream_bits_of r)
slot-parts r slot b n db dn lt =
    let some_n : 0 < streams_of r = omega (arith, streams_of-range r) in
    let some_b : 0 < label_bits_of r = omega (arith, label_bits_of-range r) in
    let below : slot < data_carriers_of r * streams_of r * label_bits_of r = omega (arith, coded_bits_of-labels r) in
    let parts = parts-below slot (data_carriers_of r) (streams_of r) (label_bits_of r) some_n some_b below in
    rw db (rw dn (parts.0, parts.1, parts.2, place-below r _ _ parts.0 parts.2))

pub source_of_slot-is : (r : Rate) (reach slot b n stream k out : ℕ) → b ≡ label_bits_of r → n ≡ streams_of r → stream ≡ slot / b % n + 1
    → k ≡ origin_of r stream (slot / b / n * b + slot % b)
    → out ≡ (source_of r stream k).0 * reach + (source_of r stream k).1 → out ≡ source_of_slot r reach slot
unfolding source_of_slot source_at coded_bit_of
source_of_slot-is r reach slot b n stream k out db dn ds dk e =
    e
    ∙ ap (λ (y : ℕ). (source_of r stream y).0 * reach + (source_of r stream y).1) dk
    ∙ ap (λ (y : ℕ). (source_of r y (origin_of r y (slot / b / n * b + slot % b))).0 * reach
    + (source_of r y (origin_of r y (slot / b / n * b + slot % b))).1) ds
    ∙ ap (λ (y : ℕ). (source_of r (slot / b % y + 1) (origin_of r (slot / b % y + 1) (slot / b / y * b + slot % b))).0 * reach
    + (source_of r (slot / b % y + 1) (origin_of r (slot / b % y + 1) (slot / b / y * b + slot % b))).1) dn
    ∙ ap (λ (y : ℕ). (source_of r (slot / y % streams_of r + 1) (origin_of r (slot / y % streams_of r + 1) (slot / y / streams_of r * y + slot % y))).0 * reach
    + (source_of r (slot / y % streams_of r + 1) (origin_of r (slot / y % streams_of r + 1) (slot / y / streams_of r * y + slot % y))).1) db
    ∙ ap (λ (y : ℕ). (source_of r (slot / label_bits_of r % streams_of r + 1)
    (origin_of r (slot / label_bits_of r % streams_of r + 1) (slot / label_bits_of r / streams_of r * label_bits_of r + slot % label_bits_of r))).0 * reach + y)
    (none (share_of r) _)
  where
    none : (share x : ℕ) → x ≡ 0 * share + x
    none share x = omega arith
