-- The two place maps of the stream parser undo each other.
use Rattle.std.proofs.Common.{◌≡◌, ℕ, ◌+◌, ◌*◌, ◌/◌, ◌%◌, ◌<◌, refl, ap, sym, ◌∙◌, subst, arith}
use Rattle.std.proofs.lemmas.Nat.{mod_below, div_below, mul-le}
use Rattle.ht_rate.specs.declared.rates.Rate.{Rate}
use Rattle.ht_rate.specs.Rates.{encoders_of, streams_of, stream_bits_of, axis_bits_of}
use Rattle.ht_rate.proofs.RateFacts.{encoders_of-range, streams_of-range, axis_bits_of-range}
use Rattle.ht_parse.specs.Streams.{share_of, source_of, stream_place_of}
use Rattle.ht_parse.specs.Groups.{rounds_of, AreSizes}
use Rattle.ht_parse.proofs.Places.{parts-place, place-below}
use Rattle.ht_parse.proofs.Sizes.{stream_bits_of-groups, share_of-groups}
use Rattle.ht_parse.proofs.Laid.{source-at, place-at}

pub sizes : (r : Rate) → AreSizes r (encoders_of r) (streams_of r) (axis_bits_of r) (rounds_of r)
sizes r = record { encoders_is = refl; streams_is = refl; group_is = refl; rounds_is = refl }

-- a place among rows of groups: its row, its group and its place in the group
pub record IsPlace (n s m q j x k : ℕ) : Type 0 where
  pub row_below : q < m
  pub group_below : j < n
  pub rest_below : x < s
  pub is_place : k ≡ n * s * q + j * s + x

pub place-parts : (n s m k : ℕ) → 0 < n → 0 < s → k < n * s * m → IsPlace n s m (k / (n * s)) (k / s % n) (k % s) k
place-parts n s m k pn ps lk =
    let turned : k < m * (n * s) = omega arith in
    let area : 0 < n * s = omega (arith, mul-le 1 1 n s (omega arith) (omega arith)) in record {
      row_below = div_below k (n * s) m area turned;
      group_below = mod_below (k / s) n pn;
      rest_below = mod_below k s ps;
      is_place = parts-place n s k pn ps;
    }

-- a place of a stream, as the map from it to an encoder's bit sees it
pub record IsStreamPlace (r : Rate) (t k j i : ℕ) : Type 0 where
  pub encoder_below : j < encoders_of r
  pub bit_below : i < share_of r
  pub place_below : k < stream_bits_of r
  pub source : source_of r (t + 1) k ≡ (j, i)
  pub place : stream_place_of r j i ≡ (t + 1, k)

-- one stream's group in a round, whichever map gave it
stream-place : (r : Rate) (t q j x : ℕ) → t < streams_of r → q < rounds_of r → j < encoders_of r → x < axis_bits_of r
    → IsStreamPlace r t (encoders_of r * axis_bits_of r * q + j * axis_bits_of r + x) j (streams_of r * axis_bits_of r * q + t * axis_bits_of r + x)
stream-place r t q j x lt lq lj lx =
    let same : (q * streams_of r + t) * axis_bits_of r + x ≡ streams_of r * axis_bits_of r * q + t * axis_bits_of r + x = omega arith in record {
      encoder_below = lj;
      bit_below = omega (arith, place-below (streams_of r) (axis_bits_of r) q t x (rounds_of r) lt lx lq, share_of-groups r);
      place_below = omega (arith, place-below (encoders_of r) (axis_bits_of r) q j x (rounds_of r) lj lx lq, stream_bits_of-groups r);
      source = source-at r (encoders_of r) (streams_of r) (axis_bits_of r) (rounds_of r) t q j x _ (sizes r) lj lx refl ∙ ap (λ (y : ℕ). (j, y)) same;
      place = place-at r (encoders_of r) (streams_of r) (axis_bits_of r) (rounds_of r) t q j x _ (sizes r) lt lx refl;
    }

-- the bit that a place of a stream comes from, and the place that it goes to
pub from-place : (r : Rate) (t k : ℕ) → t < streams_of r → k < stream_bits_of r → IsStreamPlace r t k (source_of r (t + 1) k).0 (source_of r (t + 1) k).1
from-place r t k lt lk =
    let parts = place-parts (encoders_of r) (axis_bits_of r) (rounds_of r) k
    (encoders_of-range r).0 (axis_bits_of-range r).0 (omega (arith, stream_bits_of-groups r)) in
    let found = stream-place r t (k / (encoders_of r * axis_bits_of r)) (k / axis_bits_of r % encoders_of r)
    (k % axis_bits_of r) lt parts.row_below parts.group_below parts.rest_below in
    let at_k : IsStreamPlace r t k (k / axis_bits_of r % encoders_of r)
    (streams_of r * axis_bits_of r * (k / (encoders_of r * axis_bits_of r)) + t * axis_bits_of r + k % axis_bits_of r) =
    subst (λ (y : ℕ). IsStreamPlace r t y (k / axis_bits_of r % encoders_of r)
    (streams_of r * axis_bits_of r * (k / (encoders_of r * axis_bits_of r)) + t * axis_bits_of r + k % axis_bits_of r)) (sym parts.is_place) found in
    subst (λ (z : ℕ × ℕ). IsStreamPlace r t k z.0 z.1) (sym at_k.source) at_k

pub from-bit : (r : Rate) (j i : ℕ) → j < encoders_of r → i < share_of r
    → (t : ℕ) × (t < streams_of r) × ((stream_place_of r j i).0 ≡ t + 1) × IsStreamPlace r t (stream_place_of r j i).1 j i
from-bit r j i lj li =
    let parts = place-parts (streams_of r) (axis_bits_of r) (rounds_of r) i
    (streams_of-range r).0 (axis_bits_of-range r).0 (omega (arith, share_of-groups r)) in
    let t : ℕ = i / axis_bits_of r % streams_of r in
    let k : ℕ = encoders_of r * axis_bits_of r * (i / (streams_of r * axis_bits_of r)) + j * axis_bits_of r + i % axis_bits_of r in
    let found = stream-place r t (i / (streams_of r * axis_bits_of r)) j (i % axis_bits_of r) parts.group_below parts.row_below lj parts.rest_below in
    let at_i : IsStreamPlace r t k j i = subst (λ (y : ℕ). IsStreamPlace r t k j y) (sym parts.is_place) found in
    (t, parts.group_below, ap (λ (z : ℕ × ℕ). z.0) at_i.place, subst (λ (z : ℕ × ℕ). IsStreamPlace r t z.1 j i) (sym at_i.place) at_i)
