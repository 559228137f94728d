-- Where the stream parser sends a coded bit of a symbol, by numbers that are those of a rate.
use Rattle.std.proofs.Common.{◌≡◌, ℕ, ◌+◌, ◌*◌, ◌/◌, ◌%◌, ◌<◌, ◌≤◌, ap, sym, ◌∙◌, subst}
use Rattle.ht_rate.specs.declared.rates.Rate.{Rate}
use Rattle.ht_rate.specs.Rates.{encoders_of, streams_of, stream_bits_of, axis_bits_of}
use Rattle.ht_parse.specs.Streams.{share_of, stream_place_of}
use Rattle.ht_parse.proofs.Maps.{stream_place_of-bit}

-- the stream and the bit, and that the rate has them
pub placed : (r : Rate) (j i e n s t k : ℕ) → e ≡ encoders_of r → n ≡ streams_of r → s ≡ axis_bits_of r
    → t ≡ i / s % n + 1 → k ≡ e * s * (i / (n * s)) + j * s + i % s → j < encoders_of r → i < share_of r
    → ((t, k) ≡ stream_place_of r j i) × (1 ≤ t) × (t ≤ streams_of r) × (k < stream_bits_of r)
unfolding stream_place_of
placed r j i e n s t k de dn ds dt dk lj li =
    let at = stream_place_of-bit r j i lj li in
    let first : t ≡ (stream_place_of r j i).0 = dt ∙ ap (λ (y : ℕ). i / y % n + 1) ds ∙ ap (λ (y : ℕ). i / axis_bits_of r % y + 1) dn in
    let bit : k ≡ (stream_place_of r j i).1 =
    dk ∙ ap (λ (y : ℕ). y * s * (i / (n * s)) + j * s + i % s) de
    ∙ ap (λ (y : ℕ). encoders_of r * s * (i / (y * s)) + j * s + i % s) dn
    ∙ ap (λ (y : ℕ). encoders_of r * y * (i / (streams_of r * y)) + j * y + i % y) ds in (
      ap (λ (y : ℕ). (y, k)) first ∙ ap (λ (y : ℕ). ((stream_place_of r j i).0, y)) bit,
      subst (λ (y : ℕ). 1 ≤ y) (sym first) at.0,
      subst (λ (y : ℕ). y ≤ streams_of r) (sym first) at.1,
      subst (λ (y : ℕ). y < stream_bits_of r) (sym bit) at.2,
    )

pub ruleset parsing = (placed)
