-- A symbol's places carry the coded bits that land there.
use Rattle.std.proofs.Common.{◌≡◌, ℕ, ◌+◌, ◌*◌, ◌%◌, ◌<◌, List, Bool, false, slice_index_or, ap, ◌∙◌}
use Rattle.std.proofs.lemmas.Nat.{div-add-mod', div-mul-add, mod-mul-add, mod_below}
use Rattle.ht_rate.specs.declared.rates.Rate.{Rate}
use Rattle.ht_rate.specs.Rates.{encoders_of, label_bits_of}
use Rattle.ht_parse.specs.Encoders.{list_of}
use Rattle.ht_parse.specs.Streams.{share_of, stream_place_of, IsLaid}
use Rattle.ht_interleave.specs.Interleaver.{place_of}
use Rattle.ht_landing.specs.Landings.{landing_of}
use Rattle.ht_landing.specs.Symbols.{AreInterleaved, placed_bit}
use Rattle.ht_landing.proofs.Landed.{share-some}
use Rattle.ht_parse.proofs.Maps.{stream_place_of-bit}

-- bit i of the share in symbol n
pub landing_of-bit : (r : Rate) (j n i : ℕ) → i < share_of r
    → ((landing_of r j (n * share_of r + i)).symbol ≡ n) × ((n * share_of r + i) % share_of r ≡ i)
unfolding landing_of
landing_of-bit r j n i lt = (div-mul-add n (share_of r) i lt, mod-mul-add n (share_of r) i lt)

-- the label bit where a coded bit lands has what the encoder's share of the symbol has
pub carried : (r : Rate) (bits first second : List Bool) (places : ℕ → List Bool) (j q : ℕ)
    → IsLaid r bits first second → AreInterleaved r bits places → j < encoders_of r
    → placed_bit r places (landing_of r j q) ≡ slice_index_or (list_of first second j) (q % share_of r) false
unfolding landing_of
carried r bits first second places j q laid moved lj =
    let i = q % share_of r in
    let at = stream_place_of-bit r j i lj (mod_below q (share_of r) (share-some r)) in
    let s = (stream_place_of r j i).0 in
    let k = (stream_place_of r j i).1 in
    ap (λ (x : ℕ). slice_index_or (places s) x false) (div-add-mod' (place_of r s k) (label_bits_of r))
    ∙ moved s k at.0 at.1 at.2
    ∙ laid.places s k at.0 at.1 at.2
    ∙ ap (λ (f : ℕ × ℕ). slice_index_or (list_of first second f.0) f.1 false) at.3
