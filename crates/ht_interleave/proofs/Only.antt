-- A list is interleaved in one way alone, comes from one list alone, and may be gathered place by place.
use Rattle.std.proofs.Common.{◌≡◌, ℕ, ◌<◌, ◌≤◌, Bool, false, List, length, get_or, sym, ap, ◌∙◌, arith}
use Rattle.std.proofs.lemmas.List.{ext_get_or}
use Rattle.ht_rate.specs.declared.rates.Rate.{Rate}
use Rattle.ht_rate.specs.Rates.{stream_bits_of}
use Rattle.ht_interleave.specs.Interleaver.{place_of, origin_of, IsInterleaved}
use Rattle.ht_interleave.proofs.Inverse.{origin_of-bound, origin_of-place_of, place_of-bound, place_of-origin_of}

pub interleaved-gathered : (rate : Rate) (stream : ℕ) (bits places : List Bool) → 1 ≤ stream → stream ≤ 4 → IsInterleaved rate stream bits places →
    (r : ℕ) → r < stream_bits_of rate → get_or places r false ≡ get_or bits (origin_of rate stream r) false
interleaved-gathered rate stream bits places low high moved r lt =
    ap (λ x. get_or places x false) (sym (place_of-origin_of rate stream r low high lt))
    ∙ moved.moved (origin_of rate stream r) (origin_of-bound rate stream r low high lt)

pub same_places : (rate : Rate) (stream : ℕ) (bits a b : List Bool) → 1 ≤ stream
    → stream ≤ 4 → IsInterleaved rate stream bits a → IsInterleaved rate stream bits b → a ≡ b
same_places rate stream bits a b low high first second =
    ext_get_or false a b (first.after ∙ sym second.after)
    (λ r lt.
    let within : r < stream_bits_of rate = rw (← first.after) lt in
    interleaved-gathered rate stream bits a low high first r within ∙ sym (interleaved-gathered rate stream bits b low high second r within))

pub same_source : (rate : Rate) (stream : ℕ) (a b places : List Bool) → IsInterleaved rate stream a places → IsInterleaved rate stream b places → a ≡ b
same_source rate stream a b places first second =
    ext_get_or false a b (first.before ∙ sym second.before)
    (λ k lt.
    let within : k < stream_bits_of rate = rw (← first.before) lt in
    sym (first.moved k within) ∙ second.moved k within)

pub gathered-interleaved : (rate : Rate) (stream : ℕ) (from into : List Bool) (count : ℕ) → 1 ≤ stream → stream ≤ 4
    → length from ≡ stream_bits_of rate → length into ≡ stream_bits_of rate → stream_bits_of rate ≤ count
    → ((j : ℕ) → j < count → get_or into j false ≡ get_or from (origin_of rate stream j) false) → IsInterleaved rate stream from into
gathered-interleaved rate stream from into count low high before after all done =
    record {
      before = before;
      after = after;
      moved = λ k lt.
          let below : place_of rate stream k < count = omega (arith, place_of-bound rate stream k low high lt, all) in
          done (place_of rate stream k) below ∙ ap (λ x. get_or from x false) (origin_of-place_of rate stream k low high lt);
    }

pub gathered-scattered : (rate : Rate) (stream : ℕ) (from into : List Bool) (count : ℕ) → 1 ≤ stream → stream ≤ 4 → stream_bits_of rate ≤ count
    → ((j : ℕ) → j < count → get_or into j false ≡ get_or from (place_of rate stream j) false)
    → (r : ℕ) → r < stream_bits_of rate → get_or into (origin_of rate stream r) false ≡ get_or from r false
gathered-scattered rate stream from into count low high all done r lt =
    let below : origin_of rate stream r < count = omega (arith, origin_of-bound rate stream r low high lt, all) in
    done (origin_of rate stream r) below ∙ ap (λ x. get_or from x false) (place_of-origin_of rate stream r low high lt)
