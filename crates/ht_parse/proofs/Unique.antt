-- Each side of the two relations determines the other.
use Rattle.std.proofs.Common.{◌≡◌, ℕ, zero, suc, ◌+◌, ◌-◌, ◌*◌, ◌/◌, ◌%◌, ◌<◌, List, Bool, false, length, get_or, refl, ap, sym, ◌∙◌, arith}
use Rattle.std.proofs.Math.Nat.{mul-div_cancel_left}
use Rattle.std.proofs.lemmas.List.{ext_get_or}
use Rattle.std.proofs.lemmas.Nat.{div-add-mod', mod_below, div_below}
use Rattle.ht_rate.specs.declared.rates.Rate.{Rate}
use Rattle.ht_rate.specs.Rates.{encoders_of, streams_of, stream_bits_of}
use Rattle.ht_rate.proofs.RateFacts.{encoders_of-range, stream_bits_of-range}
use Rattle.ht_parse.specs.Encoders.{list_of, AreShares, IsParsed}
use Rattle.ht_parse.specs.Streams.{share_of, stream_place_of, IsLaid}
use Rattle.ht_parse.proofs.Sizes.{coded_bits_of-streams}
use Rattle.ht_parse.proofs.Maps.{stream_place_of-bit}

-- lists of shares that agree for each encoder are the same
same-lists : (r : Rate) (first second first' second' : List Bool) → length first ≡ length first' → AreShares r first second → AreShares r first' second'
    → ((j i : ℕ) → j < encoders_of r → i < length first → get_or (list_of first second j) i false ≡ get_or (list_of first' second' j) i false)
    → (first ≡ first') × (second ≡ second')
same-lists r first second first' second' len shares shares' same =
    let scaled : (encoders_of r - 1) * length first ≡ (encoders_of r - 1) * length first' = ap (λ (y : ℕ). (encoders_of r - 1) * y) len in (
      ext_get_or false first first' len (λ i lt. same 0 i (encoders_of-range r).0 lt),
      ext_get_or false second second' (omega arith) (λ i lt. two i (encoders_of r - 1) refl (omega arith)),
    )
  where
    two : (i extra : ℕ) → encoders_of r - 1 ≡ extra → i < extra * length first → get_or second i false ≡ get_or second' i false
    two i zero e lt = absurd (omega arith)
    two i (suc zero) e lt = same 1 i (omega arith) (omega arith)
    two i (suc (suc extra)) e lt = absurd (omega (arith, encoders_of-range r))

pub parsed-bits : (r : Rate) (bits bits' first second : List Bool) → IsParsed r bits first second → IsParsed r bits' first second → bits ≡ bits'
parsed-bits r bits bits' first second a b = ext_get_or false bits bits' (a.whole ∙ sym b.whole) (λ p lt.
    let e : ℕ = encoders_of r in
    let parts : p / e * e + p % e ≡ p = div-add-mod' p e in
    let place : e * (p / e) + p % e ≡ p = omega arith in
    let below : p % e < e = mod_below p e (encoders_of-range r).0 in
    let whole = a.whole in
    let row : p / e < length first = div_below p e (length first) (encoders_of-range r).0 (omega arith) in
    ap (λ (y : ℕ). get_or bits y false) (sym place)
    ∙ (a.places (p % e) (p / e) below row ∙ (sym (b.places (p % e) (p / e) below row) ∙ ap (λ (y : ℕ). get_or bits' y false) place)))

pub parsed-lists : (r : Rate) (bits first second first' second' : List Bool)
    → IsParsed r bits first second → IsParsed r bits first' second' → (first ≡ first') × (second ≡ second')
parsed-lists r bits first second first' second' a b =
    let len : length first ≡ length first' =
    sym (mul-div_cancel_left (length first) (encoders_of-range r).0)
    ∙ (ap (λ (y : ℕ). y / encoders_of r) (sym a.whole ∙ b.whole) ∙ mul-div_cancel_left (length first') (encoders_of-range r).0) in
    same-lists r first second first' second' len a.shares b.shares (λ j i lj li. sym (a.places j i lj li) ∙ b.places j i lj (omega arith))

pub laid-bits : (r : Rate) (bits bits' first second : List Bool) → IsLaid r bits first second → IsLaid r bits' first second → bits ≡ bits'
laid-bits r bits bits' first second a b = ext_get_or false bits bits' (a.whole ∙ sym b.whole) (λ p lt.
    let m : ℕ = stream_bits_of r in
    let some : 0 < m = omega (arith, stream_bits_of-range r) in
    let parts : p / m * m + p % m ≡ p = div-add-mod' p m in
    let back : p / m + 1 - 1 ≡ p / m = omega arith in
    let place : (p / m + 1 - 1) * m + p % m ≡ p = ap (λ (y : ℕ). y * m + p % m) back ∙ parts in
    let whole = a.whole in
    let below : p < streams_of r * m = omega (arith, coded_bits_of-streams r) in
    let row : p / m < streams_of r = div_below p m (streams_of r) some below in
    let rest : p % m < m = mod_below p m some in
    ap (λ (y : ℕ). get_or bits y false) (sym place)
    ∙ (a.places (p / m + 1) (p % m) (omega arith) (omega arith) rest
    ∙ (sym (b.places (p / m + 1) (p % m) (omega arith) (omega arith) rest) ∙ ap (λ (y : ℕ). get_or bits' y false) place)))

pub laid-bit : (r : Rate) (bits first second : List Bool) (j i : ℕ) → IsLaid r bits first second → j < encoders_of r → i < share_of r
    → get_or bits (((stream_place_of r j i).0 - 1) * stream_bits_of r + (stream_place_of r j i).1) false ≡ get_or (list_of first second j) i false
laid-bit r bits first second j i a lj li =
    let place = stream_place_of-bit r j i lj li in
    a.places (stream_place_of r j i).0 (stream_place_of r j i).1 place.0 place.1 place.2
    ∙ ap (λ (z : ℕ × ℕ). get_or (list_of first second z.0) z.1 false) place.3

pub laid-lists : (r : Rate) (bits first second first' second' : List Bool)
    → IsLaid r bits first second → IsLaid r bits first' second' → (first ≡ first') × (second ≡ second')
laid-lists r bits first second first' second' a b =
    same-lists r first second first' second' (a.share ∙ sym b.share) a.shares b.shares
    (λ j i lj li.
    let share = a.share in
    let below : i < share_of r = omega arith in
    sym (laid-bit r bits first second j i a lj below) ∙ laid-bit r bits first' second' j i b lj below)
