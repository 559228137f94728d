-- A whole symbol: from the places that were filled to the relation between all places.
use Rattle.std.proofs.Common.{◌≡◌, ℕ, zero, suc, ◌+◌, ◌-◌, ◌*◌, ◌/◌, ◌%◌, ◌<◌, ◌≤◌, List, [], Bool, false, length, get_or, ap, sym, ◌∙◌, subst, arith}
use Rattle.std.proofs.lemmas.Nat.{div-mul-add, mod-mul-add, mul-add-lt}
use Rattle.ht_rate.specs.declared.rates.Rate.{Rate}
use Rattle.ht_rate.specs.Rates.{encoders_of, streams_of, stream_bits_of, coded_bits_of}
use Rattle.ht_rate.proofs.RateFacts.{encoders_of-range}
use Rattle.ht_parse.specs.Encoders.{list_of, AreShares}
use Rattle.ht_parse.specs.Streams.{share_of, source_of, stream_place_of, IsLaid}
use Rattle.ht_parse.specs.Groups.{AreSizes, FollowsRule, laid_bit, gathered_bit}
use Rattle.ht_parse.proofs.Laid.{length-list_of}
use Rattle.ht_parse.proofs.Sizes.{coded_bits_of-streams}
use Rattle.ht_parse.proofs.Inverse.{IsStreamPlace, from-place}

-- the places of a symbol lie below its end
pub symbol-below : (r : Rate) (t k : ℕ) → t < streams_of r → k < stream_bits_of r → t * stream_bits_of r + k < coded_bits_of r
symbol-below r t k lt lk = omega (arith, mul-add-lt t (stream_bits_of r) k (streams_of r) lt lk, coded_bits_of-streams r)

laid-place : (r : Rate) (first second : List Bool) (t k : ℕ) → k < stream_bits_of r
    → laid_bit r first second (t * stream_bits_of r + k) ≡ get_or (list_of first second (source_of r (t + 1) k).0) (source_of r (t + 1) k).1 false
unfolding laid_bit
laid-place r first second t k lk =
    let row : (t * stream_bits_of r + k) / stream_bits_of r ≡ t = div-mul-add t (stream_bits_of r) k lk in
    let rest : (t * stream_bits_of r + k) % stream_bits_of r ≡ k = mod-mul-add t (stream_bits_of r) k lk in
    ap (λ (y : ℕ). get_or (list_of first second (source_of r (y + 1) ((t * stream_bits_of r + k) % stream_bits_of r)).0)
    (source_of r (y + 1) ((t * stream_bits_of r + k) % stream_bits_of r)).1 false) row
    ∙ ap (λ (y : ℕ). get_or (list_of first second (source_of r (t + 1) y).0) (source_of r (t + 1) y).1 false) rest

-- what holds of stream t + 1 holds of each stream from 1 on
pub streams-from : (P : ℕ → Type 0) (n : ℕ) → ((t : ℕ) → t < n → P (t + 1)) → (stream : ℕ) → 1 ≤ stream → stream ≤ n → P stream
streams-from P n each zero low high = absurd (omega arith)
streams-from P n each (suc t) low high = let same : t + 1 ≡ suc t = omega arith in subst P same (each t (omega arith))

-- the places of a symbol, if those of each stream are as laid down
whole-from : (r : Rate) (bits first second : List Bool) → length bits ≡ coded_bits_of r → length first ≡ share_of r → AreShares r first second
    → ((t k : ℕ) → t < streams_of r → k < stream_bits_of r → get_or bits (t * stream_bits_of r + k) false
    ≡ get_or (list_of first second (source_of r (t + 1) k).0) (source_of r (t + 1) k).1 false) → IsLaid r bits first second
whole-from r bits first second whole share shares each = record {
  whole = whole;
  share = share;
  shares = shares;
  places = λ stream k low high lk.
      streams-from (λ s. get_or bits ((s - 1) * stream_bits_of r + k) false
      ≡ get_or (list_of first second (source_of r s k).0) (source_of r s k).1 false) (streams_of r)
      (λ t lt. let back : t + 1 - 1 ≡ t = omega arith in ap (λ (y : ℕ). get_or bits (y * stream_bits_of r + k) false) back ∙ each t k lt lk) stream low high;
}

pub laid-whole : (r : Rate) (bits first second : List Bool) → length bits ≡ coded_bits_of r → length first ≡ share_of r → AreShares r first second
    → FollowsRule (laid_bit r first second) bits → IsLaid r bits first second
laid-whole r bits first second whole share shares follows =
    whole-from r bits first second whole share shares
    (λ t k lt lk. follows (t * stream_bits_of r + k) (omega (arith, symbol-below r t k lt lk)) ∙ laid-place r first second t k lk)

-- each encoder's list follows its rule
gathered-list : (r : Rate) (bits first second : List Bool) (j : ℕ) → j < encoders_of r
    → FollowsRule (gathered_bit r bits 0) first → (1 < encoders_of r → FollowsRule (gathered_bit r bits 1) second)
    → FollowsRule (gathered_bit r bits j) (list_of first second j)
gathered-list r bits first second zero lj follows_first follows_second = follows_first
gathered-list r bits first second (suc zero) lj follows_first follows_second = follows_second (omega arith)
gathered-list r bits first second (suc (suc j)) lj follows_first follows_second = absurd (omega (arith, encoders_of-range r))

gathered-place : (r : Rate) (bits : List Bool) (t k j i : ℕ) → stream_place_of r j i ≡ (t + 1, k)
    → gathered_bit r bits j i ≡ get_or bits (t * stream_bits_of r + k) false
unfolding gathered_bit
gathered-place r bits t k j i place =
    let back : t + 1 - 1 ≡ t = omega arith in
    ap (λ (z : ℕ × ℕ). get_or bits ((z.0 - 1) * stream_bits_of r + z.1) false) place ∙ ap (λ (y : ℕ). get_or bits (y * stream_bits_of r + k) false) back

pub gathered-whole : (r : Rate) (bits first second : List Bool) → length bits ≡ coded_bits_of r → length first ≡ share_of r → AreShares r first second
    → FollowsRule (gathered_bit r bits 0) first → (1 < encoders_of r → FollowsRule (gathered_bit r bits 1) second) → IsLaid r bits first second
gathered-whole r bits first second whole share shares follows_first follows_second =
    whole-from r bits first second whole share shares
    (λ t k lt lk.
    let found : IsStreamPlace r t k (source_of r (t + 1) k).0 (source_of r (t + 1) k).1 = from-place r t k lt lk in
    let len : length (list_of first second (source_of r (t + 1) k).0) ≡ share_of r =
    length-list_of r first second (share_of r) (source_of r (t + 1) k).0 share shares found.encoder_below in
    let bit = gathered-list r bits first second (source_of r (t + 1) k).0 found.encoder_below follows_first follows_second
    (source_of r (t + 1) k).1 (omega (arith, len, found.bit_below)) in
    sym (bit ∙ gathered-place r bits t k (source_of r (t + 1) k).0 (source_of r (t + 1) k).1 found.place))

-- with one encoder
pub gathered-one : (r at : Rate) (e n s m : ℕ) (bits first second list : List Bool) → AreSizes at e n s m → at ≡ r → e ≡ 1 → first ≡ list → second ≡ []
    → length bits ≡ coded_bits_of r → length list ≡ share_of at → FollowsRule (gathered_bit at bits 0) list → IsLaid r bits first second
gathered-one r at e n s m bits first second list a same one is_first is_second whole share follows =
    let is_encoders = a.encoders_is in
    let none : encoders_of at - 1 ≡ 0 = omega arith in
    let shares : length second ≡ (encoders_of at - 1) * length first = omega (arith, ap length is_second, ap (λ (y : ℕ). y * length first) none) in
    subst (λ (q : Rate). IsLaid q bits first second) same
    (gathered-whole at bits first second (whole ∙ ap coded_bits_of (sym same)) (ap length is_first ∙ share) shares
    (subst (λ (xs : List Bool). FollowsRule (gathered_bit at bits 0) xs) (sym is_first) follows) (λ two. absurd (omega arith)))

-- with two encoders
pub gathered-two : (r at : Rate) (e n s m : ℕ) (bits first second list other : List Bool)
    → AreSizes at e n s m → at ≡ r → ¬ (e ≡ 1) → first ≡ list → second ≡ other
    → length bits ≡ coded_bits_of r → length list ≡ share_of at → length other ≡ share_of at
    → FollowsRule (gathered_bit at bits 0) list → FollowsRule (gathered_bit at bits 1) other → IsLaid r bits first second
gathered-two r at e n s m bits first second list other a same two is_first is_second whole share share_too follows follows_too =
    let is_encoders = a.encoders_is in
    let one : encoders_of at - 1 ≡ 1 = omega (arith, encoders_of-range at) in
    let shares : length second ≡ (encoders_of at - 1) * length first =
    omega (arith, ap length is_second, ap length is_first, share, share_too, ap (λ (y : ℕ). y * length first) one) in
    subst (λ (q : Rate). IsLaid q bits first second) same
    (gathered-whole at bits first second (whole ∙ ap coded_bits_of (sym same)) (ap length is_first ∙ share) shares
    (subst (λ (xs : List Bool). FollowsRule (gathered_bit at bits 0) xs) (sym is_first) follows)
    (λ _. subst (λ (xs : List Bool). FollowsRule (gathered_bit at bits 1) xs) (sym is_second) follows_too))
