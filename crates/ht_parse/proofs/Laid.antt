-- The place maps of the stream parser, where a place is given by its stream, its round, its encoder and its place in the group.
use Rattle.std.proofs.Common.{◌≡◌, ℕ, zero, suc, ◌+◌, ◌-◌, ◌*◌, ◌/◌, ◌%◌, ◌<◌, List, Bool, false, length, get_or, ap, sym, ◌∙◌, arith}
use Rattle.std.proofs.lemmas.Nat.{div-mul-add, mod-mul-add}
use Rattle.ht_rate.specs.declared.rates.Rate.{Rate}
use Rattle.ht_rate.specs.Rates.{encoders_of, streams_of, stream_bits_of, axis_bits_of}
use Rattle.ht_parse.specs.Encoders.{list_of, AreShares}
use Rattle.ht_parse.specs.Streams.{source_of, stream_place_of}
use Rattle.ht_parse.specs.Groups.{AreSizes, FollowsRule, laid_bit, gathered_bit}
use Rattle.ht_rate.proofs.RateFacts.{encoders_of-range}
use Rattle.ht_parse.proofs.Filled.{follows-more}
use Rattle.ht_parse.proofs.Places.{group-place, place-below}
use Rattle.ht_parse.proofs.Sizes.{sizes-stream}

-- the place of a group in its row, where the rate's numbers of groups and of places are given as others
sized-place : (groups size n s q j x k : ℕ) → groups ≡ n → size ≡ s → j < n → x < s → k ≡ n * s * q + j * s + x
    → (k / size % groups ≡ j) × (k / (groups * size) ≡ q) × (k % size ≡ x)
sized-place groups size n s q j x k is_groups is_size lj lx e =
    group-place groups size q j x k (omega arith) (omega arith)
    (e ∙ ap (λ (y : ℕ). y * s * q + j * s + x) (sym is_groups) ∙ ap (λ (y : ℕ). groups * y * q + j * y + x) (sym is_size))

-- the bit that a place of a stream comes from
pub source-at : (r : Rate) (e n s m t q j x k : ℕ) → AreSizes r e n s m → j < e
    → x < s → k ≡ e * s * q + j * s + x → source_of r (t + 1) k ≡ (j, (q * n + t) * s + x)
unfolding source_of
source-at r e n s m t q j x k a lj lx is =
    let dn = a.streams_is in let ds = a.group_is in
    let parts = sized-place (encoders_of r) (axis_bits_of r) e s q j x k (sym a.encoders_is) (sym ds) lj lx is in
    let encoder = parts.0 in let row = parts.1 in let rest = parts.2 in
    let back : t + 1 - 1 ≡ t = omega arith in
    let sum : t * s + n * s * q + x ≡ (q * n + t) * s + x = omega arith in
    cc

-- the place of an encoder's bit
pub place-at : (r : Rate) (e n s m t q j x i : ℕ) → AreSizes r e n s m → t < n → x < s
    → i ≡ n * s * q + t * s + x → stream_place_of r j i ≡ (t + 1, e * s * q + j * s + x)
unfolding stream_place_of
place-at r e n s m t q j x i a lt lx is =
    let de = a.encoders_is in let ds = a.group_is in
    let parts = sized-place (streams_of r) (axis_bits_of r) n s q t x i (sym a.streams_is) (sym ds) lt lx is in
    let stream = parts.0 in let row = parts.1 in let rest = parts.2 in
    cc

-- what stands in the symbol at a place of an encoder's group
pub laid-at : (r : Rate) (e n s m t q j x p : ℕ) (first second : List Bool) → AreSizes r e n s m → q < m → j < e → x < s → p ≡ ((t * m + q) * e + j) * s + x
    → laid_bit r first second p ≡ get_or (list_of first second j) ((q * n + t) * s + x) false
unfolding laid_bit
laid-at r e n s m t q j x p first second a lq lj lx is =
    let stream : e * s * m ≡ stream_bits_of r = sizes-stream r e n s m a in
    let below : e * s * q + j * s + x < stream_bits_of r = omega (arith, place-below e s q j x m lj lx lq) in
    let scaled : t * (e * s * m) ≡ t * stream_bits_of r = ap (λ (y : ℕ). t * y) stream in
    let whole : p ≡ t * stream_bits_of r + (e * s * q + j * s + x) = omega arith in
    let is_stream : p / stream_bits_of r ≡ t = ap (λ (y : ℕ). y / stream_bits_of r) whole ∙ div-mul-add t (stream_bits_of r) (e * s * q + j * s + x) below in
    let is_place : p % stream_bits_of r ≡ e * s * q + j * s + x =
    ap (λ (y : ℕ). y % stream_bits_of r) whole ∙ mod-mul-add t (stream_bits_of r) (e * s * q + j * s + x) below in
    let source : source_of r (p / stream_bits_of r + 1) (p % stream_bits_of r) ≡ (j, (q * n + t) * s + x) =
    ap (λ (y : ℕ). source_of r (y + 1) (p % stream_bits_of r)) is_stream ∙ source-at r e n s m t q j x (p % stream_bits_of r) a lj lx is_place in
    ap (λ (z : ℕ × ℕ). get_or (list_of first second z.0) z.1 false) source

-- what stands in an encoder's list at a place of a stream's group
pub gathered-at : (r : Rate) (e n s m t q j x i : ℕ) (bits : List Bool) → AreSizes r e n s m → t < n → x < s → i ≡ (q * n + t) * s + x
    → gathered_bit r bits j i ≡ get_or bits (((t * m + q) * e + j) * s + x) false
unfolding gathered_bit
gathered-at r e n s m t q j x i bits a lt lx is =
    let stream : e * s * m ≡ stream_bits_of r = sizes-stream r e n s m a in
    let scaled : t * (e * s * m) ≡ t * stream_bits_of r = ap (λ (y : ℕ). t * y) stream in
    let whole : i ≡ n * s * q + t * s + x = omega arith in
    let place : stream_place_of r j i ≡ (t + 1, e * s * q + j * s + x) = place-at r e n s m t q j x i a lt lx whole in
    let back : t + 1 - 1 ≡ t = omega arith in
    let sum : t * stream_bits_of r + (e * s * q + j * s + x) ≡ ((t * m + q) * e + j) * s + x = omega arith in
    let same : (t + 1 - 1) * stream_bits_of r + (e * s * q + j * s + x) ≡ ((t * m + q) * e + j) * s + x =
    ap (λ (y : ℕ). y * stream_bits_of r + (e * s * q + j * s + x)) back ∙ sum in
    ap (λ (z : ℕ × ℕ). get_or bits ((z.0 - 1) * stream_bits_of r + z.1) false) place ∙ ap (λ (y : ℕ). get_or bits y false) same

-- each encoder's list has its share
pub length-list_of : (r : Rate) (first second : List Bool) (share j : ℕ) → length first ≡ share
    → AreShares r first second → j < encoders_of r → length (list_of first second j) ≡ share
length-list_of r first second share zero len shares lj = len
length-list_of r first second share (suc j) len shares lj =
    let one : encoders_of r - 1 ≡ 1 = omega (arith, encoders_of-range r) in
    let same : (encoders_of r - 1) * length first ≡ 1 * length first = ap (λ (y : ℕ). y * length first) one in
    omega arith

-- a group of an encoder's list is laid behind the places that are laid
pub laid-step : (r : Rate) (e n s m t q j at len : ℕ) (first second from old new : List Bool) → AreSizes r e n s m → q < m → j < e
    → from ≡ list_of first second j → at ≡ (q * n + t) * s → len ≡ ((t * m + q) * e + j) * s → length old ≡ len → length new ≡ len + s
    → ((p : ℕ) → p < len → get_or new p false ≡ get_or old p false) → ((x : ℕ) → x < s → get_or new (len + x) false ≡ get_or from (at + x) false)
    → FollowsRule (laid_bit r first second) old → FollowsRule (laid_bit r first second) new
laid-step r e n s m t q j at len first second from old new a lq lj is_from is_at is_len len_old len_new kept copied =
    follows-more (laid_bit r first second) old new len s len_old len_new kept
    (λ x lx.
    copied x lx
    ∙ (ap (λ (xs : List Bool). get_or xs (at + x) false) is_from
    ∙ (ap (λ (y : ℕ). get_or (list_of first second j) (y + x) false) is_at
    ∙ sym (laid-at r e n s m t q j x (len + x) first second a lq lj lx (ap (λ (y : ℕ). y + x) is_len)))))

-- a group of a stream is gathered behind the places that are gathered
pub gathered-step : (r : Rate) (e n s m t q j at len : ℕ) (bits old new : List Bool) → AreSizes r e n s m → t < n
    → at ≡ ((t * m + q) * e + j) * s → len ≡ (q * n + t) * s → length old ≡ len → length new ≡ len + s
    → ((p : ℕ) → p < len → get_or new p false ≡ get_or old p false) → ((x : ℕ) → x < s → get_or new (len + x) false ≡ get_or bits (at + x) false)
    → FollowsRule (gathered_bit r bits j) old → FollowsRule (gathered_bit r bits j) new
gathered-step r e n s m t q j at len bits old new a lt is_at is_len len_old len_new kept copied =
    follows-more (gathered_bit r bits j) old new len s len_old len_new kept
    (λ x lx.
    copied x lx
    ∙ (ap (λ (y : ℕ). get_or bits (y + x) false) is_at
    ∙ sym (gathered-at r e n s m t q j x (len + x) bits a lt lx (ap (λ (y : ℕ). y + x) is_len))))

-- the length and the capacity of a list that is being filled
pub record HasSize (len space held most : ℕ) : Type 0 where
  pub count : len ≡ held
  pub capacity : space ≡ most

-- and with one group more
pub size-more : (len space held most group new_len new_space next : ℕ) → HasSize len space held most → new_len ≡ len + group → new_space ≡ space
    → next ≡ held + group → HasSize new_len new_space next most
size-more len space held most group new_len new_space next was longer same is = record {
  count = omega (arith, was.count);
  capacity = same ∙ was.capacity;
}
