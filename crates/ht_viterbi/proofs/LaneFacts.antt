-- Vectors of 64 lanes, lane by lane.
use Rattle.std.proofs.Common.{◌≡◌, ℕ, ◌+◌, ◌-◌, ◌/◌, ◌%◌, ◌^◌, ◌<◌, ◌↔◌, List, ◌++◌, map, length, get_or, slice_index}
use Rattle.std.proofs.Common.{replicate, Bool, true, false, cond, leb, eqb, refl, ap, sym, ◌∙◌, arith, T, true≢false}
use lib.Lanes.{zip2, sel_l, mask_l, top, pick_l, all_below}
use mir.Syntax.{Width}
use mir.Val.{bits, hbits}
use Rattle.std.specs.Int.{bit_at}
use Rattle.std.proofs.lemmas.Bool.{agree_below_at, eqb-true}
use Rattle.std.proofs.lemmas.List.{get_or-map, length-map}
use Rattle.std.proofs.lemmas.Simd.{pick_l_left, get_or-zip2, length-zip2, length-sel_l, get_or-sel_l}
use Rattle.std.proofs.lemmas.Simd.{length-replicate, get_or-replicate, tops_compared, mask_l-mod, bit_mask_l}
use Rattle.ht_viterbi.specs.Lanes.{HasLanes}
use Rattle.ht_viterbi.specs.declared.lanes.TheConstants.{AFTER_ZERO, WITH_ONE}

-- an operator on two vectors
pub zip2-lanes : (f : ℕ → ℕ → ℕ) (a b : List ℕ) → length a ≡ 64 → length b ≡ 64 → HasLanes (zip2 f a b) (λ k. f (slice_index a k) (slice_index b k))
zip2-lanes f a b la lb = record {
  count = length-zip2 f a b (omega arith) ∙ la;
  lane = λ k lt. get_or-zip2 f a b k 0 0 0 (omega arith) (omega arith);
}

-- a gather of lanes
pub pick-lanes : (n : ℕ) (v ks : List ℕ) (from : ℕ → ℕ) → length v ≡ n → length ks ≡ 64 → T (all_below n ks)
    → ((k : ℕ) → k < 64 → get_or ks k 0 ≡ from k) → HasLanes (pick_l 0 (v ++ v) ks) (λ k. slice_index v (from k))
pick-lanes n v ks from lv lk within is = record {
  count = ap length (pick_l_left 0 v v n ks lv within) ∙ (length-map ks (λ k. get_or v k 0) ∙ lk);
  lane = λ k lt.
      ap (λ (l : List ℕ). get_or l k 0) (pick_l_left 0 v v n ks lv within)
      ∙ (get_or-map (λ k. get_or v k 0) ks k 0 0 (omega arith)
      ∙ ap (λ (n : ℕ). get_or v n 0) (is k lt));
}

pub after_zero-at : (k : ℕ) → k < 64 → get_or AFTER_ZERO k 0 ≡ k / 2
after_zero-at k lt = eqb-true (get_or AFTER_ZERO k 0) (k / 2) (agree_below_at (λ n. eqb (get_or AFTER_ZERO n 0) (n / 2)) (λ _. true) 64 k refl lt)

pub with_one-at : (k : ℕ) → k < 64 → get_or WITH_ONE k 0 ≡ k % 32 + 32
with_one-at k lt = eqb-true (get_or WITH_ONE k 0) (k % 32 + 32) (agree_below_at (λ n. eqb (get_or WITH_ONE n 0) (n % 32 + 32)) (λ _. true) 64 k refl lt)

pub bit-cond : (b : Bool) (n : ℕ) → n ≡ cond b 1 0 → (n ≡ 1) ↔ (b ≡ true)
bit-cond true n e = ((λ _. refl), λ _. e)
bit-cond false n e = ((λ one. absurd (omega arith)), λ t. absurd (true≢false (sym t)))

-- a comparison of two vectors
compared-length : (t : ℕ → ℕ → Bool) (a b : List ℕ) → length a ≡ 64 → length b ≡ 64 → length (zip2 t a b) ≡ 64
compared-length t a b la lb = length-zip2 t a b (omega arith) ∙ la

compared-at : (t : ℕ → ℕ → Bool) (a b : List ℕ) → length a ≡ 64 → length b ≡ 64 → (k : ℕ) → k < 64
    → get_or (zip2 t a b) k false ≡ t (get_or a k 0) (get_or b k 0)
compared-at t a b la lb k lt = get_or-zip2 t a b k 0 0 false (omega arith) (omega arith)

-- its mask as a word
compared-bits : (w : Width) (t : ℕ → ℕ → Bool) (a b : List ℕ) → length a ≡ 64 → length b ≡ 64 → (k : ℕ) → k < 64
    → (bit_at (mask_l (map (top (hbits w)) (zip2 (λ x y. cond (t x y) (2 ^ bits w - 1) 0) a b)) % 2 ^ 64) k ≡ 1)
    ↔ (t (get_or a k 0) (get_or b k 0) ≡ true)
compared-bits w t a b la lb k lt =
    let word = ap (λ (ms : List Bool). mask_l ms % 2 ^ 64) (tops_compared w t a b)
    ∙ mask_l-mod (zip2 t a b) 64 (omega (arith, compared-length t a b la lb)) in
    bit-cond (t (get_or a k 0) (get_or b k 0)) _
    (ap (λ (n : ℕ). bit_at n k) word ∙ (bit_mask_l (zip2 t a b) k ∙ ap (λ (c : Bool). cond c 1 0) (compared-at t a b la lb k lt)))

-- and the selection by it
pub select-lanes : (w : Width) (t : ℕ → ℕ → Bool) (a b xs ys : List ℕ) → length a ≡ 64 → length b ≡ 64 → length xs ≡ 64 → length ys ≡ 64
    → HasLanes (sel_l (map (top (hbits w)) (zip2 (λ x y. cond (t x y) (2 ^ bits w - 1) 0) a b)) xs ys)
    (λ k. cond (t (slice_index a k) (slice_index b k)) (slice_index xs k) (slice_index ys k))
select-lanes w t a b xs ys la lb lx ly =
    let is = ap (λ (ms : List Bool). sel_l ms xs ys) (tops_compared w t a b) in
    let lm = compared-length t a b la lb in
    record {
      count = ap length is ∙ (length-sel_l (zip2 t a b) xs ys (omega arith) (omega arith) ∙ lm);
      lane = λ k lt.
          ap (λ (l : List ℕ). get_or l k 0) is
          ∙ (get_or-sel_l (zip2 t a b) xs ys k 0 (omega arith) (omega arith) (omega arith)
          ∙ ap (λ (c : Bool). cond c (get_or xs k 0) (get_or ys k 0)) (compared-at t a b la lb k lt));
    }

-- the mask of the lanes from one number on
pub mask-bits : (w : Width) (least : ℕ) (v : List ℕ) → length v ≡ 64 → (k : ℕ) → k < 64
    → (bit_at (mask_l (map (top (hbits w)) (zip2 (λ x y. cond (leb x y) (2 ^ bits w - 1) 0) (replicate 64 least) v)) % 2 ^ 64) k ≡ 1)
    ↔ (leb least (get_or v k 0) ≡ true)
mask-bits w least v long k lt =
    let same = get_or-replicate {A = ℕ} 64 k least 0 lt in
    let bits = compared-bits w leb (replicate 64 least) v (length-replicate {A = ℕ} 64 least) long k lt in
    ((λ e. sym (ap (λ (n : ℕ). leb n (get_or v k 0)) same) ∙ bits.0 e), λ e. bits.1 (ap (λ (n : ℕ). leb n (get_or v k 0)) same ∙ e))

-- and the lanes that it selects
pub select-from : (w : Width) (least : ℕ) (v xs ys : List ℕ) → length v ≡ 64 → length xs ≡ 64 → length ys ≡ 64
    → HasLanes (sel_l (map (top (hbits w)) (zip2 (λ x y. cond (leb x y) (2 ^ bits w - 1) 0) (replicate 64 least) v)) xs ys)
    (λ k. cond (leb least (slice_index v k)) (slice_index xs k) (slice_index ys k))
select-from w least v xs ys lv lx ly =
    let selected = select-lanes w leb (replicate 64 least) v xs ys (length-replicate {A = ℕ} 64 least) lv lx ly in
    record {
      count = selected.count;
      lane = λ k lt.
          selected.lane k lt
          ∙ ap (λ (n : ℕ). cond (leb n (get_or v k 0)) (get_or xs k 0) (get_or ys k 0)) (get_or-replicate {A = ℕ} 64 k least 0 lt);
    }
