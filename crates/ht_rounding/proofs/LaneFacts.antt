-- Operators on vectors of eight lanes, lane by lane.
use Rattle.std.proofs.Common.{◌≡◌, ℕ, ◌-◌, ◌^◌, ◌<◌, List, map, length, get_or, slice_index, replicate, Bool, false, cond, leb, ltb, ap, ◌∙◌, arith, w32}
use lib.Lanes.{zip2, sel_l, top, Each1}
use mir.Syntax.{Width}
use mir.Val.{bits, hbits}
use Rattle.std.proofs.Common.{Fits}
use Rattle.std.proofs.lemmas.Simd.{get_or-zip2, length-zip2, length-sel_l, get_or-sel_l, length-replicate, get_or-replicate, tops_compared, Each1-get_or}
use Rattle.ht_rounding.specs.Words.{HasLanes, minus, size, turned, over}

-- a lane of a vector fits 32 bits
pub fits-lane : (xs : List ℕ) (k : ℕ) → k < length xs → Each1 (Fits w32) xs → slice_index xs k < 2 ^ 32
fits-lane xs k lt all = let f = Each1-get_or (Fits w32) xs k 0 lt all in f.fits

-- an operator on two vectors, and on a number and a vector
pub both-lanes : (f : ℕ → ℕ → ℕ) (a b : List ℕ) → length a ≡ 8 → length b ≡ 8 → HasLanes (zip2 f a b) (λ k. f (slice_index a k) (slice_index b k))
both-lanes f a b la lb = record {
  count = length-zip2 f a b (omega arith) ∙ la;
  lane = λ k lt. get_or-zip2 f a b k 0 0 0 (omega arith) (omega arith);
}

pub left-lanes : (f : ℕ → ℕ → ℕ) (n : ℕ) (a : List ℕ) → length a ≡ 8 → HasLanes (zip2 f (replicate 8 n) a) (λ k. f n (slice_index a k))
left-lanes f n a la = let z = both-lanes f (replicate 8 n) a (length-replicate {A = ℕ} 8 n) la in record {
  count = z.count;
  lane = λ k lt. z.lane k lt ∙ ap (λ (m : ℕ). f m (slice_index a k)) (get_or-replicate {A = ℕ} 8 k n 0 lt);
}

pub right-lanes : (f : ℕ → ℕ → ℕ) (n : ℕ) (a : List ℕ) → length a ≡ 8 → HasLanes (zip2 f a (replicate 8 n)) (λ k. f (slice_index a k) n)
right-lanes f n a la = let z = both-lanes f a (replicate 8 n) la (length-replicate {A = ℕ} 8 n) in record {
  count = z.count;
  lane = λ k lt. z.lane k lt ∙ ap (λ (m : ℕ). f (slice_index a k) m) (get_or-replicate {A = ℕ} 8 k n 0 lt);
}

-- a choice by a test of two vectors
pub chosen-lanes : (w : Width) (t : ℕ → ℕ → Bool) (a b xs ys : List ℕ) → length a ≡ 8 → length b ≡ 8 → length xs ≡ 8 → length ys ≡ 8
    → HasLanes (sel_l (map (top (hbits w)) (zip2 (λ x y. cond (t x y) (2 ^ bits w - 1) 0) a b)) xs ys)
    (λ k. cond (t (slice_index a k) (slice_index b k)) (slice_index xs k) (slice_index ys k))
chosen-lanes w t a b xs ys la lb lx ly =
    let tests : length (zip2 t a b) ≡ 8 = length-zip2 t a b (omega arith) ∙ la in
    let is = ap (λ (ms : List Bool). sel_l ms xs ys) (tops_compared w t a b) in record {
      count = ap length is ∙ (length-sel_l (zip2 t a b) xs ys (omega arith) (omega arith) ∙ tests);
      lane = λ k lt.
          ap (λ (l : List ℕ). get_or l k 0) is
          ∙ (get_or-sel_l (zip2 t a b) xs ys k 0 (omega arith) (omega arith) (omega arith)
          ∙ ap (λ (c : Bool). cond c (get_or xs k 0) (get_or ys k 0)) (get_or-zip2 t a b k 0 0 false (omega arith) (omega arith)));
    }

-- by how much a vector is over another
pub over-lanes : (a b : List ℕ) → length a ≡ 8 → length b ≡ 8
    → HasLanes (zip2 minus (sel_l (map (top 31) (zip2 (λ x y. cond (ltb x y) (2 ^ 32 - 1) 0) a b)) b a) b) (λ k. over (slice_index a k) (slice_index b k))
over-lanes a b la lb =
    let most = chosen-lanes w32 ltb a b b a la lb lb la in
    let z = both-lanes minus _ b most.count lb in record {
      count = z.count;
      lane = λ k lt. z.lane k lt ∙ ap (λ (n : ℕ). minus n (slice_index b k)) (most.lane k lt);
    }

-- the lesser of a lane and its opposite
pub size-lanes : (a : List ℕ) → length a ≡ 8
    → (let b = zip2 minus (replicate 8 0) a in
    HasLanes (sel_l (map (top 31) (zip2 (λ x y. cond (ltb x y) (2 ^ 32 - 1) 0) a b)) a b) (λ k. size (slice_index a k)))
size-lanes a la =
    let b = zip2 minus (replicate 8 0) a in
    let opposite = left-lanes minus 0 a la in
    let s = chosen-lanes w32 ltb a b a b la opposite.count la opposite.count in record {
      count = s.count;
      lane = λ k lt. s.lane k lt ∙ ap (λ (m : ℕ). cond (ltb (slice_index a k) m) (slice_index a k) m) (opposite.lane k lt);
    }

-- the other sign where a lane is at least 2^31
pub turned-lanes : (s a : List ℕ) → length s ≡ 8 → length a ≡ 8
    → HasLanes (sel_l (map (top 31) (zip2 (λ x y. cond (leb x y) (2 ^ 32 - 1) 0) (replicate 8 (2 ^ 31)) s)) (zip2 minus (replicate 8 0) a) a)
    (λ k. turned (slice_index s k) (slice_index a k))
turned-lanes s a ls la =
    let b = zip2 minus (replicate 8 0) a in
    let opposite = left-lanes minus 0 a la in
    let t = chosen-lanes w32 leb (replicate 8 (2 ^ 31)) s b a (length-replicate {A = ℕ} 8 (2 ^ 31)) ls opposite.count la in record {
      count = t.count;
      lane = λ k lt. t.lane k lt
          ∙ ap (λ (m : ℕ). cond (leb m (slice_index s k)) (slice_index b k) (slice_index a k)) (get_or-replicate {A = ℕ} 8 k (2 ^ 31) 0 lt)
          ∙ ap (λ (m : ℕ). cond (leb (2 ^ 31) (slice_index s k)) m (slice_index a k)) (opposite.lane k lt);
    }
