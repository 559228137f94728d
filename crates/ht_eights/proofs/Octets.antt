-- The labels of lanes as octets, lane by lane.
use Rattle.std.proofs.Common.{◌≡◌, ℕ, suc, ◌+◌, ◌*◌, ◌-◌, ◌<◌, ◌≤◌, List, [], ◌∷◌}
use Rattle.std.proofs.Common.{◌++◌, drop, length, length-append, take, set, append_assoc, arith, ap, refl, sym, ◌∙◌}
use Rattle.std.proofs.Common.{Result, Ok, Err, OnOk, if◌then◌else◌}
use Rattle.std.specs.Result.{is_ok}
use Rattle.std.specs.List.{flat_map, range_with_len}
use Rattle.std.proofs.Math.Seq.{drop-append_seam, length-take-le, take-append-add, take-append_seam, take-take}
use Rattle.std.proofs.lemmas.Grind.{flat_map-append}
use Rattle.std.proofs.lemmas.List.{length-set, take-append-drop, take_more_set}
use Rattle.std.proofs.lemmas.List.FromFn.{length-range_with_len}
use Rattle.ht_capture_laws.proofs.Lists.{range_append}
use Rattle.ht_rounding.specs.Labels.{labels_in}
use Rattle.ht_rounding.specs.declared.eight.Labelled.{Labelled}
use Rattle.ht_eights.specs.InLanes.{lane_labels}
use Rattle.ht_eights.proofs.Eights.{as_many}
use Rattle.ht_eights.proofs.Runs.{labels_more}

-- one element behind the first ones
one_more : (n m : ℕ) (xs front : List ℕ) (y : ℕ) → m ≡ n + 1 → n < length xs → take n xs ≡ front → take m (set xs n y) ≡ front ++ y ∷ []
one_more n m xs front y next lt is =
    ap (λ (k : ℕ). take k (set xs n y)) next ∙ (take_more_set xs n y lt ∙ ap (λ (l : List ℕ). l ++ y ∷ []) is)

as_four : (t : List ℕ) (a b c d : ℕ) → (((t ++ a ∷ []) ++ b ∷ []) ++ c ∷ []) ++ d ∷ [] ≡ t ++ (a ∷ b ∷ c ∷ d ∷ [])
as_four t a b c d =
    ap (λ (l : List ℕ). (l ++ c ∷ []) ++ d ∷ []) (append_assoc t (a ∷ []) (b ∷ []))
    ∙ (ap (λ (l : List ℕ). l ++ d ∷ []) (append_assoc t (a ∷ b ∷ []) (c ∷ []))
    ∙ append_assoc t (a ∷ b ∷ c ∷ []) (d ∷ []))

-- four elements behind the first ones, of which so many count
pub put_four : (xs : List ℕ) (at s a b c d : ℕ) → at + 4 ≤ length xs → s ≤ 4
    → take (at + s) (set (set (set (set xs at a) (at + 1) b) (at + 2) c) (at + 3) d) ≡ take at xs ++ take s (a ∷ b ∷ c ∷ d ∷ [])
put_four xs at s a b c d room few =
    let t = take at xs in
    let x1 = set xs at a in
    let x2 = set x1 (at + 1) b in
    let x3 = set x2 (at + 2) c in
    let x4 = set x3 (at + 3) d in
    let four : List ℕ = a ∷ b ∷ c ∷ d ∷ [] in
    let l1 = length-set xs at a in
    let l2 = length-set x1 (at + 1) b in
    let l3 = length-set x2 (at + 2) c in
    let i0 : at < length xs = omega (arith, room) in
    let i1 : at + 1 < length x1 = omega (arith, room, l1) in
    let i2 : at + 2 < length x2 = omega (arith, room, l1, l2) in
    let i3 : at + 3 < length x3 = omega (arith, room, l1, l2, l3) in
    let e1 = one_more at (at + 1) xs t a refl i0 refl in
    let e2 = one_more (at + 1) (at + 2) x1 (t ++ a ∷ []) b (omega arith) i1 e1 in
    let e3 = one_more (at + 2) (at + 3) x2 ((t ++ a ∷ []) ++ b ∷ []) c (omega arith) i2 e2 in
    let e4 = one_more (at + 3) (at + 4) x3 (((t ++ a ∷ []) ++ b ∷ []) ++ c ∷ []) d (omega arith) i3 e3 in
    let all : take (at + 4) x4 ≡ t ++ four = e4 ∙ as_four t a b c d in
    let some : at + s ≤ at + 4 = omega (arith, few) in
    let long : length t ≡ at = length-take-le at xs (omega (arith, room)) in
    sym (take-take (at + s) (at + 4) x4 some)
    ∙ (ap (λ (l : List ℕ). take (at + s) l) all
    ∙ (ap (λ (n : ℕ). take (n + s) (t ++ four)) (sym long) ∙ take-append-add t four s))

-- the labels of one more lane
pub lane_more : (lanes : Labelled) (k s at : ℕ) (old new : List ℕ) → s ≡ lanes.streams → at ≡ k * s
    → take (at + lanes.streams) new ≡ take at old ++ labels_in lanes k → take (k * s) old ≡ lane_labels lanes 0 k
    → take ((k + 1) * s) new ≡ lane_labels lanes 0 (k + 1)
lane_more lanes k s at old new streams is put so_far =
    let width : (k + 1) * s ≡ at + lanes.streams = next k s ∙ (ap (λ (n : ℕ). n + s) (sym is) ∙ ap (λ (n : ℕ). at + n) streams) in
    ap (λ (n : ℕ). take n new) width
    ∙ (put
    ∙ (ap (λ (n : ℕ). take n old ++ labels_in lanes k) is
    ∙ (ap (λ (l : List ℕ). l ++ labels_in lanes k) so_far ∙ sym (labels_more lanes 0 k k (omega arith)))))
  where
    next : (c s : ℕ) → (c + 1) * s ≡ c * s + s
    next c s = grind arith

-- lanes that follow one another
lanes_append : (lanes : Labelled) (a n m : ℕ) → lane_labels lanes a (n + m) ≡ lane_labels lanes a n ++ lane_labels lanes (a + n) m
lanes_append lanes a n m =
    ap (λ (l : List ℕ). flat_map (labels_in lanes) l) (range_append a n m)
    ∙ flat_map-append (labels_in lanes) (range_with_len a n) (range_with_len (a + n) m)

-- as many labels of each lane
long_each : (f : ℕ → List ℕ) (s : ℕ) → ((k : ℕ) → length (f k) ≡ s) → (xs : List ℕ) → length (flat_map f xs) ≡ length xs * s
long_each f s each [] = nothing s
  where
    nothing : (s : ℕ) → 0 ≡ 0 * s
    nothing s = grind arith
long_each f s each (x ∷ xs) =
    length-append (f x) (flat_map f xs)
    ∙ (ap (λ (n : ℕ). n + length (flat_map f xs)) (each x)
    ∙ (ap (λ (n : ℕ). s + n) (long_each f s each xs) ∙ next (length xs) s))
  where
    one : (c : ℕ) → c + 1 ≡ suc c
    one c = omega arith

    next : (c s : ℕ) → s + c * s ≡ suc c * s
    next c s = spread c s ∙ ap (λ (n : ℕ). n * s) (one c)
      where
        spread : (c s : ℕ) → s + c * s ≡ (c + 1) * s
        spread c s = grind arith

lanes_long : (lanes : Labelled) (a n : ℕ) → lanes.streams ≤ 4 → length (lane_labels lanes a n) ≡ n * lanes.streams
lanes_long lanes a n few =
    long_each (labels_in lanes) lanes.streams (λ k. as_many lanes k lanes.streams refl few) (range_with_len a n)
    ∙ ap (λ (c : ℕ). c * lanes.streams) (length-range_with_len a n)

-- the part of some lanes
pub lanes_part : (lanes : Labelled) (octets : List ℕ) (first jobs s : ℕ) → s ≡ lanes.streams → s ≤ 4 → first + jobs ≤ 8
    → take (8 * s) octets ≡ lane_labels lanes 0 8 → take (jobs * s) (drop (first * s) octets) ≡ lane_labels lanes first jobs
lanes_part lanes octets first jobs s streams few within all =
    let w = lanes.streams in
    let rest = 8 - (first + jobs) in
    let before = lane_labels lanes 0 first in
    let here = lane_labels lanes first jobs in
    let behind = lane_labels lanes (first + jobs) rest in
    let others = drop (8 * s) octets in
    let none : 0 + first ≡ first = omega arith in
    let eight : 8 ≡ first + (jobs + rest) = omega (arith, within) in
    let split : lane_labels lanes 0 8 ≡ before ++ (here ++ behind) =
    ap (λ (n : ℕ). lane_labels lanes 0 n) eight
    ∙ (lanes_append lanes 0 first (jobs + rest)
    ∙ (ap (λ (n : ℕ). before ++ lane_labels lanes n (jobs + rest)) none ∙ ap (λ (l : List ℕ). before ++ l) (lanes_append lanes first jobs rest))) in
    let whole : octets ≡ before ++ (here ++ (behind ++ others)) =
    sym (take-append-drop (8 * s) octets)
    ∙ (ap (λ (l : List ℕ). l ++ others) (all ∙ split)
    ∙ (append_assoc before (here ++ behind) others ∙ ap (λ (l : List ℕ). before ++ l) (append_assoc here behind others))) in
    let short : w ≤ 4 = omega (arith, few, streams) in
    let at : first * s ≡ length before = ap (λ (n : ℕ). first * n) streams ∙ sym (lanes_long lanes 0 first short) in
    let count : jobs * s ≡ length here = ap (λ (n : ℕ). jobs * n) streams ∙ sym (lanes_long lanes first jobs short) in
    ap (λ (l : List ℕ). take (jobs * s) (drop (first * s) l)) whole
    ∙ (ap (λ (n : ℕ). take (jobs * s) (drop n (before ++ (here ++ (behind ++ others))))) at
    ∙ (ap (λ (l : List ℕ). take (jobs * s) l) (drop-append_seam before (here ++ (behind ++ others)))
    ∙ (ap (λ (n : ℕ). take n (here ++ (behind ++ others))) count ∙ take-append_seam here (behind ++ others))))

-- and behind others
pub lanes_behind : {T E : Type 0} (r : Result T E) (lanes : Labelled) (octets before after : List ℕ) (first jobs s a b : ℕ) → s ≡ lanes.streams
    → s ≤ 4 → first + jobs ≤ 8
    → take (8 * s) octets ≡ lane_labels lanes 0 8 → a ≡ first * s → b ≡ jobs * s
    → after ≡ (if is_ok r then before ++ take ((a + b) - a) (drop a octets) else before)
    → OnOk r (after ≡ before ++ lane_labels lanes first jobs)
lanes_behind (Ok x) lanes octets before after first jobs s a b streams few within all start count is =
    is
    ∙ (ap (λ (n : ℕ). before ++ take n (drop a octets)) (left a b ∙ count)
    ∙ (ap (λ (n : ℕ). before ++ take (jobs * s) (drop n octets)) start
    ∙ ap (λ (l : List ℕ). before ++ l) (lanes_part lanes octets first jobs s streams few within all)))
  where
    left : (a b : ℕ) → (a + b) - a ≡ b
    left a b = omega arith
lanes_behind (Err e) lanes octets before after first jobs s a b streams few within all start count is = tt
