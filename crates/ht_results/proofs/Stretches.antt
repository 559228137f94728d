-- Values on stretches of places that follow one another.
use Rattle.std.proofs.Common.{◌≡◌, ℕ, zero, suc, ◌+◌, ◌-◌, ◌<◌, ◌≤◌, min, List, [], ◌∷◌, ◌++◌, length, take, drop, set, slice_index_or}
use Rattle.std.proofs.Common.{refl, sym, ap, ◌∙◌, arith, append-nil, length-append}
use Rattle.std.specs.List.{flat_map, range_with_len}
use Rattle.std.proofs.lemmas.Grind.{flat_map-append}
use Rattle.std.proofs.lemmas.List.{append_assoc, drop_more, length-drop, length-set, length-take-le, set_past, take-append-drop, take_all, drop-drop}
use Rattle.std.proofs.lemmas.List.FromFn.{length-range_with_len}
use borrow.Rule.Slice.PartMut.{put_mid}
use Rattle.ht_results.specs.declared.placing.Stretch.{Stretch}
use Rattle.ht_results.specs.Places.{places_in, places_of, put_on, stretch_places}
use Rattle.ht_results.specs.Plans.{put_values}
use Rattle.ht_results.proofs.Putting.{put_behind}

-- places that follow those of a stretch
range-append : (at a b : ℕ) → range_with_len at (a + b) ≡ range_with_len at a ++ range_with_len (at + a) b
range-append at zero b =
    let none : 0 + b ≡ b = omega arith in
    let here : at ≡ at + 0 = omega arith in
    ap (λ (n : ℕ). range_with_len at n) none ∙ ap (λ (n : ℕ). range_with_len n b) here
range-append at (suc a) b =
    let next : at + 1 + a ≡ at + suc a = omega arith in
    let more : suc a + b ≡ suc (a + b) = omega arith in
    ap (λ (n : ℕ). range_with_len at n) more
    ∙ ap (λ (ps : List ℕ). at ∷ ps) (range-append (at + 1) a b ∙ ap (λ (n : ℕ). range_with_len (at + 1) a ++ range_with_len n b) next)

-- the last stretch is longer
pub longer : (stretches : List Stretch) (last : Stretch) (at count : ℕ) → last.at + last.count ≡ at
    → places_of stretches (record { at = last.at; count = last.count + count }) ≡ places_of stretches last ++ range_with_len at count
longer stretches last at count next =
    ap (λ (ps : List ℕ). places_in stretches ++ ps)
    (range-append last.at last.count count ∙ ap (λ (n : ℕ). stretch_places last ++ range_with_len n count) next)
    ∙ sym (append_assoc (places_in stretches) (stretch_places last) (range_with_len at count))

-- it has no more places than all together
pub last_within : (stretches : List Stretch) (last : Stretch) → last.count ≤ length (places_of stretches last)
last_within stretches last =
    let long = length-append (places_in stretches) (stretch_places last) in
    let here = length-range_with_len last.at last.count in
    omega (arith, long, here)

-- a stretch behind others
pub stretches-more : (stretches : List Stretch) (stretch : Stretch) → places_in (stretches ++ stretch ∷ []) ≡ places_of stretches stretch
stretches-more stretches stretch =
    flat_map-append stretch_places stretches (stretch ∷ []) ∙ ap (λ (ps : List ℕ). places_in stretches ++ ps) (append-nil (stretch_places stretch))

-- one without a place
pub stretches-none : (stretches : List Stretch) (stretch : Stretch) → stretch.count ≡ 0 → places_in stretches ≡ places_of stretches stretch
stretches-none stretches stretch none =
    sym (ap (λ (n : ℕ). places_in stretches ++ range_with_len stretch.at n) none ∙ append-nil (places_in stretches))

module _ {V : Type 0} where
  put_none : (ps : List ℕ) (kept : List V) → put_on ps [] kept ≡ kept
  put_none [] kept = refl
  put_none (p ∷ ps) kept = refl

  -- values that follow one another, and those behind them
  pub put_first : (at count : ℕ) (ps : List ℕ) (vs kept : List V)
      → put_on (range_with_len at count ++ ps) vs kept ≡ put_on ps (drop count vs) (put_values kept at (take count vs))
  put_first at zero ps vs kept = refl
  put_first at (suc count) ps [] kept = sym (put_none ps kept)
  put_first at (suc count) ps (v ∷ vs) kept = put_first (at + 1) count ps vs (set kept at v)

  pub put_all_on : (at : ℕ) (vs : List V) (ps : List ℕ) (ws kept : List V)
      → put_on (range_with_len at (length vs) ++ ps) (vs ++ ws) kept ≡ put_on ps ws (put_values kept at vs)
  put_all_on at [] ps ws kept = refl
  put_all_on at (v ∷ vs) ps ws kept = put_all_on (at + 1) vs ps ws (set kept at v)

  pub length_put_on : (ps : List ℕ) (vs kept : List V) → length (put_on ps vs kept) ≡ length kept
  length_put_on [] vs kept = refl
  length_put_on (p ∷ ps) [] kept = refl
  length_put_on (p ∷ ps) (v ∷ vs) kept = length_put_on ps vs (set kept p v) ∙ length-set {A = V} kept p v

  put_front : (ps qs : List ℕ) (vs kept : List V) → put_on (ps ++ qs) vs kept ≡ put_on qs (drop (length ps) vs) (put_on ps vs kept)
  put_front [] qs vs kept = refl
  put_front (p ∷ ps) qs [] kept = sym (put_none qs kept)
  put_front (p ∷ ps) qs (v ∷ vs) kept = put_front ps qs vs (set kept p v)

  put_alone : (at : ℕ) (vs kept : List V) → put_on (range_with_len at (length vs)) vs kept ≡ put_values kept at vs
  put_alone at [] kept = refl
  put_alone at (v ∷ vs) kept = put_alone (at + 1) vs (set kept at v)

  -- values from a place on, where a list has places
  none_past : (at : ℕ) (vs kept : List V) → length kept ≤ at → put_values kept at vs ≡ kept
  none_past at [] kept past = refl
  none_past at (v ∷ vs) kept past =
      ap (λ (z : List V). put_values z (at + 1) vs) (set_past kept at v past) ∙ none_past (at + 1) vs kept (omega (arith, past))

  fronts : (vs kept : List V) → put_values kept 0 vs ≡ take (min (length vs) (length kept)) vs ++ drop (min (length vs) (length kept)) kept
  fronts [] kept =
      let none : min 0 (length kept) ≡ 0 = omega arith in
      sym (ap (λ (n : ℕ). take n [] ++ drop n kept) none)
  fronts (v ∷ vs) [] =
      let none : min (suc (length vs)) 0 ≡ 0 = omega arith in
      none_past 0 (v ∷ vs) [] (omega arith) ∙ sym (ap (λ (n : ℕ). take n (v ∷ vs) ++ drop n []) none)
  fronts (v ∷ vs) (x ∷ xs) =
      let more : suc (min (length vs) (length xs)) ≡ min (suc (length vs)) (suc (length xs)) = omega arith in
      let one : List V = v ∷ [] in
      put_behind vs one xs 1 0 refl
      ∙ (ap (λ (z : List V). v ∷ z) (fronts vs xs)
      ∙ ap (λ (n : ℕ). take n (v ∷ vs) ++ drop n (x ∷ xs)) more)

  pub copied : (kept values piece : List V) (at count size : ℕ) → at < length kept → count ≡ min (length values) (length kept - at) → size ≡ count
      → piece ≡ take count values → put_mid at size kept piece ≡ put_values kept at values
  copied kept values piece at count size within is same taken =
      let front = take at kept in
      let back = drop at kept in
      let wide : length front ≡ at = length-take-le at kept (omega (arith, within)) in
      let long : count ≡ min (length values) (length back) = is ∙ ap (λ (n : ℕ). min (length values) n) (sym (length-drop at kept)) in
      let start : at + 0 ≡ at = omega arith in
      ap (λ (n : ℕ). put_mid at n kept piece) same
      ∙ (ap (λ (z : List V). front ++ (z ++ drop count back)) taken
      ∙ (ap (λ (n : ℕ). front ++ (take n values ++ drop n back)) long
      ∙ (ap (λ (z : List V). front ++ z) (sym (fronts values back))
      ∙ (sym (put_behind values front back at 0 wide)
      ∙ (ap (λ (n : ℕ). put_values (front ++ back) n values) start
      ∙ ap (λ (z : List V). put_values z at values) (take-append-drop at kept))))))

  pub uncopied : (kept values : List V) (at : ℕ) → length kept ≤ at → kept ≡ put_values kept at values
  uncopied kept values at past = sym (none_past at values kept past)

-- the next of some stretches
pub count_next : (stretches : List Stretch) (i : ℕ) (d : Stretch) → i < length stretches
    → length (places_in (drop i stretches)) ≡ (slice_index_or stretches i d).count + length (places_in (drop (i + 1) stretches))
count_next stretches i d within =
    let stretch : Stretch = slice_index_or stretches i d in
    let here = length-range_with_len stretch.at stretch.count in
    let long = length-append (stretch_places stretch) (places_in (drop (i + 1) stretches)) in
    let parts = ap (λ (ss : List Stretch). length (places_in ss)) (drop_more stretches i d within) in
    omega (arith, parts, long, here)

module _ {V : Type 0} where
  pub put_next : (stretches : List Stretch) (i behind size : ℕ) (d : Stretch) (values kept new : List V) → i < length stretches
      → size ≡ (slice_index_or stretches i d).count
      → new ≡ put_values kept (slice_index_or stretches i d).at (take size (drop behind values))
      → put_on (places_in (drop (i + 1) stretches)) (drop (behind + (slice_index_or stretches i d).count) values) new
      ≡ put_on (places_in (drop i stretches)) (drop behind values) kept
  put_next stretches i behind size d values kept new within same put =
      let stretch : Stretch = slice_index_or stretches i d in
      let rest : List ℕ = places_in (drop (i + 1) stretches) in
      let left : List V = drop behind values in
      ap (λ (k : List V). put_on rest (drop (behind + stretch.count) values) k) put
      ∙ (ap (λ (n : ℕ). put_on rest (drop (behind + stretch.count) values) (put_values kept stretch.at (take n left))) same
      ∙ (ap (λ (vs : List V). put_on rest vs (put_values kept stretch.at (take stretch.count left))) (sym (drop-drop stretch.count behind values))
      ∙ (sym (put_first stretch.at stretch.count rest left kept)
      ∙ sym (ap (λ (ss : List Stretch). put_on (places_in ss) left kept) (drop_more stretches i d within)))))

  -- those of stretches were put, and then those of the last one are
  pub put_last : (stretches : List Stretch) (last : Stretch) (behind : ℕ) (values kept mid new : List V)
      → length (places_of stretches last) ≡ length values
      → mid ≡ put_on (places_in stretches) values kept → behind ≡ length (places_in stretches)
      → new ≡ put_values mid last.at (take (length values - behind) (drop behind values))
      → new ≡ put_on (places_of stretches last) values kept
  put_last stretches last behind values kept mid new long first count is =
      let places : List ℕ = places_in stretches in
      let rest : List V = drop behind values in
      let size = length-drop behind values in
      let here = length-range_with_len last.at last.count in
      let parts = length-append places (stretch_places last) in
      let left : last.count ≡ length rest = omega (arith, long, size, here, parts, count) in
      is
      ∙ (ap (λ (vs : List V). put_values mid last.at vs) (take_all (length values - behind) rest (omega (arith, size)))
      ∙ (sym (put_alone last.at rest mid)
      ∙ (ap (λ (n : ℕ). put_on (range_with_len last.at n) rest mid) (sym left)
      ∙ (ap (λ (k : List V). put_on (stretch_places last) rest k) first
      ∙ (ap (λ (n : ℕ). put_on (stretch_places last) (drop n values) (put_on places values kept)) count
      ∙ sym (put_front places (stretch_places last) values kept))))))
