-- Takers are joined into the owners' ends, deque by deque.
use Rattle.std.proofs.Common.{◌≡◌, ℕ, suc, ◌+◌, ◌<◌, List, [], ◌∷◌, ◌++◌, length, set, get_or, take, drop, Some, ap, ◌∙◌, sym, refl, arith}
use Rattle.std.specs.Global.{Vec}
use Rattle.std.specs.List.{All, AllByRecursion, flat_map, sum_by}
use Rattle.std.proofs.lemmas.List.{length-append, length-map, length-take, map-append}
use Rattle.std.proofs.lemmas.List.Elements.{All-pop}
use Rattle.std.proofs.lemmas.List.Sums.{sum_by-append}
use Rattle.std.proofs.Math.Seq.{map-set_same}
use Rattle.ht_pool.specs.Takers.{DequeId, TakerView, OwnView, took_in, deques_at, taken_at}
use Rattle.ht_pool.specs.Opening.{own_deques}
use Rattle.ht_pool.specs.Gathering.{joined_row, joined_rows, rows_of}

-- one behind none, and others behind it
pub put_first : {X : Type 0} {none put all others : List X} (x : X) → none ≡ [] → put ≡ none ++ x ∷ [] → all ≡ put ++ others → all ≡ x ∷ others
put_first {X} {none} {put} {all} {others} x is_none is_put is_all =
    is_all ∙ ap (λ (xs : List X). xs ++ others) (is_put ∙ ap (λ (xs : List X). xs ++ x ∷ []) is_none)

module _ {T : Type 0} where
  -- the same for takers in vectors
  pub rows_first : (none put all : List (Vec (TakerView T))) (takers : Vec (TakerView T)) (others : List (List (TakerView T))) → none ≡ []
      → put ≡ none ++ takers ∷ [] → rows_of all ≡ rows_of put ++ others → rows_of all ≡ takers.items ∷ others
  rows_first none put all takers others is_none is_put is_all =
      is_all ∙ ap (λ (rs : List (Vec (TakerView T))). rows_of rs ++ others) (is_put ∙ ap (λ (rs : List (Vec (TakerView T))). rs ++ takers ∷ []) is_none)

  -- joined, where the owners and the takers are these
  pub joined_same : (owners os : List (OwnView T)) (rows : List (Vec (TakerView T))) (rs : List (List (TakerView T))) (joined : List (OwnView T))
      → owners ≡ os → rows_of rows ≡ rs → joined ≡ joined_rows owners (rows_of rows) → joined ≡ joined_rows os rs
  joined_same owners os rows rs joined owners_are rows_are is =
      is ∙ (ap (λ (xs : List (OwnView T)). joined_rows xs (rows_of rows)) owners_are ∙ ap (λ (xs : List (List (TakerView T))). joined_rows os xs) rows_are)

  -- the last vector of takers apart
  pub rows_last : (rows rest : List (Vec (TakerView T))) (takers : Vec (TakerView T)) → rows ≡ rest ++ takers ∷ []
      → rows_of rows ≡ rows_of rest ++ takers.items ∷ []
  rows_last rows rest takers is =
      ap (λ (rs : List (Vec (TakerView T))). rows_of rs) is ∙ map-append (λ (r : Vec (TakerView T)). r.items) rest (takers ∷ [])

  pub rows_at_last : (owners : List (OwnView T)) (rows rest : List (Vec (TakerView T))) (takers : Vec (TakerView T)) → rows ≡ rest ++ takers ∷ []
      → All (λ (ss : List (TakerView T)). deques_at ss ≡ own_deques owners) (rows_of rows)
      → All (λ (ss : List (TakerView T)). deques_at ss ≡ own_deques owners) (rows_of rest) × (deques_at takers.items ≡ own_deques owners)
  rows_at_last owners rows rest takers is at =
      All-pop (λ (ss : List (TakerView T)). deques_at ss ≡ own_deques owners) (rows_of rows) (rows_of rest) (Some takers.items)
      (rows_last rows rest takers is) at

module _ {T : Type 0} where
  -- what all owners took, and what they pushed
  abbrev pub taken_by : List (OwnView T) → List T
  taken_by owners = flat_map (λ (o : OwnView T). o.taken) owners

  abbrev pub pushed_by : List (OwnView T) → List T
  pushed_by owners = flat_map (λ (o : OwnView T). o.pushed) owners

  -- the last taker first
  pub joined_row-last : (owners : List (OwnView T)) (takers : List (TakerView T)) (taker : TakerView T) (d : OwnView T) → length takers < length owners
      → joined_row (set owners (length takers) (took_in (get_or owners (length takers) d) taker)) takers ≡ joined_row owners (takers ++ taker ∷ [])
  joined_row-last [] takers taker d lt = absurd (omega (arith, lt))
  joined_row-last (own ∷ []) [] taker d lt = refl
  joined_row-last (own ∷ next ∷ owners) [] taker d lt = refl
  joined_row-last (own ∷ owners) (first ∷ takers) taker d lt =
      ap (λ (xs : List (OwnView T)). took_in own first ∷ xs) (joined_row-last owners takers taker d (omega (arith, lt)))

  pub joined_row-none : (owners : List (OwnView T)) → joined_row owners [] ≡ owners
  joined_row-none [] = refl
  joined_row-none (own ∷ owners) = refl

  -- the last thread first
  pub joined_rows-last : (owners : List (OwnView T)) (rows : List (List (TakerView T))) (takers : List (TakerView T))
      → joined_rows (joined_row owners takers) rows ≡ joined_rows owners (rows ++ takers ∷ [])
  joined_rows-last owners [] takers = refl
  joined_rows-last owners (row ∷ rows) takers = ap (λ (xs : List (OwnView T)). joined_row xs row) (joined_rows-last owners rows takers)

  pub row-deques : (owners : List (OwnView T)) (takers : List (TakerView T)) → own_deques (joined_row owners takers) ≡ own_deques owners
  row-deques [] takers = refl
  row-deques (own ∷ owners) [] = refl
  row-deques (own ∷ owners) (taker ∷ takers) = ap (λ (xs : List DequeId). own.deque ∷ xs) (row-deques owners takers)

  pub row-pushed : (owners : List (OwnView T)) (takers : List (TakerView T)) → pushed_by (joined_row owners takers) ≡ pushed_by owners
  row-pushed [] takers = refl
  row-pushed (own ∷ owners) [] = refl
  row-pushed (own ∷ owners) (taker ∷ takers) = ap (λ (xs : List T). own.pushed ++ xs) (row-pushed owners takers)

  pub row-parts : (parts : ℕ) (owners : List (OwnView T)) (takers : List (TakerView T)) → length takers ≡ length owners
      → AllByRecursion (λ (o : OwnView T). o.parts ≡ parts) owners → AllByRecursion (λ (o : OwnView T). o.parts ≡ parts + 1) (joined_row owners takers)
  row-parts parts [] takers same all = tt
  row-parts parts (own ∷ owners) [] same all = absurd (omega (arith, same))
  row-parts parts (own ∷ owners) (taker ∷ takers) same all =
      (omega (arith, all.0), row-parts parts owners takers (omega (arith, same)) all.1)

  -- what was taken at the takers is taken by the owners: the shares are joined, by induction on the number of deques
  pub row-taken : (h : T → ℕ) (owners : List (OwnView T)) (takers : List (TakerView T)) → length takers ≡ length owners
      → sum_by h (taken_by (joined_row owners takers)) ≡ sum_by h (taken_by owners) + sum_by h (taken_at takers)
  row-taken h [] [] same = omega arith
  row-taken h [] (taker ∷ takers) same = absurd (omega (arith, same))
  row-taken h (own ∷ owners) [] same = absurd (omega (arith, same))
  row-taken h (own ∷ owners) (taker ∷ takers) same = omega (
    arith,
    row-taken h owners takers (omega (arith, same)),
    sum_by-append h (own.taken ++ taker.taken) (taken_by (joined_row owners takers)),
    sum_by-append h own.taken taker.taken,
    sum_by-append h own.taken (taken_by owners),
    sum_by-append h taker.taken (taken_at takers),
  )

  length_owners : (owners : List (OwnView T)) (takers : List (TakerView T)) → length (joined_row owners takers) ≡ length owners
  length_owners [] takers = refl
  length_owners (own ∷ owners) [] = refl
  length_owners (own ∷ owners) (taker ∷ takers) = ap suc (length_owners owners takers)

  -- each thread has a taker at each deque
  abbrev pub AreWhole : ℕ → List (List (TakerView T)) → Type 0
  AreWhole deques rows = AllByRecursion (λ (takers : List (TakerView T)). length takers ≡ deques) rows

  pub length_rows : (owners : List (OwnView T)) (rows : List (List (TakerView T))) → length (joined_rows owners rows) ≡ length owners
  length_rows owners [] = refl
  length_rows owners (takers ∷ rows) = length_owners (joined_rows owners rows) takers ∙ length_rows owners rows

  pub rows-pushed : (owners : List (OwnView T)) (rows : List (List (TakerView T))) → pushed_by (joined_rows owners rows) ≡ pushed_by owners
  rows-pushed owners [] = refl
  rows-pushed owners (takers ∷ rows) = row-pushed (joined_rows owners rows) takers ∙ rows-pushed owners rows

  pub same_parts : (m n : ℕ) (owners : List (OwnView T)) → m ≡ n → AllByRecursion (λ (o : OwnView T). o.parts ≡ m) owners
      → AllByRecursion (λ (o : OwnView T). o.parts ≡ n) owners
  same_parts m n [] e all = tt
  same_parts m n (own ∷ owners) e all = (all.0 ∙ e, same_parts m n owners e all.1)

  pub rows-parts : (parts : ℕ) (owners : List (OwnView T)) (rows : List (List (TakerView T))) → AreWhole (length owners) rows
      → AllByRecursion (λ (o : OwnView T). o.parts ≡ parts) owners
      → AllByRecursion (λ (o : OwnView T). o.parts ≡ parts + length rows) (joined_rows owners rows)
  rows-parts parts owners [] whole all = same_parts parts (parts + 0) owners (omega arith) all
  rows-parts parts owners (takers ∷ rows) whole all =
      same_parts (parts + length rows + 1) (parts + length (takers ∷ rows)) (joined_rows owners (takers ∷ rows)) (omega arith)
      (row-parts (parts + length rows) (joined_rows owners rows) takers (whole.0 ∙ sym (length_rows owners rows)) (rows-parts parts owners rows whole.1 all))

  pub rows-taken : (h : T → ℕ) (owners : List (OwnView T)) (rows : List (List (TakerView T))) → AreWhole (length owners) rows
      → sum_by h (taken_by (joined_rows owners rows)) ≡ sum_by h (taken_by owners) + sum_by h (flat_map (λ (takers : List (TakerView T)). taken_at takers) rows)
  rows-taken h owners [] whole = omega arith
  rows-taken h owners (takers ∷ rows) whole = omega (
    arith,
    row-taken h (joined_rows owners rows) takers (whole.0 ∙ sym (length_rows owners rows)),
    rows-taken h owners rows whole.1,
    sum_by-append h (taken_at takers) (flat_map (λ (takers : List (TakerView T)). taken_at takers) rows),
  )

  -- the last of the takers is at the deque in its place
  pub at_last : (takers : List (TakerView T)) (taker : TakerView T) (owners : List (OwnView T)) (d : OwnView T)
      → deques_at (takers ++ taker ∷ []) ≡ take (suc (length takers)) (own_deques owners) → taker.at ≡ (get_or owners (length takers) d).deque
  at_last [] taker [] d e = absurd (omega (arith, ap length e))
  at_last [] taker (own ∷ owners) d e = ap (λ (ids : List DequeId). get_or ids 0 taker.at) e
  at_last (first ∷ takers) taker [] d e = absurd (omega (arith, ap length e))
  at_last (first ∷ takers) taker (own ∷ owners) d e = at_last takers taker owners d (ap (drop 1) e)

  at_front : (takers : List (TakerView T)) (taker : TakerView T) (ids : List DequeId)
      → deques_at (takers ++ taker ∷ []) ≡ take (suc (length takers)) ids → deques_at takers ≡ take (length takers) ids
  at_front [] taker ids e = refl
  at_front (first ∷ takers) taker [] e = absurd (omega (arith, ap length e))
  at_front (first ∷ takers) taker (id ∷ ids) e =
      ap (λ (x : DequeId). x ∷ deques_at takers) (ap (λ (xs : List DequeId). get_or xs 0 first.at) e)
      ∙ ap (λ (xs : List DequeId). id ∷ xs) (at_front takers taker ids (ap (drop 1) e))

  module _ (owners owners0 : List (OwnView T)) (left rest takers0 : List (TakerView T)) (taker : TakerView T) (k : ℕ) (last : left ≡ rest ++ taker ∷ [])
      (place : k ≡ length rest) (same : own_deques owners ≡ own_deques owners0)
      (at : deques_at left ≡ take (length left) (own_deques owners0)) where
    long : length left ≡ suc (length rest)
    long = ap length last ∙ (length-append rest (taker ∷ []) ∙ omega arith)

    front : deques_at (rest ++ taker ∷ []) ≡ take (suc (length rest)) (own_deques owners)
    front = ap (λ (ss : List (TakerView T)). deques_at ss) (sym last) ∙ (at ∙ (ap (λ n. take n (own_deques owners0)) long
        ∙ ap (λ (ids : List DequeId). take (suc (length rest)) ids) (sym same)))

    small : length rest < length owners
    small = omega (
      arith,
      ap length front,
      length-map (rest ++ taker ∷ []) (λ (s : TakerView T). s.at),
      length-append rest (taker ∷ []),
      length-take (suc (length rest)) (own_deques owners),
      length-map owners (λ (o : OwnView T). o.deque),
    )

    pub at_place : (d : OwnView T) → taker.at ≡ (get_or owners k d).deque
    at_place d = at_last rest taker owners d front ∙ ap (λ n. (get_or owners n d).deque) (sym place)

    pub row-step : (d new : OwnView T) → new ≡ took_in (get_or owners k d) taker → joined_row owners left ≡ joined_row owners0 takers0
        → (own_deques (set owners k new) ≡ own_deques owners0) × (deques_at rest ≡ take (length rest) (own_deques owners0))
        × (joined_row (set owners k new) rest ≡ joined_row owners0 takers0)
    row-step d new took was = (
      map-set_same (λ (o : OwnView T). o.deque) owners k new d (ap (λ (o : OwnView T). o.deque) took) ∙ same,
      at_front rest taker (own_deques owners0) (front ∙ ap (λ (ids : List DequeId). take (suc (length rest)) ids) same),
      ap (λ (o : OwnView T). joined_row (set owners k o) rest) took
          ∙ (ap (λ n. joined_row (set owners n (took_in (get_or owners n d) taker)) rest) place
          ∙ (joined_row-last owners rest taker d small ∙ (ap (λ (ss : List (TakerView T)). joined_row owners ss) (sym last) ∙ was))),
    )
