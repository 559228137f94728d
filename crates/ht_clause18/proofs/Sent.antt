-- The points of a frame by symbol and subcarrier.
use Rattle.std.proofs.Common.{◌≡◌, ℕ, zero, suc, ◌+◌, ◌*◌, ◌<◌, List, [], ◌∷◌, ◌++◌, map, length, Bool, get_or, refl, ap, sym, ◌∙◌, arith, append_assoc}
use Rattle.std.specs.List.{flat_map, range_with_len}
use Rattle.std.proofs.lemmas.List.{length-append, get_or_append_left, get_or-append-add}
use Rattle.std.proofs.lemmas.List.FromFn.{get_or-map-range_with_len, length-map-range_with_len, map-range_with_len_more}
use Rattle.ht_pam.specs.declared.point.Point.{Point}
use Rattle.ht_clause18.specs.declared.rates.LegacyRate.{LegacyRate}
use Rattle.ht_clause18.specs.Carriers.{carriers, carrier_of}
use Rattle.ht_clause18.specs.Coded.{symbol_bits}
use Rattle.ht_clause18.specs.Frames.{LegacyFrameView}
use Rattle.ht_clause18.specs.Interleaver.{interleaved}
use Rattle.ht_clause18.specs.Points.{carried, points_of, sent_points, symbol_points}
use Rattle.ht_clause18.specs.Rates.{symbols_of}

-- lists of one width, one after another
flat-length : (f : ℕ → List Point) (w a n : ℕ) → ((k : ℕ) → length (f k) ≡ w) → length (flat_map f (range_with_len a n)) ≡ n * w
flat-length f w a zero each = let none : 0 ≡ 0 * w = omega arith in none
flat-length f w a (suc n) each =
    omega (arith, length-append (f a) (flat_map f (range_with_len (a + 1) n)), each a, flat-length f w (a + 1) n each)

flat-at : (f : ℕ → List Point) (w a n i j k : ℕ) (d : Point) → ((k : ℕ) → length (f k) ≡ w) → i < n → j < w → a + i ≡ k
    → get_or (flat_map f (range_with_len a n)) (i * w + j) d ≡ get_or (f k) j d
flat-at f w a zero i j k d each li lj e = absurd (omega arith)
flat-at f w a (suc n) zero j k d each li lj e =
    let here : a ≡ k = omega arith in
    let at : 0 * w + j ≡ j = omega arith in
    ap (λ (x : ℕ). get_or (flat_map f (range_with_len a (suc n))) x d) at
    ∙ get_or_append_left (f a) (flat_map f (range_with_len (a + 1) n)) d j (omega (arith, each a))
    ∙ ap (λ (x : ℕ). get_or (f x) j d) here
flat-at f w a (suc n) (suc i) j k d each li lj e =
    let at : suc i * w + j ≡ length (f a) + (i * w + j) = omega (arith, each a) in
    ap (λ (x : ℕ). get_or (flat_map f (range_with_len a (suc n))) x d) at
    ∙ get_or-append-add (f a) (flat_map f (range_with_len (a + 1) n)) (i * w + j) d
    ∙ flat-at f w (a + 1) n i j k d each (omega arith) lj (omega arith)

-- 52 points a symbol
pub length-symbol_points : (r : LegacyRate) (bits : List Bool) (n : ℕ) → length (symbol_points r bits n) ≡ carriers
unfolding symbol_points
length-symbol_points r bits n = length-map-range_with_len (λ index. carried r (interleaved r bits) n (carrier_of index)) 0 carriers

symbol_points-at : (r : LegacyRate) (bits : List Bool) (n index : ℕ) (d : Point) → index < carriers
    → get_or (symbol_points r bits n) index d ≡ carried r (interleaved r bits) n (carrier_of index)
unfolding symbol_points
symbol_points-at r bits n index d lt =
    get_or-map-range_with_len (λ index. carried r (interleaved r bits) n (carrier_of index)) 0 carriers index index d lt (omega arith)

pub length-sent_points : (f : LegacyFrameView) → length (sent_points f) ≡ points_of f.rate (length f.octets)
unfolding sent_points points_of
length-sent_points f =
    flat-length (λ n. symbol_points f.rate (symbol_bits f n) n) carriers 0 (symbols_of f.rate (length f.octets))
    (λ n. length-symbol_points f.rate (symbol_bits f n) n)

pub sent_points-at : (f : LegacyFrameView) (n index : ℕ) (d : Point) → n < symbols_of f.rate (length f.octets) → index < carriers
    → get_or (sent_points f) (n * carriers + index) d ≡ carried f.rate (interleaved f.rate (symbol_bits f n)) n (carrier_of index)
unfolding sent_points
sent_points-at f n index d ln li =
    flat-at (λ n. symbol_points f.rate (symbol_bits f n) n) carriers 0 (symbols_of f.rate (length f.octets)) n index n d
    (λ n. length-symbol_points f.rate (symbol_bits f n) n) ln li (omega arith)
    ∙ symbol_points-at f.rate (symbol_bits f n) n index d li

-- one point more of a symbol, and one symbol more of a frame
pub symbol-more : (f : ℕ → Point) (old points new : List Point) (index : ℕ) (point : Point) → points ≡ old ++ map f (range_with_len 0 index)
    → new ≡ points ++ point ∷ [] → point ≡ f index → new ≡ old ++ map f (range_with_len 0 (index + 1))
symbol-more f old points new index point was is_new is =
    is_new ∙ ap (λ (l : List Point). l ++ point ∷ []) was
    ∙ append_assoc old (map f (range_with_len 0 index)) (point ∷ [])
    ∙ ap (λ (p : Point). old ++ (map f (range_with_len 0 index) ++ p ∷ [])) is
    ∙ ap (λ (l : List Point). old ++ l) (sym (map-range_with_len_more f 0 index index (omega arith)))

flat-more : (f : ℕ → List Point) (a n j : ℕ) → a + n ≡ j → flat_map f (range_with_len a (n + 1)) ≡ flat_map f (range_with_len a n) ++ f j
flat-more f a zero j e =
    let same : a ≡ j = omega arith in
    append_nil (f a) ∙ ap f same
  where
    append_nil : (xs : List Point) → xs ++ [] ≡ xs
    append_nil [] = refl
    append_nil (x ∷ xs) = ap (λ (l : List Point). x ∷ l) (append_nil xs)
flat-more f a (suc n) j e =
    let on : suc n + 1 ≡ suc (n + 1) = omega arith in
    ap (λ (k : ℕ). flat_map f (range_with_len a k)) on
    ∙ ap (λ (l : List Point). f a ++ l) (flat-more f (a + 1) n j (omega arith))
    ∙ sym (append_assoc (f a) (flat_map f (range_with_len (a + 1) n)) (f j))

pub frame-more : (f : ℕ → List Point) (points new part : List Point) (n : ℕ) → points ≡ flat_map f (range_with_len 0 n) → new ≡ points ++ part
    → part ≡ f n → new ≡ flat_map f (range_with_len 0 (n + 1))
frame-more f points new part n was is_new is =
    is_new ∙ ap (λ (l : List Point). l ++ part) was
    ∙ ap (λ (l : List Point). flat_map f (range_with_len 0 n) ++ l) is
    ∙ sym (flat-more f 0 n n (omega arith))
