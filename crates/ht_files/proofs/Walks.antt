-- A walk over the places of a frame's points.
use Rattle.std.proofs.Common.{◌≡◌, inl, inr, ℕ, zero, suc, ◌+◌, ◌*◌, ◌/◌, ◌%◌, ◌<◌, ◌≤◌, List, [], ◌∷◌, ◌++◌, length, take, drop, flat_map, get_or}
use Rattle.std.proofs.Common.{true, refl, sym, ap, subst, ◌∙◌, append_assoc, length-append, arith}
use Rattle.std.proofs.lemmas.Bool.{cases_lt}
use Rattle.std.proofs.lemmas.Nat.{div-add-mod', div_below, mod_below}
use Rattle.std.proofs.lemmas.List.{append-nil, get_or_append_left, get_or_push, length_push, take_more, take-append-drop}
use Rattle.std.proofs.lemmas.Grind.{flat_map-append}
use Rattle.std.proofs.Math.Nat.{add-mul, mul_assoc, mul-le-mul}
use Rattle.ht_fields.specs.Tests.{AreBytes}
use Rattle.ht_rate.specs.declared.kinds.Carrier.{Carrier}
use Rattle.ht_rate.specs.declared.rates.Rate.{Rate}
use Rattle.ht_rate.specs.Carriers.{carrier_of}
use Rattle.ht_rate.specs.Rates.{carriers_of, streams_of}
use Rattle.ht_rate.proofs.RateFacts.{carriers_of-range, streams_of-range}
use Rattle.ht_pam.specs.declared.point.Point.{Point}
use Rattle.ht_tx.specs.Symbols.{Fits, origin}
use Rattle.ht_tx.proofs.Places.{digits}
use Rattle.ht_files.specs.Places.{AreFitting, FitsPlace, carrier_at_place, stream_at_place, symbol_at_place}
use Rattle.ht_files.specs.Points.{kind_on, misfits, misfits_place, point_in, point_octets}
use Rattle.ht_files.proofs.Levels.{octets_back}

-- a symbol has at most 456 points
pub symbol_bound : (r : Rate) → carriers_of r * streams_of r ≤ 456
symbol_bound r =
    let all : carriers_of r * streams_of r ≤ 114 * 4 = mul-le-mul (carriers_of-range r).1 (streams_of-range r).1 in
    omega (arith, all)

-- a place of a frame by its symbol and its place there
place_is : (r : Rate) (size symbol place : ℕ) → size ≡ symbol * (carriers_of r * streams_of r) + place
    → size ≡ (symbol * carriers_of r + place / streams_of r) * streams_of r + place % streams_of r
place_is r size symbol place is =
    let n = carriers_of r in
    let w = streams_of r in
    omega (arith, is, add-mul (symbol * n) (place / w) w, mul_assoc symbol n w, div-add-mod' place w)

-- what holds by symbol, subcarrier and stream holds by the place
by_place : (r : Rate) (size symbol place : ℕ) (P : ℕ → Carrier → ℕ → Type 0) → size ≡ symbol * (carriers_of r * streams_of r) + place
    → place < carriers_of r * streams_of r → P symbol (carrier_of r (place / streams_of r)) (place % streams_of r + 1)
    → P (symbol_at_place r size) (carrier_at_place r size) (stream_at_place r size)
by_place r size symbol place P is few holds =
    let n = carriers_of r in
    let w = streams_of r in
    let some : 0 < w = omega (arith, (streams_of-range r).0) in
    let parts = digits symbol (place / w) (place % w) n w (div_below place w n some few) (mod_below place w some) in
    let p = (symbol * n + place / w) * w + place % w in
    subst (λ (k : ℕ). P (symbol_at_place r k) (carrier_at_place r k) (stream_at_place r k)) (sym (place_is r size symbol place is))
    (subst (λ (x : ℕ). P x (carrier_of r (p / w % n)) (p % w + 1)) (sym parts.0)
    (subst (λ (x : ℕ). P symbol (carrier_of r x) (p % w + 1)) (sym parts.1)
    (subst (λ (x : ℕ). P symbol (carrier_of r (place / w)) (x + 1)) (sym parts.2) holds)))

place_fits : (r : Rate) (size symbol place : ℕ) (p : Point) → size ≡ symbol * (carriers_of r * streams_of r) + place
    → place < carriers_of r * streams_of r → Fits r symbol (carrier_of r (place / streams_of r)) (place % streams_of r + 1) p → FitsPlace r size p
place_fits r size symbol place p is few fits = by_place r size symbol place (λ s c t. Fits r s c t p) is few fits

-- two octets that are no point of their place
pub misfit_at : (r : Rate) (size symbol place : ℕ) (carrier : Carrier) (octets : List ℕ) → size ≡ symbol * (carriers_of r * streams_of r) + place
    → place < carriers_of r * streams_of r → carrier ≡ carrier_of r (place / streams_of r)
    → misfits r symbol carrier (place % streams_of r + 1) octets ≡ true → misfits_place r size octets ≡ true
misfit_at r size symbol place carrier octets is few same wrong =
    by_place r size symbol place (λ s c t. misfits r s c t octets ≡ true) is few
    (subst (λ (c : Carrier). misfits r symbol c (place % streams_of r + 1) octets ≡ true) same wrong)

pub kind_at : (r : Rate) (size symbol place : ℕ) (carrier : Carrier) → size ≡ symbol * (carriers_of r * streams_of r) + place
    → place < carriers_of r * streams_of r → carrier ≡ carrier_of r (place / streams_of r) → kind_on carrier ≡ kind_on (carrier_at_place r size)
kind_at r size symbol place carrier is few same = by_place r size symbol place (λ s c t. kind_on carrier ≡ kind_on c) is few (ap kind_on same)

both_bytes : (a b : ℕ) → a < 256 → b < 256 → AreBytes (a ∷ b ∷ [])
both_bytes a b low high zero = low
both_bytes a b low high (suc zero) = high
both_bytes a b low high (suc (suc i)) = omega arith

-- one point more
pub fitting_more : (r : Rate) (old new : List Point) (symbol inside : ℕ) (p : Point)
    → length old ≡ symbol * (carriers_of r * streams_of r) + inside → inside < carriers_of r * streams_of r
    → new ≡ old ++ p ∷ [] → Fits r symbol (carrier_of r (inside / streams_of r)) (inside % streams_of r + 1) p → AreFitting r old → AreFitting r new
fitting_more r old new symbol inside p at few is fits before place lt = elim (cases_lt place (length old)) [
  | inl earlier ↦
      let same : get_or old place origin ≡ get_or new place origin =
      sym (ap (λ (l : List Point). get_or l place origin) is ∙ get_or_append_left old (p ∷ []) origin place earlier) in
      subst (λ (x : Point). FitsPlace r place x) same (before place earlier)
  | inr late ↦
      let end : place ≡ length old = omega (arith, ap length is, length-append old (p ∷ [])) in
      let there : p ≡ get_or new place origin = sym (ap (λ (l : List Point). get_or l place origin) is ∙ get_or_push old p origin place (sym end)) in
      subst (λ (x : Point). FitsPlace r place x) there
      (subst (λ (k : ℕ). FitsPlace r k p) (sym end) (place_fits r (length old) symbol inside p at few fits))
]

-- each point has two octets
pub length-points : (points : List Point) → length (flat_map point_octets points) ≡ 2 * length points
length-points [] = refl
length-points (p ∷ points) = omega (arith, length-points points)

-- no point was added yet
pub none_added : (points : List Point) (octets : List ℕ) (k : ℕ) → k ≡ 0
    → (added : List Point) × (points ≡ points ++ added) × (length added ≡ k) × (take (2 * k) octets ≡ flat_map point_octets added)
none_added points octets k none = ([], sym (append-nil points), sym none, ap (λ (n : ℕ). take (2 * n) octets) none)

-- two octets more
pub two_more : (xs : List ℕ) (k : ℕ) → 2 * k + 1 < length xs → take (2 * (k + 1)) xs ≡ take (2 * k) xs ++ (get_or xs (2 * k) 0 ∷ get_or xs (2 * k + 1) 0 ∷ [])
two_more xs k few =
    let at : 2 * (k + 1) ≡ 2 * k + 1 + 1 = omega arith in
    ap (λ (n : ℕ). take n xs) at
    ∙ (take_more xs (2 * k + 1) 0 few
    ∙ (ap (λ (z : List ℕ). z ++ get_or xs (2 * k + 1) 0 ∷ []) (take_more xs (2 * k) 0 (omega (arith, few)))
    ∙ append_assoc (take (2 * k) xs) (get_or xs (2 * k) 0 ∷ []) (get_or xs (2 * k + 1) 0 ∷ [])))

-- and what is behind them
pub two_behind : (xs : List ℕ) (k : ℕ) → 2 * k + 1 < length xs
    → xs ≡ take (2 * k) xs ++ ((get_or xs (2 * k) 0 ∷ get_or xs (2 * k + 1) 0 ∷ []) ++ drop (2 * (k + 1)) xs)
two_behind xs k few =
    let two : List ℕ = get_or xs (2 * k) 0 ∷ get_or xs (2 * k + 1) 0 ∷ [] in
    sym (take-append-drop (2 * (k + 1)) xs)
    ∙ (ap (λ (z : List ℕ). z ++ drop (2 * (k + 1)) xs) (two_more xs k few) ∙ append_assoc (take (2 * k) xs) two (drop (2 * (k + 1)) xs))

-- the octets of a point that was made of two octets
pub point_again : (a b : ℕ) (p : Point) → a < 256 → b < 256 → p ≡ point_in (a ∷ b ∷ []) → a ∷ b ∷ [] ≡ point_octets p
point_again a b p low high is =
    sym (ap (λ (z : Point). point_octets z) is ∙ octets_back (a ∷ b ∷ []) refl (both_bytes a b low high))

-- one point more
pub added_more : (old now new added : List Point) (p : Point) (octets : List ℕ) (k a b : ℕ) → now ≡ old ++ added → length added ≡ k
    → take (2 * k) octets ≡ flat_map point_octets added → new ≡ now ++ p ∷ [] → a ∷ b ∷ [] ≡ point_octets p
    → take (2 * (k + 1)) octets ≡ take (2 * k) octets ++ (a ∷ b ∷ [])
    → (all : List Point) × (new ≡ old ++ all) × (length all ≡ k + 1) × (take (2 * (k + 1)) octets ≡ flat_map point_octets all)
added_more old now new added p octets k a b is size front push pair more = (
  added ++ p ∷ [],
  push ∙ (ap (λ (z : List Point). z ++ p ∷ []) is ∙ append_assoc old added (p ∷ [])),
  length_push added p ∙ ap (λ n. n + 1) size,
  more ∙ (ap (λ (z : List ℕ). z ++ (a ∷ b ∷ [])) front ∙ (ap (λ (z : List ℕ). flat_map point_octets added ++ z) pair
      ∙ sym (flat_map-append point_octets added (p ∷ [])))),
)
