-- How many rows, samples and subcarriers there are.
use Rattle.std.proofs.Common.{◌≡◌, ℕ, zero, suc, ◌*◌, List, [], ◌∷◌, length, take, drop, All, refl, sym, ap, ◌∙◌, arith}
use Rattle.std.proofs.Math.Nat.{mul_assoc, suc-mul}
use Rattle.std.proofs.lemmas.List.{length-append}
use Rattle.std.proofs.lemmas.List.Elements.{All-head, All-tail}
use Rattle.ht_pam.specs.declared.point.Point.{Point}
use Rattle.ht_metric.specs.Rows.{Leg}
use Rattle.ht_rate.specs.declared.rates.Rate.{Rate}
use Rattle.ht_rate.specs.Rates.{carriers_of, streams_of, symbols_of}
use Rattle.ht_tx.specs.Symbols.{IsSymbols, SymbolsView, points_of}
use Rattle.ht_sim.specs.Channel.{legs_drawn, mixed, symbol_mixed, symbols_mixed, tap_drawn, triangle_drawn}
use Rattle.ht_sim.specs.Draws.{several}
use Rattle.ht_sim.specs.Words.{next}

pub length-legs_drawn : (n z : ℕ) → length (legs_drawn n z).value ≡ n
length-legs_drawn zero z = refl
length-legs_drawn (suc n) z = ap suc (length-legs_drawn n (several tap_drawn n (next z)).state)

pub length-triangle_drawn : (n z : ℕ) → length (triangle_drawn n z).value ≡ n
unfolding triangle_drawn
length-triangle_drawn n z = length-legs_drawn n z

pub length-mixed : (t : List Leg) (points : List Point) → length (mixed t points) ≡ length t
length-mixed [] points = refl
length-mixed (leg ∷ legs) points = ap suc (length-mixed legs (drop 1 points))

length-symbol_mixed : (streams : ℕ) (ts : List (List Leg)) (points : List Point) → All (λ t. length t ≡ streams) ts
    → length (symbol_mixed streams ts points) ≡ length ts * streams
length-symbol_mixed streams [] points all = let e : 0 * streams ≡ 0 = omega arith in sym e
length-symbol_mixed streams (t ∷ ts) points all =
    let here : length (mixed t (take streams points)) ≡ streams = length-mixed t (take streams points) ∙ All-head (λ u. length u ≡ streams) t ts all in
    let rest : length (symbol_mixed streams ts (drop streams points)) ≡ length ts * streams =
    length-symbol_mixed streams ts (drop streams points) (All-tail (λ u. length u ≡ streams) t ts all) in
    length-append (mixed t (take streams points)) (symbol_mixed streams ts (drop streams points)) ∙ omega (arith, suc-mul (length ts) streams)

pub length-symbols_mixed : (n streams : ℕ) (ts : List (List Leg)) (points : List Point) → All (λ t. length t ≡ streams) ts
    → length (symbols_mixed n streams ts points) ≡ n * (length ts * streams)
length-symbols_mixed zero streams ts points all = let e : 0 * (length ts * streams) ≡ 0 = omega arith in sym e
length-symbols_mixed (suc n) streams ts points all =
    let width = length ts * streams in
    let here = length-symbol_mixed streams ts (take width points) all in
    let rest = length-symbols_mixed n streams ts (drop width points) all in
    length-append (symbol_mixed streams ts (take width points)) (symbols_mixed n streams ts (drop width points)) ∙ omega (arith, suc-mul n width, here, rest)

-- the points of a frame's symbols, as many as their rate and length ask for
pub points_are : (s : SymbolsView) (rate : Rate) (octets : ℕ) (points : List Point) → rate ≡ s.rate → octets ≡ s.length → points ≡ s.points
    → IsSymbols s.rate s.length s.points → length points ≡ symbols_of rate octets * (carriers_of rate * streams_of rate)
unfolding points_of
points_are s rate octets points r o p fits =
    ap (λ (xs : List Point). length xs) p ∙ fits.whole
    ∙ mul_assoc (symbols_of s.rate s.length) (carriers_of s.rate) (streams_of s.rate)
    ∙ ap (λ n. symbols_of s.rate n * (carriers_of s.rate * streams_of s.rate)) (sym o)
    ∙ ap (λ (q : Rate). symbols_of q octets * (carriers_of q * streams_of q)) (sym r)
