-- Points in order, each the one that its subcarrier carries.
use Rattle.std.proofs.Common.{◌≡◌, ℕ, ◌+◌, ◌-◌, ◌*◌, ◌/◌, ◌%◌, ◌<◌, ◌≤◌, List, [], ◌∷◌, ◌++◌, length}
use Rattle.std.proofs.Common.{get_or, is_some, ap, sym, ◌∙◌, subst, arith, inl, inr, w8, to_z, of_z}
use Rattle.std.proofs.lemmas.List.{length-append, get_or_append_left, get_or_push}
use Rattle.std.proofs.lemmas.Bool.{cases_lt}
use Rattle.std.proofs.Math.Nat.{mul_assoc, mul-le-mul_right}
use Rattle.ht_rate.specs.declared.rates.Rate.{Rate}
use Rattle.ht_rate.specs.declared.kinds.Carrier.{Carrier}
use Rattle.ht_rate.specs.declared.kinds.Carrier.TheVariants.{Data, Pilot}
use Rattle.ht_rate.specs.Carriers.{carrier_of}
use Rattle.ht_rate.specs.Rates.{streams_of, carriers_of, symbols_of, modulation_of, label_bits_of}
use Rattle.ht_map.specs.Gray.{label_of}
use Rattle.ht_map.proofs.LabelFacts.{label_of-point_of}
use Rattle.ht_pam.specs.declared.point.Point.{Point}
use Rattle.ht_pilot.specs.Pilots.{pilot_of}
use Rattle.std.specs.Prelude.{ℤ, pos, unsigned_abs}
use Rattle.ht_data.proofs.Written.{unit-fits}
use Rattle.ht_tx.specs.Frames.{FrameView, IsPsdu}
use Rattle.ht_tx.specs.Symbols.{Fits, IsSymbols, SymbolsView, index_of_point, origin, point_at, points_of, pilot_point}
use Rattle.ht_tx.specs.Transmitted.{Carries, IsTransmitted}
use Rattle.ht_tx.specs.Sources.{AreCarried}
use Rattle.ht_tx.proofs.Places.{digits, digits-below}

-- one point more
pub carried-more : (f : FrameView) (old new : List Point) (symbol index stream : ℕ) (point : Point)
    → index < carriers_of f.rate → stream < streams_of f.rate
    → length old ≡ (symbol * carriers_of f.rate + index) * streams_of f.rate + stream
    → new ≡ old ++ point ∷ [] → Carries f symbol (carrier_of f.rate index) (stream + 1) point
    → AreCarried f old → AreCarried f new
carried-more f old new symbol index stream point li ls len is_new fits before p lt = elim (cases_lt p (length old)) [
  | inl earlier ↦
      let same : get_or old p origin ≡ get_or new p origin =
      sym (ap (λ (l : List Point). get_or l p origin) is_new ∙ get_or_append_left old (point ∷ []) origin p earlier) in
      subst (λ (x : Point). Carries f (p / streams_of f.rate / carriers_of f.rate)
      (carrier_of f.rate (p / streams_of f.rate % carriers_of f.rate)) (p % streams_of f.rate + 1) x) same (before p earlier)
  | inr late ↦
      let end : p ≡ (symbol * carriers_of f.rate + index) * streams_of f.rate + stream = omega (arith, ap length is_new, length-append old (point ∷ [])) in
      let parts = digits symbol index stream (carriers_of f.rate) (streams_of f.rate) li ls in
      let there : point ≡ get_or new p origin = sym (ap (λ (l : List Point). get_or l p origin) is_new ∙ get_or_push old point origin p (len ∙ sym end)) in
      subst (λ (x : Point). Carries f (p / streams_of f.rate / carriers_of f.rate)
      (carrier_of f.rate (p / streams_of f.rate % carriers_of f.rate)) (p % streams_of f.rate + 1) x) there
      (subst (λ (x : ℕ). Carries f (x / streams_of f.rate / carriers_of f.rate)
      (carrier_of f.rate (x / streams_of f.rate % carriers_of f.rate)) (x % streams_of f.rate + 1) point) (sym end)
      (subst (λ (x : ℕ). Carries f x
      (carrier_of f.rate (((symbol * carriers_of f.rate + index) * streams_of f.rate + stream) / streams_of f.rate % carriers_of f.rate))
      (((symbol * carriers_of f.rate + index) * streams_of f.rate + stream) % streams_of f.rate + 1) point) (sym parts.0)
      (subst (λ (x : ℕ). Carries f symbol (carrier_of f.rate x)
      (((symbol * carriers_of f.rate + index) * streams_of f.rate + stream) % streams_of f.rate + 1) point) (sym parts.1)
      (subst (λ (x : ℕ). Carries f symbol (carrier_of f.rate index) (x + 1) point) (sym parts.2) fits))))
]

-- a point by its symbol, subcarrier and stream
pub carried-at : (f : FrameView) (points : List Point) (symbol carrier stream : ℕ) → length points ≡ points_of f.rate (length f.octets)
    → AreCarried f points → symbol < symbols_of f.rate (length f.octets) → carrier < carriers_of f.rate → 1 ≤ stream → stream ≤ streams_of f.rate
    → Carries f symbol (carrier_of f.rate carrier) stream (point_at f.rate points symbol carrier stream)
unfolding points_of index_of_point
carried-at f points symbol carrier stream len carried ls lc low high =
    let st : stream - 1 < streams_of f.rate = omega arith in
    let back : stream - 1 + 1 ≡ stream = omega arith in
    let p = (symbol * carriers_of f.rate + carrier) * streams_of f.rate + (stream - 1) in
    let lt : p < length points = omega
    (arith, digits-below symbol carrier (stream - 1) (symbols_of f.rate (length f.octets)) (carriers_of f.rate) (streams_of f.rate) ls lc st) in
    let parts = digits symbol carrier (stream - 1) (carriers_of f.rate) (streams_of f.rate) lc st in
    subst (λ (x : ℕ). Carries f symbol (carrier_of f.rate carrier) x (get_or points p origin)) back
    (subst (λ (x : ℕ). Carries f symbol (carrier_of f.rate carrier) (x + 1) (get_or points p origin)) parts.2
    (subst (λ (x : ℕ). Carries f symbol (carrier_of f.rate x) (p % streams_of f.rate + 1) (get_or points p origin)) parts.1
    (subst (λ (x : ℕ). Carries f x (carrier_of f.rate (p / streams_of f.rate % carriers_of f.rate))
    (p % streams_of f.rate + 1) (get_or points p origin)) parts.0
    (carried p lt))))

-- what a subcarrier carries fits it
fits : (f : FrameView) (symbol : ℕ) (carrier : Carrier) (stream : ℕ) (point : Point)
    → Carries f symbol carrier stream point → Fits f.rate symbol carrier stream point
unfolding label_bits_of
fits f symbol (Data m) stream point h =
    ap (λ (x : Point). is_some (label_of (modulation_of f.rate) x)) h.mapped
    ∙ ap is_some (label_of-point_of (modulation_of f.rate) h.label h.landed.below)
fits f symbol (Pilot k) stream point h = h

pub are_symbols : (f : FrameView) (octets : ℕ) (points : List Point) → octets ≡ length f.octets → IsPsdu f.octets
    → length points ≡ points_of f.rate (length f.octets) → AreCarried f points → IsSymbols f.rate octets points
are_symbols f octets points e psdu len carried = rw e (record {
  some = psdu.0;
  bounded = psdu.1;
  whole = len;
  fits = λ symbol carrier stream ls lc low high.
      fits f symbol (carrier_of f.rate carrier) stream _ (carried-at f points symbol carrier stream len carried ls lc low high);
})

pub transmitted : (f : FrameView) (octets : ℕ) (points : List Point) (sent : SymbolsView) → octets ≡ length f.octets
    → length points ≡ points_of f.rate (length f.octets) → AreCarried f points
    → sent.rate ≡ f.rate → sent.length ≡ octets → sent.points ≡ points → IsTransmitted f sent
transmitted f octets points sent e len carried is_rate is_length is_points = record {
  rate = is_rate;
  octets = is_length ∙ e;
  points = λ symbol carrier stream ls lc low high.
      rw is_points (carried-at f points symbol carrier stream len carried ls lc low high);
}

-- the value of a pilot is a level
pub pilot-carried : (f : FrameView) (symbol : ℕ) (carrier : Carrier) (k stream : ℕ) (r : Rate) (v : ℤ) → carrier ≡ Pilot k → r ≡ f.rate
    → v ≡ pilot_of r symbol k stream → unsigned_abs v ≡ 1 → Carries f symbol carrier stream (record { i = to_z w8 (of_z w8 v); q = pos 0 })
unfolding pilot_point
pilot-carried f symbol carrier k stream r v is_pilot dr is_v unit =
    subst (λ (x : Carrier). Carries f symbol x stream (record { i = to_z w8 (of_z w8 v); q = pos 0 })) (sym is_pilot)
    (ap (λ (x : ℤ). let p : Point = record { i = x; q = pos 0 } in p) (unit-fits v unit ∙ is_v ∙ ap (λ (x : Rate). pilot_of x symbol k stream) dr))

-- at the start the capacity is the number of all points
pub capacity-for-all : (f : FrameView) (r : Rate) (octets : List ℕ) (n a b capacity : ℕ) → r ≡ f.rate → octets ≡ f.octets → n ≡ symbols_of r (length octets)
    → a ≡ carriers_of r → b ≡ streams_of r → capacity ≡ n * (a * b) → capacity ≡ symbols_of f.rate (length f.octets) * carriers_of f.rate * streams_of f.rate
capacity-for-all f r octets n a b capacity dr d_o dn da db e =
    e
    ∙ sym (mul_assoc n a b)
    ∙ ap (λ (x : ℕ). x * a * b) (dn ∙ ap (λ (x : Rate). symbols_of x (length octets)) dr ∙ ap (λ (x : List ℕ). symbols_of f.rate (length x)) d_o)
    ∙ ap (λ (x : ℕ). symbols_of f.rate (length f.octets) * x * b) (da ∙ ap carriers_of dr)
    ∙ ap (λ (x : ℕ). symbols_of f.rate (length f.octets) * carriers_of f.rate * x) (db ∙ ap streams_of dr)

pub none-carried : (f : FrameView) (points : List Point) → points ≡ [] → AreCarried f points
none-carried f points e p lt = absurd (omega (arith, ap length e))

-- and later there is room for those of each symbol
pub room-left : (f : FrameView) (r : Rate) (octets : List ℕ) (n symbol capacity : ℕ) → r ≡ f.rate → octets ≡ f.octets → n ≡ symbols_of r (length octets)
    → symbol < n → capacity ≡ symbols_of f.rate (length f.octets) * carriers_of f.rate * streams_of f.rate
    → (symbol + 1) * carriers_of f.rate * streams_of f.rate ≤ capacity
room-left f r octets n symbol capacity dr d_o dn lt e =
    let all : n ≡ symbols_of f.rate (length f.octets) =
    dn ∙ ap (λ (x : Rate). symbols_of x (length octets)) dr ∙ ap (λ (x : List ℕ). symbols_of f.rate (length x)) d_o in
    let next : symbol + 1 ≤ symbols_of f.rate (length f.octets) = omega arith in
    rw e (mul-le-mul_right (streams_of f.rate) (mul-le-mul_right (carriers_of f.rate) next))

-- all points are there
pub all-there : (f : FrameView) (points : List Point) (r : Rate) (octets : List ℕ) (len symbol n : ℕ)
    → r ≡ f.rate → octets ≡ f.octets → n ≡ symbols_of r (length octets)
    → len ≡ length points → len ≡ symbol * carriers_of f.rate * streams_of f.rate → symbol ≡ n → length points ≡ points_of f.rate (length f.octets)
unfolding points_of
all-there f points r octets len symbol n dr d_o dn is_len count done =
    sym is_len ∙ count
    ∙ ap (λ (x : ℕ). x * carriers_of f.rate * streams_of f.rate)
    (done ∙ dn ∙ ap (λ (x : Rate). symbols_of x (length octets)) dr ∙ ap (λ (x : List ℕ). symbols_of f.rate (length x)) d_o)

pub finished : (f : FrameView) (r : Rate) (octets : List ℕ) (items points : List Point) (len symbol n : ℕ)
    → r ≡ f.rate → octets ≡ f.octets → IsPsdu octets → points ≡ items
    → n ≡ symbols_of r (length octets) → len ≡ length items → len ≡ symbol * carriers_of f.rate * streams_of f.rate → symbol ≡ n → AreCarried f items
    → IsSymbols r (length octets) points
finished f r octets items points len symbol n dr d_o psdu dp dn is_len count done carried =
    let whole = all-there f items r octets len symbol n dr d_o dn is_len count done in
    subst (λ (x : Rate). IsSymbols x (length octets) points) (sym dr)
    (subst (λ (l : List Point). IsSymbols f.rate (length octets) l) (sym dp)
    (are_symbols f (length octets) items (ap length d_o) (subst IsPsdu d_o psdu) whole carried))

pub sent-out : (f : FrameView) (r : Rate) (octets : List ℕ) (items points : List Point) (len symbol n : ℕ) (sent : SymbolsView)
    → r ≡ f.rate → octets ≡ f.octets → points ≡ items
    → n ≡ symbols_of r (length octets) → len ≡ length items → len ≡ symbol * carriers_of f.rate * streams_of f.rate → symbol ≡ n → AreCarried f items
    → sent ≡ record { rate = r; length = length octets; points = points } → IsTransmitted f sent
sent-out f r octets items points len symbol n sent dr d_o dp dn is_len count done carried e =
    let whole = all-there f items r octets len symbol n dr d_o dn is_len count done in
    transmitted f (length octets) items sent (ap length d_o) whole carried
    (ap (λ (s : SymbolsView). s.rate) e ∙ dr) (ap (λ (s : SymbolsView). s.length) e) (ap (λ (s : SymbolsView). s.points) e ∙ dp)
