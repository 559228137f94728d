-- A frame has one list of symbols.
use Rattle.std.proofs.Common.{◌≡◌, ℕ, ◌+◌, ◌-◌, ◌*◌, ◌/◌, ◌%◌, ◌<◌, ◌≤◌, List, [], ◌∷◌, ◌==◌, length, get_or}
use Rattle.std.proofs.Common.{refl, sym, ap, subst, ◌∙◌, arith}
use Rattle.std.specs.Int.{bit_at}
use Rattle.std.proofs.lemmas.Bool.Decides.{nat_tests}
use Rattle.std.proofs.lemmas.List.{same_lists, get_or_default}
use Rattle.std.proofs.lemmas.Nat.Bits.{bit_at-lt, same_from_bits_below}
use Rattle.ht_rate.specs.declared.kinds.Carrier.{Carrier}
use Rattle.ht_rate.specs.declared.kinds.Carrier.TheVariants.{Data, Pilot}
use Rattle.ht_rate.specs.declared.rates.Rate.{Rate}
use Rattle.ht_rate.specs.Carriers.{IsAmong, carrier_of}
use Rattle.ht_rate.specs.Rates.{carriers_of, data_carriers_of, label_bits_of, modulation_of, streams_of, symbols_of}
use Rattle.ht_rate.proofs.CarrierFacts.{carrier_of-among}
use Rattle.ht_rate.proofs.RateFacts.{carriers_of-range, streams_of-range}
use Rattle.ht_pam.specs.declared.point.Point.{Point}
use Rattle.ht_map.specs.Gray.{label_bit, point_of}
use Rattle.ht_landing.specs.Landings.{IsLabelBit, coded_bit_of}
use Rattle.ht_landing.proofs.Landed.{coded_bit_of-lands}
use Rattle.ht_tx.specs.Frames.{FrameView}
use Rattle.ht_tx.specs.Symbols.{IsSymbols, SymbolsView, index_of_point, origin, point_at, points_of}
use Rattle.ht_tx.specs.Transmitted.{AreTransmitted, Carries, IsLabelOf, IsTransmitted, label_bit_at}
use Rattle.ht_tx.proofs.Places.{parts-again, parts-below}

same_bit : (a b : ℕ) → a < 2 → b < 2 → (a == 1) ≡ (b == 1) → a ≡ b
same_bit a b low high same = grind (arith, nat_tests)

-- a label has the coded bits that land at its own bits
one_label : (f : FrameView) (symbol carrier stream a b : ℕ) → carrier < data_carriers_of f.rate → 1 ≤ stream → stream ≤ streams_of f.rate
    → IsLabelOf f symbol carrier stream a → IsLabelOf f symbol carrier stream b → a ≡ b
unfolding label_bit label_bits_of
one_label f symbol carrier stream a b few low high x y = same_from_bits_below (label_bits_of f.rate) a b x.below y.below (λ i lt.
    let r = f.rate in
    let bit = label_bits_of r - 1 - i in
    let below : bit < label_bits_of r = omega (arith, lt) in
    let back : label_bits_of r - 1 - bit ≡ i = omega (arith, lt) in
    let l = label_bit_at symbol carrier stream bit in
    let is : IsLabelBit r l = record { stream_low = low; stream_high = high; carrier = few; bit = below } in
    let lands = (coded_bit_of-lands r l is).1 in
    let j = (coded_bit_of r l).0 in
    let q = (coded_bit_of r l).1 in
    let same : label_bit (modulation_of r) a bit ≡ label_bit (modulation_of r) b bit = x.bits j q bit lands ∙ sym (y.bits j q bit lands) in
    same_bit (bit_at a i) (bit_at b i) (bit_at-lt a i) (bit_at-lt b i)
    (subst (λ (n : ℕ). (bit_at a n == 1) ≡ (bit_at b n == 1)) back same))

-- a subcarrier carries one point
one_carried : (f : FrameView) (symbol : ℕ) (carrier : Carrier) (stream : ℕ) (p q : Point) → IsAmong f.rate carrier → 1 ≤ stream → stream ≤ streams_of f.rate
    → Carries f symbol carrier stream p → Carries f symbol carrier stream q → p ≡ q
one_carried f symbol (Data m) stream p q few low high x y =
    x.mapped ∙ (ap (point_of (modulation_of f.rate)) (one_label f symbol m stream x.label y.label few low high x.landed y.landed) ∙ sym y.mapped)
one_carried f symbol (Pilot k) stream p q few low high x y = x ∙ sym y

-- the point at a place is that of its symbol, subcarrier and stream
same_point_at : (f : FrameView) (s t : SymbolsView) → IsTransmitted f s → IsTransmitted f t → (place : ℕ) → place < points_of f.rate (length f.octets)
    → get_or s.points place origin ≡ get_or t.points place origin
unfolding points_of index_of_point
same_point_at f s t x y place few =
    let r = f.rate in
    let n = carriers_of r in
    let w = streams_of r in
    let some_n : 0 < n = omega (arith, (carriers_of-range r).0) in
    let some_w : 0 < w = omega (arith, (streams_of-range r).0) in
    let parts = parts-below place (symbols_of r (length f.octets)) n w some_n some_w few in
    let symbol = place / w / n in
    let index = place / w % n in
    let stream = place % w + 1 in
    let low : 1 ≤ stream = omega arith in
    let high : stream ≤ w = omega (arith, parts.2) in
    let first : stream - 1 ≡ place % w = omega arith in
    let there : (symbol * n + index) * w + (stream - 1) ≡ place = ap (λ (k : ℕ). (symbol * n + index) * w + k) first ∙ parts-again place n w in
    subst (λ (k : ℕ). get_or s.points k origin ≡ get_or t.points k origin) there
    (one_carried f symbol (carrier_of r index) stream (point_at r s.points symbol index stream) (point_at r t.points symbol index stream)
    (carrier_of-among r index parts.1) low high (x.points symbol index stream parts.0 parts.1 low high) (y.points symbol index stream parts.0 parts.1 low high))

all_points : (f : FrameView) (s : SymbolsView) → IsTransmitted f s → IsSymbols s.rate s.length s.points → length s.points ≡ points_of f.rate (length f.octets)
all_points f s x is = is.whole ∙ (ap (λ (r : Rate). points_of r s.length) x.rate ∙ ap (points_of f.rate) x.octets)

parts_same : (s t : SymbolsView) → s.rate ≡ t.rate → s.length ≡ t.length → s.points ≡ t.points → s ≡ t
parts_same s t a b c =
    ap (λ (r : Rate). let v : SymbolsView = record { rate = r; length = s.length; points = s.points } in v) a
    ∙ (ap (λ (n : ℕ). let v : SymbolsView = record { rate = t.rate; length = n; points = s.points } in v) b
    ∙ ap (λ (p : List Point). let v : SymbolsView = record { rate = t.rate; length = t.length; points = p } in v) c)

-- one frame
pub one_transmitted : (f : FrameView) (s t : SymbolsView) → IsTransmitted f s → IsTransmitted f t → IsSymbols s.rate s.length s.points
    → IsSymbols t.rate t.length t.points → s ≡ t
one_transmitted f s t x y is also =
    let all = all_points f s x is in
    parts_same s t (x.rate ∙ sym y.rate) (x.octets ∙ sym y.octets)
    (same_lists s.points t.points (all ∙ sym (all_points f t y also)) (λ k d few.
    get_or_default s.points k d origin few
    ∙ (same_point_at f s t x y k (omega (arith, few, all))
    ∙ get_or_default t.points k origin d (omega (arith, few, all, all_points f t y also)))))

-- frames, one after another
pub all_transmitted : (frames : List FrameView) (sent others : List SymbolsView) → AreTransmitted frames sent → AreTransmitted frames others → sent ≡ others
all_transmitted [] [] [] x y = refl
all_transmitted [] [] (t ∷ others) x y = absurd y
all_transmitted [] (s ∷ sent) others x y = absurd x
all_transmitted (f ∷ frames) [] others x y = absurd x
all_transmitted (f ∷ frames) (s ∷ sent) [] x y = absurd y
all_transmitted (f ∷ frames) (s ∷ sent) (t ∷ others) x y =
    ap (λ (z : SymbolsView). z ∷ sent) (one_transmitted f s t x.0 y.0 x.1 y.1)
    ∙ ap (λ (z : List SymbolsView). t ∷ z) (all_transmitted frames sent others x.2 y.2)
