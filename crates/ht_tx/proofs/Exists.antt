-- Each frame has symbols that are sent for it.
use Rattle.std.proofs.Common.{◌≡◌, ℕ, ◌+◌, ◌/◌, ◌%◌, List, [], ◌∷◌, Bool, false, length, get_or, map}
use Rattle.std.proofs.Common.{refl, sym, ap, subst, ◌∙◌, arith}
use Rattle.std.specs.Prelude.{All}
use Rattle.std.specs.List.{range_with_len}
use Rattle.std.proofs.lemmas.List.Elements.{All-head, All-tail}
use Rattle.std.proofs.lemmas.List.FromFn.{get_or-map-range_with_len, length-map-range_with_len}
use Rattle.ht_rate.specs.declared.kinds.Carrier.{Carrier}
use Rattle.ht_rate.specs.declared.kinds.Carrier.TheVariants.{Data, Pilot}
use Rattle.ht_rate.specs.Carriers.{carrier_of}
use Rattle.ht_rate.specs.Rates.{carriers_of, label_bits_of, modulation_of, streams_of}
use Rattle.ht_pam.specs.declared.point.Point.{Point}
use Rattle.ht_map.specs.Gray.{label_bit, point_of}
use Rattle.ht_data.specs.Labels.{written}
use Rattle.ht_data.proofs.Written.{written-below, written-bit}
use Rattle.ht_landing.specs.Landings.{coded_bit_of}
use Rattle.ht_landing.proofs.Landed.{coded_bit_of-only}
use Rattle.ht_tx.specs.Frames.{FrameView, IsPsdu}
use Rattle.ht_tx.specs.Symbols.{IsSymbols, SymbolsView, origin, pilot_point, points_of}
use Rattle.ht_tx.specs.Coded.{coded_of}
use Rattle.ht_tx.specs.Transmitted.{AreTransmitted, Carries, IsLabelOf, IsTransmitted, label_bit_at}
use Rattle.ht_tx.specs.Sources.{AreCarried}
use Rattle.ht_tx.proofs.Carried.{are_symbols, transmitted}

-- the coded bit that lands at a label bit
landed : FrameView → ℕ → ℕ → ℕ → ℕ → Bool
landed f symbol carrier stream bit =
    let from = coded_bit_of f.rate (label_bit_at symbol carrier stream bit) in
    get_or (coded_of f from.0) from.1 false

label_for : FrameView → ℕ → ℕ → ℕ → ℕ
label_for f symbol carrier stream = written (landed f symbol carrier stream) (label_bits_of f.rate)

is_label : (f : FrameView) (symbol carrier stream : ℕ) → IsLabelOf f symbol carrier stream (label_for f symbol carrier stream)
unfolding label_bit label_bits_of landed label_for
is_label f symbol carrier stream = record {
  below = written-below (landed f symbol carrier stream) (label_bits_of f.rate);
  bits = λ j q bit lands.
      let from = coded_bit_of-only f.rate (label_bit_at symbol carrier stream bit) j q lands in
      written-bit (landed f symbol carrier stream) (label_bits_of f.rate) bit lands.label.bit
      ∙ ap (λ (z : ℕ × ℕ). get_or (coded_of f z.0) z.1 false) (sym from);
}

-- the point of a subcarrier and stream
point_for : FrameView → ℕ → Carrier → ℕ → Point
point_for f symbol (Data m) stream = point_of (modulation_of f.rate) (label_for f symbol m stream)
point_for f symbol (Pilot k) stream = pilot_point f.rate symbol k stream

carries : (f : FrameView) (symbol : ℕ) (carrier : Carrier) (stream : ℕ) → Carries f symbol carrier stream (point_for f symbol carrier stream)
unfolding point_for
carries f symbol (Data m) stream = record { label = label_for f symbol m stream; landed = is_label f symbol m stream; mapped = refl }
carries f symbol (Pilot k) stream = refl

-- the point of a place
point_there : FrameView → ℕ → Point
point_there f p =
    point_for f (p / streams_of f.rate / carriers_of f.rate) (carrier_of f.rate (p / streams_of f.rate % carriers_of f.rate)) (p % streams_of f.rate + 1)

points_for : FrameView → List Point
points_for f = map (point_there f) (range_with_len 0 (points_of f.rate (length f.octets)))

all_carried : (f : FrameView) → AreCarried f (points_for f)
unfolding points_for point_there
all_carried f p lt =
    let count = points_of f.rate (length f.octets) in
    let there : get_or (points_for f) p origin ≡ point_there f p =
    get_or-map-range_with_len (point_there f) 0 count p p origin (omega (arith, length-map-range_with_len (point_there f) 0 count)) (omega arith) in
    subst (λ (x : Point). Carries f (p / streams_of f.rate / carriers_of f.rate)
    (carrier_of f.rate (p / streams_of f.rate % carriers_of f.rate)) (p % streams_of f.rate + 1) x) (sym there)
    (carries f (p / streams_of f.rate / carriers_of f.rate) (carrier_of f.rate (p / streams_of f.rate % carriers_of f.rate)) (p % streams_of f.rate + 1))

pub some_sent : (f : FrameView) → IsPsdu f.octets → (sent : SymbolsView) × IsTransmitted f sent × IsSymbols sent.rate sent.length sent.points
unfolding points_for
some_sent f psdu =
    let sent : SymbolsView = record { rate = f.rate; length = length f.octets; points = points_for f } in
    let whole = length-map-range_with_len (point_there f) 0 (points_of f.rate (length f.octets)) in (
      sent,
      transmitted f (length f.octets) (points_for f) sent refl whole (all_carried f) refl refl refl,
      are_symbols f (length f.octets) (points_for f) refl psdu whole (all_carried f),
    )

pub all_some_sent : (frames : List FrameView) → All (λ (f : FrameView). IsPsdu f.octets) frames → (sent : List SymbolsView) × AreTransmitted frames sent
all_some_sent [] all = ([], tt)
all_some_sent (f ∷ frames) all =
    let first = some_sent f (All-head (λ (f : FrameView). IsPsdu f.octets) f frames all) in
    let rest = all_some_sent frames (All-tail (λ (f : FrameView). IsPsdu f.octets) f frames all) in
    (first.0 ∷ rest.0, (first.1, first.2, rest.1))
