-- Each label bit of each symbol finds its coded bit.
use Rattle.std.proofs.Common.{◌≡◌, ℕ, ◌+◌, ◌-◌, ◌*◌, ◌/◌, ◌%◌, ◌^◌, ◌<◌, ◌≤◌, List, Bool, false}
use Rattle.std.proofs.Common.{◌==◌, drop, slice_range, length, get_or, refl, ap, sym, ◌∙◌, subst, arith}
use Rattle.std.specs.Int.{bit_at}
use Rattle.std.proofs.Math.Nat.{mul-le-mul_right}
use Rattle.std.proofs.lemmas.List.{get_or-drop, length-drop}
use Rattle.ht_rate.specs.declared.rates.Rate.{Rate}
use Rattle.ht_rate.specs.declared.kinds.Modulation.{Modulation}
use Rattle.ht_rate.specs.Schemes.{bits_of}
use Rattle.ht_rate.specs.Rates.{encoders_of, streams_of, data_carriers_of, label_bits_of, coded_bits_of, symbols_of, modulation_of}
use Rattle.ht_rate.proofs.RateFacts.{streams_of-range, label_bits_of-range, encoders_of-range}
use Rattle.ht_map.specs.Gray.{label_bit, point_of}
use Rattle.ht_pam.specs.declared.point.Point.{Point}
use Rattle.ht_data.proofs.Written.{part-get, part-length}
use Rattle.ht_parse.specs.Streams.{share_of, source_of}
use Rattle.ht_parse.proofs.Maps.{source_of-place}
use Rattle.ht_interleave.specs.Interleaver.{origin_of}
use Rattle.ht_interleave.proofs.Inverse.{origin_of-bound}
use Rattle.ht_landing.specs.Landings.{coded_bit_of}
use Rattle.ht_landing.proofs.Landed.{coded_bit_of-only}
use Rattle.ht_tx.specs.Frames.{FrameView}
use Rattle.ht_tx.specs.Coded.{coded_of, reach_of}
use Rattle.ht_tx.specs.Transmitted.{label_bit_at, IsLabelOf, IsPointOf}
use Rattle.ht_tx.specs.Sources.{slot_of, source_at, source_of_slot, AreCoded, IsLabelSlot, AreWired}
use Rattle.ht_tx.proofs.Places.{digits, digits-below, pair-below, place-below, coded_bits_of-labels}

-- the place of a label bit is in the table
pub slot-below : (r : Rate) (carrier stream bit : ℕ) → IsLabelSlot r carrier stream bit
    → slot_of r carrier stream bit < data_carriers_of r * streams_of r * label_bits_of r
unfolding slot_of
slot-below r carrier stream bit h =
    let stream_below : stream - 1 < streams_of r = omega (arith, h.stream_low, h.stream_high) in
    digits-below carrier (stream - 1) bit (data_carriers_of r) (streams_of r) (label_bits_of r) h.carrier_below stream_below h.bit_below

-- and the table has its source
pub source-there : (r : Rate) (reach carrier stream bit : ℕ) → IsLabelSlot r carrier stream bit
    → source_of_slot r reach (slot_of r carrier stream bit) ≡ source_at r reach carrier stream bit
unfolding slot_of source_of_slot
source-there r reach carrier stream bit h =
    let stream_below : stream - 1 < streams_of r = omega (arith, h.stream_low, h.stream_high) in
    let back : stream - 1 + 1 ≡ stream = omega (arith, h.stream_low) in
    let parts = digits carrier (stream - 1) bit (streams_of r) (label_bits_of r) stream_below h.bit_below in
    let slot = (carrier * streams_of r + (stream - 1)) * label_bits_of r + bit in
    ap (λ (x : ℕ). source_at r reach x (slot / label_bits_of r % streams_of r + 1) (slot % label_bits_of r)) parts.0
    ∙ ap (λ (x : ℕ). source_at r reach carrier x (slot % label_bits_of r)) (ap (λ (x : ℕ). x + 1) parts.1 ∙ back)
    ∙ ap (λ (x : ℕ). source_at r reach carrier stream x) parts.2

-- the coded bit of a label bit in symbol 0, and in another symbol
pub from-symbol : (r : Rate) (symbol carrier stream bit : ℕ) → IsLabelSlot r carrier stream bit
    → ((coded_bit_of r (label_bit_at 0 carrier stream bit)).0 < encoders_of r)
    × ((coded_bit_of r (label_bit_at 0 carrier stream bit)).1 < share_of r)
    × ((coded_bit_of r (label_bit_at symbol carrier stream bit)).0 ≡ (coded_bit_of r (label_bit_at 0 carrier stream bit)).0)
    × ((coded_bit_of r (label_bit_at symbol carrier stream bit)).1 ≡ symbol * share_of r + (coded_bit_of r (label_bit_at 0 carrier stream bit)).1)
unfolding coded_bit_of
from-symbol r symbol carrier stream bit h =
    let few : stream ≤ 4 = omega (arith, streams_of-range r, h.stream_high) in
    let p = carrier * label_bits_of r + bit in
    let below = place-below r carrier bit h.carrier_below h.bit_below in
    let at = source_of-place r stream (origin_of r stream p) h.stream_low h.stream_high (origin_of-bound r stream p h.stream_low few below) in
    let none : 0 * share_of r + (source_of r stream (origin_of r stream p)).1 ≡ (source_of r stream (origin_of r stream p)).1 = omega arith in
    (at.0, subst (λ (x : ℕ). x < share_of r) (sym none) at.1, refl, ap (λ (x : ℕ). symbol * share_of r + x) (sym none))

pub wired : (f : FrameView) (symbol : ℕ) (all coded : List Bool) (sources : List ℕ) → symbol < symbols_of f.rate (length f.octets) → AreCoded f all
    → coded ≡ drop (symbol * share_of f.rate) all → length sources ≡ coded_bits_of f.rate
    → ((slot : ℕ) → slot < length sources → get_or sources slot 0 ≡ source_of_slot f.rate (reach_of f) slot)
    → AreWired f symbol coded sources
unfolding reach_of source_at
wired f symbol all coded sources ls are_coded is_coded len table = record {
  whole = len ∙ coded_bits_of-labels f.rate;
  inside = λ carrier stream bit h. subst (λ (l : List Bool). get_or sources (slot_of f.rate carrier stream bit) 0 < length l)
      (sym is_coded) (within carrier stream bit h);
  found = λ carrier stream bit h. at carrier stream bit h;
}
  where
    r : Rate
    r = f.rate

    start : ℕ
    start = symbol * share_of f.rate

    source : (carrier stream bit : ℕ) → IsLabelSlot f.rate carrier stream bit
        → get_or sources (slot_of f.rate carrier stream bit) 0 ≡ source_at f.rate (reach_of f) carrier stream bit
    source carrier stream bit h =
        let lt : slot_of f.rate carrier stream bit < length sources = omega (arith, slot-below f.rate carrier stream bit h, coded_bits_of-labels f.rate) in
        table (slot_of f.rate carrier stream bit) lt ∙ source-there f.rate (reach_of f) carrier stream bit h

    within : (carrier stream bit : ℕ) → IsLabelSlot f.rate carrier stream bit
        → get_or sources (slot_of f.rate carrier stream bit) 0 < length (drop (symbol * share_of f.rate) all)
    within carrier stream bit h =
        let from = from-symbol f.rate symbol carrier stream bit h in
        let j = (coded_bit_of f.rate (label_bit_at 0 carrier stream bit)).0 in
        let i = (coded_bit_of f.rate (label_bit_at 0 carrier stream bit)).1 in
        let lq = pair-below symbol i (symbols_of f.rate (length f.octets)) (share_of f.rate) ls from.1 in
        let lt = pair-below j (symbol * share_of f.rate + i) (encoders_of f.rate) (symbols_of f.rate (length f.octets) * share_of f.rate) from.0 lq in
        omega (arith, source carrier stream bit h, lt, are_coded.whole, length-drop (symbol * share_of f.rate) all)

    at : (carrier stream bit : ℕ) → IsLabelSlot f.rate carrier stream bit
        → get_or coded (get_or sources (slot_of f.rate carrier stream bit) 0) false
        ≡ get_or (coded_of f (coded_bit_of f.rate (label_bit_at symbol carrier stream bit)).0)
        (coded_bit_of f.rate (label_bit_at symbol carrier stream bit)).1 false
    at carrier stream bit h =
        let from = from-symbol f.rate symbol carrier stream bit h in
        let j = (coded_bit_of f.rate (label_bit_at 0 carrier stream bit)).0 in
        let i = (coded_bit_of f.rate (label_bit_at 0 carrier stream bit)).1 in
        let lq = pair-below symbol i (symbols_of f.rate (length f.octets)) (share_of f.rate) ls from.1 in
        let reach = symbols_of f.rate (length f.octets) * share_of f.rate in
        let place : symbol * share_of f.rate + (j * reach + i) ≡ j * reach + (symbol * share_of f.rate + i) = omega arith in
        ap (λ (l : List Bool). get_or l (get_or sources (slot_of f.rate carrier stream bit) 0) false) is_coded
        ∙ ap (λ (x : ℕ). get_or (drop (symbol * share_of f.rate) all) x false) (source carrier stream bit h)
        ∙ get_or-drop (symbol * share_of f.rate) all (j * reach + i) false
        ∙ ap (λ (x : ℕ). get_or all x false) place
        ∙ are_coded.places j (symbol * share_of f.rate + i) from.0 lq
        ∙ ap (λ (x : ℕ). get_or (coded_of f x) (symbol * share_of f.rate + i) false) (sym from.2)
        ∙ ap (λ (x : ℕ). get_or (coded_of f (coded_bit_of f.rate (label_bit_at symbol carrier stream bit)).0) x false) (sym from.3)

-- a label that is read so has the coded bits that land there
pub label-landed : (f : FrameView) (symbol carrier stream label : ℕ) (coded : List Bool) (sources part : List ℕ) → AreWired f symbol coded sources
    → carrier < data_carriers_of f.rate → 1 ≤ stream → stream ≤ streams_of f.rate
    → part ≡ slice_range sources ((carrier * streams_of f.rate + (stream - 1)) * label_bits_of f.rate)
    ((carrier * streams_of f.rate + (stream - 1)) * label_bits_of f.rate + label_bits_of f.rate)
    → length part ≡ label_bits_of f.rate
    → label < 2 ^ length part
    → ((e : ℕ) → e < length part → (bit_at label (length part - 1 - e) == 1) ≡ get_or coded (get_or part e 0) false)
    → IsLabelOf f symbol carrier stream label
unfolding label_bit slot_of label_bits_of
label-landed f symbol carrier stream label coded sources part h lc low high is_part len below bits = record {
  below = subst (λ (n : ℕ). label < 2 ^ n) len below;
  bits = λ j q bit lands.
      let lb : bit < label_bits_of f.rate = lands.label.bit in
      let is_slot : IsLabelSlot f.rate carrier stream bit = record { carrier_below = lc; stream_low = low; stream_high = high; bit_below = lb } in
      let from = coded_bit_of-only f.rate (label_bit_at symbol carrier stream bit) j q lands in
      let lp : bit < length part = omega arith in
      let source : get_or part bit 0 ≡ get_or sources (slot_of f.rate carrier stream bit) 0 =
      ap (λ (l : List ℕ). get_or l bit 0) is_part
      ∙ part-get sources ((carrier * streams_of f.rate + (stream - 1)) * label_bits_of f.rate) (label_bits_of f.rate) bit lb in
      ap (λ (n : ℕ). bit_at label (n - 1 - bit) == 1) (sym len)
      ∙ bits bit lp
      ∙ ap (λ (x : ℕ). get_or coded x false) source
      ∙ h.found carrier stream bit is_slot
      ∙ ap (λ (z : ℕ × ℕ). get_or (coded_of f z.0) z.1 false) (sym from);
}

-- the table has the sources of each label
pub label-within : (r : Rate) (carrier stream slot b n : ℕ) → carrier < data_carriers_of r → 1 ≤ stream → stream ≤ streams_of r
    → b ≡ label_bits_of r → n ≡ streams_of r → slot ≡ (carrier * n + (stream - 1)) * b
    → slot + b ≤ data_carriers_of r * streams_of r * label_bits_of r
label-within r carrier stream slot b n lc low high db dn ds =
    let st : stream - 1 < n = omega arith in
    let some : 0 < b = omega (arith, label_bits_of-range r) in
    let last : b - 1 < b = omega arith in
    let total : data_carriers_of r * n * b ≡ data_carriers_of r * streams_of r * label_bits_of r =
    ap (λ (x : ℕ). data_carriers_of r * x * b) dn ∙ ap (λ (x : ℕ). data_carriers_of r * streams_of r * x) db in
    omega (arith, digits-below carrier (stream - 1) (b - 1) (data_carriers_of r) n b lc st last)

pub part-inside : (f : FrameView) (symbol carrier stream : ℕ) (coded : List Bool) (sources part : List ℕ) (slot b n : ℕ) → AreWired f symbol coded sources
    → carrier < data_carriers_of f.rate → 1 ≤ stream → stream ≤ streams_of f.rate
    → b ≡ label_bits_of f.rate → n ≡ streams_of f.rate → slot ≡ (carrier * n + (stream - 1)) * b → part ≡ slice_range sources slot (slot + b)
    → (e : ℕ) → e < length part → get_or part e 0 < length coded
unfolding slot_of
part-inside f symbol carrier stream coded sources part slot b n h lc low high db dn ds is_part e lt =
    let whole : length sources ≡ data_carriers_of f.rate * streams_of f.rate * label_bits_of f.rate = h.whole in
    let len : length part ≡ b =
    ap length is_part ∙ part-length sources slot b (omega (arith, label-within f.rate carrier stream slot b n lc low high db dn ds)) in
    let is_slot : IsLabelSlot f.rate carrier stream e = record { carrier_below = lc; stream_low = low; stream_high = high; bit_below = omega arith } in
    let same : slot ≡ (carrier * streams_of f.rate + (stream - 1)) * label_bits_of f.rate =
    ds ∙ ap (λ (x : ℕ). (carrier * x + (stream - 1)) * b) dn ∙ ap (λ (x : ℕ). (carrier * streams_of f.rate + (stream - 1)) * x) db in
    let source : get_or part e 0 ≡ get_or sources ((carrier * streams_of f.rate + (stream - 1)) * label_bits_of f.rate + e) 0 =
    ap (λ (l : List ℕ). get_or l e 0) is_part ∙ part-get sources slot b e (omega arith) ∙ ap (λ (x : ℕ). get_or sources (x + e) 0) same in
    omega (arith, h.inside carrier stream e is_slot, source)

pub data-point : (f : FrameView) (symbol carrier stream : ℕ) (coded : List Bool) (sources part : List ℕ) (slot b n label : ℕ) (m : Modulation) (point : Point)
    → AreWired f symbol coded sources → carrier < data_carriers_of f.rate → 1 ≤ stream → stream ≤ streams_of f.rate
    → b ≡ label_bits_of f.rate → n ≡ streams_of f.rate → slot ≡ (carrier * n + (stream - 1)) * b → part ≡ slice_range sources slot (slot + b)
    → m ≡ modulation_of f.rate → label < 2 ^ length part
    → ((e : ℕ) → e < length part → (bit_at label (length part - 1 - e) == 1) ≡ get_or coded (get_or part e 0) false)
    → point ≡ point_of m label → IsPointOf f symbol carrier stream point
data-point f symbol carrier stream coded sources part slot b n label m point h lc low high db dn ds is_part dm below bits is_point =
    let whole : length sources ≡ data_carriers_of f.rate * streams_of f.rate * label_bits_of f.rate = h.whole in
    let len : length part ≡ b =
    ap length is_part ∙ part-length sources slot b (omega (arith, label-within f.rate carrier stream slot b n lc low high db dn ds)) in
    let same : slot ≡ (carrier * streams_of f.rate + (stream - 1)) * label_bits_of f.rate =
    ds ∙ ap (λ (x : ℕ). (carrier * x + (stream - 1)) * b) dn ∙ ap (λ (x : ℕ). (carrier * streams_of f.rate + (stream - 1)) * x) db in
    let there : part ≡ slice_range sources ((carrier * streams_of f.rate + (stream - 1)) * label_bits_of f.rate)
    ((carrier * streams_of f.rate + (stream - 1)) * label_bits_of f.rate + label_bits_of f.rate) =
    is_part ∙ ap (λ (x : ℕ). slice_range sources x (x + b)) same
    ∙ ap (λ (x : ℕ). slice_range sources ((carrier * streams_of f.rate + (stream - 1)) * label_bits_of f.rate)
    ((carrier * streams_of f.rate + (stream - 1)) * label_bits_of f.rate + x)) db in
    record {
      label = label;
      landed = label-landed f symbol carrier stream label coded sources part h lc low high there (len ∙ db) below bits;
      mapped = is_point ∙ ap (λ (x : Modulation). point_of x label) dm;
    }

-- the label of a data subcarrier is one of its modulation
pub label-below : (f : FrameView) (carrier stream : ℕ) (sources part : List ℕ) (slot b n label : ℕ) (m : Modulation)
    → length sources ≡ data_carriers_of f.rate * streams_of f.rate * label_bits_of f.rate
    → carrier < data_carriers_of f.rate → 1 ≤ stream → stream ≤ streams_of f.rate
    → b ≡ label_bits_of f.rate → n ≡ streams_of f.rate → slot ≡ (carrier * n + (stream - 1)) * b → part ≡ slice_range sources slot (slot + b)
    → m ≡ modulation_of f.rate → label < 2 ^ length part → label < 2 ^ bits_of m
unfolding label_bits_of
label-below f carrier stream sources part slot b n label m whole lc low high db dn ds is_part dm below =
    let len : length part ≡ b =
    ap length is_part ∙ part-length sources slot b (omega (arith, label-within f.rate carrier stream slot b n lc low high db dn ds)) in
    subst (λ (x : ℕ). label < 2 ^ x) (len ∙ db ∙ ap bits_of (sym dm)) below

-- the same, from what the calls give
share-is : (r : Rate) (a b : ℕ) → a ≡ coded_bits_of r → b ≡ encoders_of r → a / b ≡ share_of r
unfolding share_of
share-is r a b da db = ap (λ (x : ℕ). x / b) da ∙ ap (λ (x : ℕ). coded_bits_of r / x) db

pub symbol-starts : (f : FrameView) (r : Rate) (octets : List ℕ) (a b n symbol : ℕ) (all slice : List Bool) → r ≡ f.rate → octets ≡ f.octets
    → a ≡ coded_bits_of r → b ≡ encoders_of r → n ≡ symbols_of r (length octets) → symbol < n → AreCoded f all → slice ≡ all → symbol * (a / b) ≤ length slice
unfolding reach_of
symbol-starts f r octets a b n symbol all slice dr d_o da db dn lt coded ds =
    let share : a / b ≡ share_of f.rate = share-is f.rate a b (da ∙ ap coded_bits_of dr) (db ∙ ap encoders_of dr) in
    let count : n ≡ symbols_of f.rate (length f.octets) =
    dn ∙ ap (λ (x : Rate). symbols_of x (length octets)) dr ∙ ap (λ (x : List ℕ). symbols_of f.rate (length x)) d_o in
    let le : symbol ≤ symbols_of f.rate (length f.octets) = omega arith in
    let reach = symbols_of f.rate (length f.octets) * share_of f.rate in
    let one : 1 * reach ≤ encoders_of f.rate * reach = mul-le-mul_right reach (encoders_of-range f.rate).0 in
    let whole : length all ≡ encoders_of f.rate * reach = coded.whole in
    let place : symbol * (a / b) ≡ symbol * share_of f.rate = ap (λ (x : ℕ). symbol * x) share in
    omega (arith, mul-le-mul_right (share_of f.rate) le, ap length ds)

pub wired-out : (f : FrameView) (r : Rate) (octets : List ℕ) (a b n symbol : ℕ) (all slice coded : List Bool) (items sources : List ℕ)
    → r ≡ f.rate → octets ≡ f.octets
    → a ≡ coded_bits_of r → b ≡ encoders_of r → n ≡ symbols_of r (length octets) → symbol < n → AreCoded f all → slice ≡ all
    → coded ≡ drop (symbol * (a / b)) slice → sources ≡ items → length items ≡ coded_bits_of r
    → ((slot : ℕ) → slot < length items → get_or items slot 0 ≡ source_of_slot r (n * (a / b)) slot) → AreWired f symbol coded sources
unfolding reach_of
wired-out f r octets a b n symbol all slice coded items sources dr d_o da db dn lt are_coded ds dc di len table =
    let share : a / b ≡ share_of f.rate = share-is f.rate a b (da ∙ ap coded_bits_of dr) (db ∙ ap encoders_of dr) in
    let count : n ≡ symbols_of f.rate (length f.octets) =
    dn ∙ ap (λ (x : Rate). symbols_of x (length octets)) dr ∙ ap (λ (x : List ℕ). symbols_of f.rate (length x)) d_o in
    let reach : n * (a / b) ≡ symbols_of f.rate (length f.octets) * share_of f.rate =
    ap (λ (x : ℕ). x * (a / b)) count ∙ ap (λ (x : ℕ). symbols_of f.rate (length f.octets) * x) share in
    subst (λ (l : List ℕ). AreWired f symbol coded l) (sym di)
    (wired f symbol all coded items (omega arith) are_coded
    (dc ∙ ap (λ (x : List Bool). drop (symbol * (a / b)) x) ds ∙ ap (λ (x : ℕ). drop (symbol * x) all) share)
    (len ∙ ap coded_bits_of dr)
    (λ slot l. table slot l ∙ ap (λ (x : Rate). source_of_slot x (n * (a / b)) slot) dr ∙ ap (λ (x : ℕ). source_of_slot f.rate x slot) reach))
