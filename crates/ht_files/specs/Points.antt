-- Files of symbols as lists of fields.
use Rattle.std.specs.Prelude.{◌≡◌, ℕ, ◌+◌, ◌-◌, ◌*◌, ◌/◌, ◌<◌, List, [], ◌∷◌, ◌++◌, length, flat_map, slice_index, slice_index_or, nat_eq, Bool, true, false}
use Rattle.std.specs.Prelude.{◌&&◌, is_some, if◌then◌else◌}
use Rattle.std.specs.Int.{cast_signed, cast_unsigned, w8}
use Rattle.std.specs.Ordering.{int_eq}
use Rattle.ht_io.specs.Devices.{Device, Takes}
use Rattle.ht_io.specs.declared.faults.InFault.{InFault}
use Rattle.ht_io.specs.declared.faults.InFault.TheVariants.{Format}
use Rattle.ht_io.specs.declared.faults.Kind.{Kind}
use Rattle.ht_io.specs.declared.faults.Kind.TheVariants.{BadPoint, BadPilot}
use Rattle.ht_fields.specs.Grammar.{Grammar, Due, field, Verdict, Good}
use Rattle.ht_fields.specs.Tests.{checked}
use Rattle.ht_rate.specs.declared.kinds.Carrier.{Carrier}
use Rattle.ht_rate.specs.declared.kinds.Carrier.TheVariants.{Data, Pilot}
use Rattle.ht_rate.specs.declared.rates.Rate.{Rate}
use Rattle.ht_rate.specs.Carriers.{carrier_of}
use Rattle.ht_rate.specs.Rates.{carriers_of, modulation_of, streams_of}
use Rattle.ht_pam.specs.declared.point.Point.{Point}
use Rattle.ht_map.specs.Gray.{label_of}
use Rattle.ht_tx.specs.Symbols.{SymbolsView, pilot_point, points_of}
use Rattle.ht_files.specs.HeadedFormats.{HeadState, HeadedFormat, behind_head, frame_due, grammar_of}
use Rattle.ht_files.specs.Places.{symbol_at_place, carrier_at_place, stream_at_place}

-- behind the head of a frame the next point is due: the frames that are left, this one among them, its rate and length,
-- and the points before, whose number is the place of the next one
pub record PointDue : Type 0 where
  pub left : ℕ
  pub rate : Rate
  pub length : ℕ
  pub points : List Point

-- `HTSY`
abbrev pub symbols_magic : List ℕ
symbols_magic = 72 ∷ 84 ∷ 83 ∷ 89 ∷ []

-- the point of two octets: I and Q, each in two's complement
unfoldable pub point_in : List ℕ → Point
point_in octets = record {
  i = cast_signed w8 (slice_index octets 0);
  q = cast_signed w8 (slice_index octets 1);
}

-- the octets of a point
abbrev pub point_octets : Point → List ℕ
point_octets p = cast_unsigned w8 p.i ∷ cast_unsigned w8 p.q ∷ []

-- both points are the same
abbrev pub same_point : Point → Point → Bool
same_point a b = int_eq a.i b.i && int_eq a.q b.q

-- the point fits its subcarrier: it is on the constellation, or it is the pilot's
abbrev pub fits_carrier : Rate → ℕ → Carrier → ℕ → Point → Bool
fits_carrier r symbol (Data m) stream point = is_some (label_of (modulation_of r) point)
fits_carrier r symbol (Pilot k) stream point = same_point point (pilot_point r symbol k stream)

-- the kind of fault of a point on a subcarrier
abbrev pub kind_on : Carrier → Kind
kind_on (Data m) = BadPoint
kind_on (Pilot k) = BadPilot

-- the two octets are no point of their symbol, subcarrier and stream
unfoldable pub misfits : Rate → ℕ → Carrier → ℕ → List ℕ → Bool
misfits r symbol carrier stream octets = if fits_carrier r symbol carrier stream (point_in octets) then false else true

-- the same of a place, counted from 0 over the points of a frame
abbrev pub misfits_place : Rate → ℕ → List ℕ → Bool
misfits_place r place octets = misfits r (symbol_at_place r place) (carrier_at_place r place) (stream_at_place r place) octets

-- the subcarriers of the points of a symbol, in the order subcarrier, stream
abbrev pub AreCarriers : Rate → List Carrier → Type 0
AreCarriers r carriers =
    (place : ℕ) → place < carriers_of r * streams_of r → slice_index_or carriers place (Data 0) ≡ carrier_of r (place / streams_of r)

-- the octets are those of the points that were added, and of less than one point more
pub record AddsPoints (old new : List Point) (octets : List ℕ) : Type 0 where
  pub added : List Point
  pub rest : List ℕ
  pub points : new ≡ old ++ added
  pub split : octets ≡ flat_map point_octets added ++ rest
  pub short : length rest < 2

-- behind those of the points that were added come two octets that are no point of their place, the fault, and maybe more
pub record MeetsMisfit (r : Rate) (at : ℕ) (old new : List Point) (octets : List ℕ) (fault : InFault) : Type 0 where
  pub added : List Point
  pub bad : List ℕ
  pub rest : List ℕ
  pub points : new ≡ old ++ added
  pub split : octets ≡ flat_map point_octets added ++ (bad ++ rest)
  pub two : length bad ≡ 2
  pub misfit : misfits_place r (length new) bad ≡ true
  pub fault_is : fault ≡ Format (record { kind = kind_on (carrier_at_place r (length new)); offset = at + length (flat_map point_octets added) })

-- the octets that were taken are those of the points that were added, one for each subcarrier and stream of a symbol
abbrev pub TakesSymbol : Rate → List Point → List Point → Device ℕ → Device ℕ → Type 0
TakesSymbol r old new before after =
    (added : List Point) × (new ≡ old ++ added) × (length added ≡ carriers_of r * streams_of r) × Takes before after (flat_map point_octets added)

-- the points with the next one
abbrev pub points_with : PointDue → List ℕ → List Point
points_with due octets = due.points ++ point_in octets ∷ []

-- behind its last point the frame is whole
unfoldable pub good_point : PointDue → List ℕ → Verdict (HeadState PointDue) SymbolsView
good_point due octets =
    if nat_eq (length due.points + 1) (points_of due.rate due.length)
    then Good (frame_due (due.left - 1)) (record { rate = due.rate; length = due.length; points = points_with due octets } ∷ [])
    else Good (behind_head (record { left = due.left; rate = due.rate; length = due.length; points = points_with due octets })) []

-- a point is one field of two octets
abbrev pub point_due : PointDue → Due (HeadState PointDue) SymbolsView
point_due due =
    field 2 (checked (kind_on (carrier_at_place due.rate (length due.points))) (misfits_place due.rate (length due.points)) (good_point due))

-- the next point, behind these
abbrev pub points_due : ℕ → Rate → ℕ → List Point → PointDue
points_due left rate len points = record { left = left; rate = rate; length = len; points = points }

abbrev pub first_point : ℕ → Rate → ℕ → PointDue
first_point left rate len = points_due left rate len []

abbrev pub pointed : HeadedFormat PointDue SymbolsView
pointed = record { magic = symbols_magic; first = first_point; due = point_due }

-- the format
abbrev pub symbols : Grammar (HeadState PointDue) SymbolsView
symbols = grammar_of pointed
