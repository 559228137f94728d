-- The points that are sent of a frame, in the order symbol, subcarrier (IEEE Std 802.11-2012, clauses 18.3.5.8 to 18.3.5.10).
use Rattle.std.specs.Prelude.{ℕ, ◌+◌, ◌*◌, pos, List, map, length, Bool, false, slice_index_or}
use Rattle.std.specs.List.{flat_map, range_with_len}
use Rattle.ht_rate.specs.declared.kinds.Carrier.{Carrier}
use Rattle.ht_rate.specs.declared.kinds.Carrier.TheVariants.{Data, Pilot}
use Rattle.ht_pam.specs.declared.point.Point.{Point}
use Rattle.ht_map.specs.Gray.{point_of}
use Rattle.ht_data.specs.Labels.{written}
use Rattle.ht_clause18.specs.declared.rates.LegacyRate.{LegacyRate}
use Rattle.ht_clause18.specs.Carriers.{carriers, carrier_of}
use Rattle.ht_clause18.specs.Coded.{symbol_bits}
use Rattle.ht_clause18.specs.Frames.{LegacyFrameView}
use Rattle.ht_clause18.specs.Interleaver.{interleaved}
use Rattle.ht_clause18.specs.Pilots.{pilot_of}
use Rattle.ht_clause18.specs.Rates.{label_bits_of, modulation_of, symbols_of}

-- the label of data subcarrier m: the N_BPSC bits from place m * N_BPSC on
unfoldable pub label_at : LegacyRate → List Bool → ℕ → ℕ
label_at rate places m = written (λ e. slice_index_or places (m * label_bits_of rate + e) false) (label_bits_of rate)

-- what a subcarrier carries in a symbol with these interleaved bits: the point of its label, or the pilot's value on I
abbrev pub carried : LegacyRate → List Bool → ℕ → Carrier → Point
carried rate places symbol (Data m) = point_of (modulation_of rate) (label_at rate places m)
carried rate places symbol (Pilot k) = record { i = pilot_of symbol k; q = pos 0 }

-- the points of a symbol with these coded bits
unfoldable pub symbol_points : LegacyRate → List Bool → ℕ → List Point
symbol_points rate bits symbol =
    map (λ index. carried rate (interleaved rate bits) symbol (carrier_of index)) (range_with_len 0 carriers)

-- N_SYM * 52, the number of points of a frame
unfoldable pub points_of : LegacyRate → ℕ → ℕ
points_of rate octets = symbols_of rate octets * carriers

-- the points of a frame, symbol after symbol
unfoldable pub sent_points : LegacyFrameView → List Point
sent_points f =
    flat_map (λ n. symbol_points f.rate (symbol_bits f n) n) (range_with_len 0 (symbols_of f.rate (length f.octets)))
