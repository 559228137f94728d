-- What the labels of a frame say of its coded bits (IEEE Std 802.11-2012, clauses 18.3.5.7 and 18.3.5.8 backwards).
use Rattle.std.specs.Prelude.{ℕ, ◌+◌, ◌*◌, ◌/◌, ◌%◌, List, map, slice_index_or, Bool, Option, Some}
use Rattle.std.specs.List.{range_with_len}
use Rattle.ht_conv.specs.Puncturing.{sent_count}
use Rattle.ht_map.specs.Gray.{label_bit}
use Rattle.ht_inverse.specs.Shares.{is_one}
use Rattle.ht_clause18.specs.declared.rates.LegacyRate.{LegacyRate}
use Rattle.ht_clause18.specs.Interleaver.{place_of}
use Rattle.ht_clause18.specs.Rates.{coded_bits_of, label_bits_of, modulation_of, needed_bits, pattern_of, symbols_of}

-- the labels of a symbol, one for each data subcarrier
abbrev pub labels_per_symbol : ℕ
labels_per_symbol = 48

-- the labels of a frame whose PSDU has this number of octets
abbrev pub labels_in_frame : LegacyRate → ℕ → ℕ
labels_in_frame r octets = symbols_of r octets * labels_per_symbol

-- the number of a label in the frame, in the order symbol, data subcarrier
abbrev pub label_number : ℕ → ℕ → ℕ
label_number symbol carrier = symbol * labels_per_symbol + carrier

-- what stands at a place of a symbol: each N_BPSC places in turn are the label of the next data subcarrier
abbrev pub at_place : LegacyRate → List ℕ → ℕ → ℕ → Bool
at_place r labels symbol place =
    label_bit (modulation_of r) (slice_index_or labels (label_number symbol (place / label_bits_of r)) 0) (place % label_bits_of r)

-- coded bit q as it was received: each symbol has the next N_CBPS, each at its place
unfoldable pub received_at : LegacyRate → List ℕ → ℕ → Option Bool
received_at r labels q = Some (at_place r labels (q / coded_bits_of r) (place_of r (q % coded_bits_of r)))

-- the received list: the coded bits of SERVICE, of the octets and of the tail
unfoldable pub received_of : LegacyRate → ℕ → List ℕ → List (Option Bool)
received_of r octets labels = map (received_at r labels) (range_with_len 0 (sent_count (pattern_of r) (needed_bits octets)))

-- what an octet says that isn't 0 where the coded bit was received as 1
unfoldable pub told_by : ℕ → Option Bool
told_by mark = Some (is_one mark)
