-- What the labels of a frame say of the coded bits of an encoder (IEEE Std 802.11-2012, clauses 20.3.11.8 and 20.3.11.9).
use Rattle.std.specs.Prelude.{ℕ, ◌+◌, ◌-◌, ◌*◌, List, map, slice_index_or, Bool, Option, None, Some, if◌then◌else◌}
use Rattle.std.specs.List.{range_with_len}
use Rattle.ht_bits.specs.Bits.{bit}
use Rattle.ht_rate.specs.declared.rates.Rate.{Rate}
use Rattle.ht_rate.specs.declared.kinds.Carrier.TheVariants.{Data}
use Rattle.ht_rate.specs.Carriers.{index_of}
use Rattle.ht_rate.specs.Rates.{data_carriers_of, label_bits_of, modulation_of, pattern_of, steps_of, streams_of, symbols_of}
use Rattle.ht_conv.specs.Puncturing.{sent_count}
use Rattle.ht_map.specs.Gray.{label_bit}
use Rattle.ht_landing.specs.Landings.{landing_of}

-- the labels of a symbol: N_SD * N_SS
abbrev pub labels_per_symbol : Rate → ℕ
labels_per_symbol r = data_carriers_of r * streams_of r

-- the labels of a frame whose PSDU has this number of octets
abbrev pub labels_in_frame : Rate → ℕ → ℕ
labels_in_frame r octets = symbols_of r octets * labels_per_symbol r

-- the number of a label in the frame, in the order symbol, data subcarrier, stream; streams count from 1
abbrev pub label_number : Rate → ℕ → ℕ → ℕ → ℕ
label_number r symbol carrier stream = (symbol * data_carriers_of r + carrier) * streams_of r + (stream - 1)

-- the data subcarrier of this number is erased: bit c of `erased` is that of subcarrier c
unfoldable pub is_lost : Rate → ℕ → ℕ → Bool
is_lost r erased carrier = bit erased (index_of r (Data carrier))

-- coded bit q of encoder j as it was received: the label bit where it lands, and nothing on an erased subcarrier
unfoldable pub received_at : Rate → ℕ → List ℕ → ℕ → ℕ → Option Bool
received_at r erased labels j q =
    let l = landing_of r j q in
    let label = slice_index_or labels (label_number r l.symbol l.carrier l.stream) 0 in
    if is_lost r erased l.carrier then None else Some (label_bit (modulation_of r) label l.bit)

-- the received list of encoder j: the coded bits of its codeword, which ends with the tail
unfoldable pub received_of : Rate → ℕ → ℕ → List ℕ → ℕ → List (Option Bool)
received_of r octets erased labels j = map (received_at r erased labels j) (range_with_len 0 (sent_count (pattern_of r) (steps_of r octets)))

-- the same of any values, one for each label bit in the order symbol, data subcarrier, stream, bit: `lost` on an erased
-- subcarrier
unfoldable pub value_at : {V : Type 0} → V → Rate → ℕ → List V → ℕ → ℕ → V
value_at lost r erased values j q =
    let l = landing_of r j q in
    if is_lost r erased l.carrier then lost
    else slice_index_or values (label_number r l.symbol l.carrier l.stream * label_bits_of r + l.bit) lost

unfoldable pub values_of : {V : Type 0} → V → Rate → ℕ → ℕ → List V → ℕ → List V
values_of lost r octets erased values j = map (value_at lost r erased values j) (range_with_len 0 (sent_count (pattern_of r) (steps_of r octets)))
