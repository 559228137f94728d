-- How many data bits a symbol has at most.
use Rattle.std.proofs.Common.{◌≡◌, ◌*◌, ◌≤◌, nat_le, refl}
use Rattle.std.proofs.lemmas.Bool.{leb-true}
use Rattle.ht_rate.specs.declared.rates.Rate.{Rate}
use Rattle.ht_rate.specs.Rates.{carriers_of, coded_bits_of, data_bits_of, data_carriers_of, label_bits_of, modulation_of}
use Rattle.ht_rate.specs.Rates.{pattern_of, pilots_of, stream_bits_of, streams_of}
use Rattle.ht_rate.proofs.AllRates.{each_bandwidth, each_streams, each_scheme, each_rate, at_rate}

-- the bits of a symbol on each subcarrier and stream, and on each stream
pub bits-spread : (r : Rate) → data_bits_of r ≤ 5 * (carriers_of r * streams_of r)
unfolding data_bits_of pattern_of coded_bits_of streams_of stream_bits_of carriers_of data_carriers_of pilots_of label_bits_of modulation_of each_bandwidth
    each_streams each_scheme each_rate
bits-spread r = leb-true _ _ (at_rate (λ r. nat_le (data_bits_of r) (5 * (carriers_of r * streams_of r))) refl r)

pub bits-few : (r : Rate) → data_bits_of r ≤ 540 * streams_of r
unfolding data_bits_of pattern_of coded_bits_of streams_of stream_bits_of data_carriers_of label_bits_of modulation_of each_bandwidth each_streams
    each_scheme each_rate
bits-few r = leb-true _ _ (at_rate (λ r. nat_le (data_bits_of r) (540 * streams_of r)) refl r)
