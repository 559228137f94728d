-- The sizes of each of the 64 rates, by a test of all.
use Rattle.std.proofs.Common.{◌≡◌, ℕ, ◌*◌, ◌<◌, ◌≤◌, nat_eq, refl, arith}
use Rattle.std.proofs.lemmas.Bool.{eqb-true}
use Rattle.ht_rate.specs.declared.rates.Rate.{Rate}
use Rattle.ht_rate.specs.Rates.{bandwidth_of, streams_of, mcs_of, data_carriers_of, label_bits_of}
use Rattle.ht_rate.specs.Rates.{stream_bits_of, coded_bits_of, encoders_of, modulation_of, axis_bits_of}
use Rattle.ht_rate.proofs.RateFacts.{streams_of-range, encoders_of-range, axis_bits_of-range}
use Rattle.ht_rate.proofs.AllRates.{each_bandwidth, each_streams, each_scheme, each_rate, at_rate, is_within, is_within-true}
use Rattle.ht_parse.specs.Streams.{share_of}
use Rattle.ht_parse.specs.Groups.{rounds_of, AreSizes}

pub rounds_of-range : (r : Rate) → (1 ≤ rounds_of r) × (rounds_of r ≤ 216)
unfolding rounds_of axis_bits_of encoders_of mcs_of bandwidth_of streams_of stream_bits_of data_carriers_of label_bits_of modulation_of is_within
    each_bandwidth each_streams each_scheme each_rate
rounds_of-range r = is_within-true 1 216 (rounds_of r) (at_rate (λ r. is_within 1 216 (rounds_of r)) refl r)

pub stream_bits_of-groups : (r : Rate) → encoders_of r * axis_bits_of r * rounds_of r ≡ stream_bits_of r
unfolding rounds_of axis_bits_of encoders_of mcs_of bandwidth_of streams_of stream_bits_of data_carriers_of label_bits_of modulation_of each_bandwidth
    each_streams each_scheme each_rate
stream_bits_of-groups r = eqb-true _ _ (at_rate (λ r. nat_eq (encoders_of r * axis_bits_of r * rounds_of r) (stream_bits_of r)) refl r)

pub share_of-groups : (r : Rate) → streams_of r * axis_bits_of r * rounds_of r ≡ share_of r
unfolding share_of coded_bits_of rounds_of axis_bits_of encoders_of mcs_of bandwidth_of streams_of stream_bits_of data_carriers_of label_bits_of
    modulation_of each_bandwidth each_streams each_scheme each_rate
share_of-groups r = eqb-true _ _ (at_rate (λ r. nat_eq (streams_of r * axis_bits_of r * rounds_of r) (share_of r)) refl r)

pub coded_bits_of-streams : (r : Rate) → streams_of r * stream_bits_of r ≡ coded_bits_of r
unfolding coded_bits_of
coded_bits_of-streams r = refl

-- numbers that are those of a rate are small, and their products are its numbers of bits
pub sizes-small : (r : Rate) (e n s m : ℕ) → AreSizes r e n s m → (e ≤ 2) × (n ≤ 4) × (s ≤ 3) × (m ≤ 216)
sizes-small r e n s m a =
    let de = a.encoders_is in let dn = a.streams_is in let ds = a.group_is in let dm = a.rounds_is in
    (omega (arith, encoders_of-range r), omega (arith, streams_of-range r), omega (arith, axis_bits_of-range r), omega (arith, rounds_of-range r))

pub sizes-low : (r : Rate) (e n s m : ℕ) → AreSizes r e n s m → (0 < e) × (0 < n) × (0 < s) × (0 < m)
sizes-low r e n s m a =
    let de = a.encoders_is in let dn = a.streams_is in let ds = a.group_is in let dm = a.rounds_is in
    (omega (arith, encoders_of-range r), omega (arith, streams_of-range r), omega (arith, axis_bits_of-range r), omega (arith, rounds_of-range r))

pub sizes-stream : (r : Rate) (e n s m : ℕ) → AreSizes r e n s m → e * s * m ≡ stream_bits_of r
sizes-stream r e n s m a = let groups = stream_bits_of-groups r in let de = a.encoders_is in let ds = a.group_is in let dm = a.rounds_is in cc

pub sizes-share : (r : Rate) (e n s m : ℕ) → AreSizes r e n s m → n * s * m ≡ share_of r
sizes-share r e n s m a = let groups = share_of-groups r in let dn = a.streams_is in let ds = a.group_is in let dm = a.rounds_is in cc

pub sizes-symbol : (r : Rate) (e n s m : ℕ) → AreSizes r e n s m → n * (e * s * m) ≡ coded_bits_of r
sizes-symbol r e n s m a =
    let whole = coded_bits_of-streams r in let stream = sizes-stream r e n s m a in let dn = a.streams_is in cc
