-- The head of a frame, as it was read.
use Rattle.std.proofs.Common.{◌≡◌, ℕ, [], ◌∷◌, sym, ap}
use Rattle.byteorder.specs.Endian.{big_bytes}
use Rattle.ht_io.specs.Devices.{Device, Takes}
use Rattle.ht_io.proofs.Calls.{takes-append}
use Rattle.ht_fields.proofs.Putting.{takes_as}
use Rattle.ht_rate.specs.declared.rates.Rate.{Rate}
use Rattle.ht_rate.specs.Schemes.{bandwidth_code}
use Rattle.ht_rate.specs.Rates.{bandwidth_of, mcs_of}
use Rattle.ht_heads.specs.Heads.{head_octets, rate_octets}

-- bandwidth and MCS
pub takes_code : (rate : Rate) (code : ℕ) (a b c : Device ℕ) → bandwidth_code (bandwidth_of rate) ≡ code
    → Takes a b (code ∷ []) → Takes b c (mcs_of rate ∷ []) → Takes a c (rate_octets rate)
takes_code rate code a b c is x y =
    takes_as a c _ _ (ap (λ n. n ∷ mcs_of rate ∷ []) (sym is)) (takes-append a b c (code ∷ []) (mcs_of rate ∷ []) x y)

-- and the length
pub takes_head : (rate : Rate) (code len : ℕ) (a b c d : Device ℕ) → bandwidth_code (bandwidth_of rate) ≡ code
    → Takes a b (code ∷ []) → Takes b c (mcs_of rate ∷ []) → Takes c d (big_bytes 2 len) → Takes a d (head_octets rate len)
takes_head rate code len a b c d is x y z =
    takes-append a c d (rate_octets rate) (big_bytes 2 len) (takes_code rate code a b c is x y) z
