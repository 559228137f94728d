-- What stands in front of the frames of a file, and in front of what a frame has. All numbers are big-endian.
use Rattle.std.specs.Prelude.{◌⊎◌, ℕ, ◌≤◌, ◌<◌, List, [], ◌∷◌, ◌++◌, length, take, slice_index}
use Rattle.byteorder.specs.Endian.{big_bytes}
use Rattle.ht_io.specs.Devices.{Device}
use Rattle.ht_io.specs.declared.faults.InFault.{InFault}
use Rattle.ht_io.specs.declared.faults.Kind.TheVariants.{BadMagic, BadBandwidth, BadMcs, BadLength}
use Rattle.ht_fields.specs.Lacking.{FailsBehind, FailsField}
use Rattle.ht_fields.specs.Tests.{differs, is_above, is_zero}
use Rattle.ht_rate.specs.declared.rates.Rate.{Rate}
use Rattle.ht_rate.specs.Schemes.{bandwidth_code}
use Rattle.ht_rate.specs.Rates.{bandwidth_of, mcs_of}

-- the magic, the version and the number of frames
unfoldable pub start_octets : List ℕ → ℕ → ℕ → List ℕ
start_octets magic version count = magic ++ (version ∷ big_bytes 2 count)

-- the code of a rate's bandwidth, and its MCS index
abbrev pub rate_octets : Rate → List ℕ
rate_octets rate = bandwidth_code (bandwidth_of rate) ∷ mcs_of rate ∷ []

-- the head of a frame: bandwidth, MCS and length
abbrev pub head_octets : Rate → ℕ → List ℕ
head_octets rate len = bandwidth_code (bandwidth_of rate) ∷ mcs_of rate ∷ big_bytes 2 len

-- why the magic was not read: behind the octets of it that were there comes another one, or none
abbrev pub MagicFails : List ℕ → ℕ → Device ℕ → Device ℕ → InFault → Type 0
MagicFails magic at before after fault =
    (k : ℕ) × (k < length magic) × FailsBehind (take k magic) 1 BadMagic (differs (slice_index magic k)) at before after fault

-- why the head of a frame was not read: its bandwidth, its MCS or its length
abbrev pub HeadFails : ℕ → Device ℕ → Device ℕ → InFault → Type 0
HeadFails at before after fault =
    FailsField 1 BadBandwidth (is_above 1) at before after fault
    ⊎ (((code : ℕ) × (code ≤ 1) × FailsBehind (code ∷ []) 1 BadMcs (is_above 31) at before after fault)
    ⊎ ((rate : Rate) × FailsBehind (rate_octets rate) 2 BadLength is_zero at before after fault))
