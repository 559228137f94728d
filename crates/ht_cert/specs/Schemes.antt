-- The MCS of one stream that has a modulation.
use Rattle.std.specs.Prelude.{ℕ}
use Rattle.ht_rate.specs.declared.kinds.Modulation.{Modulation}
use Rattle.ht_rate.specs.declared.kinds.Modulation.TheVariants.{Bpsk, Qpsk, Qam16, Qam64}

-- that of its lowest coding rate (IEEE Std 802.11-2012, clause 20.6)
abbrev pub scheme_of : Modulation → ℕ
scheme_of Bpsk = 0
scheme_of Qpsk = 1
scheme_of Qam16 = 3
scheme_of Qam64 = 5
