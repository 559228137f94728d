-- The grid of a rate that has a modulation and a number of streams.
use Rattle.std.proofs.Common.{◌≡◌, ℕ, zero, suc, ◌+◌, ◌-◌, ◌*◌, ◌≤◌, refl, arith}
use Rattle.ht_rate.specs.declared.kinds.Modulation.{Modulation}
use Rattle.ht_rate.specs.declared.kinds.Modulation.TheVariants.{Bpsk, Qpsk, Qam16, Qam64}
use Rattle.ht_rate.specs.Rates.{rate_at, modulation_of, streams_of}
use Rattle.ht_map.specs.Constellation.{grid_of}
use Rattle.ht_cert.specs.Records.{full_grid}
use Rattle.ht_cert.specs.Schemes.{scheme_of}

pub grid_is : (m : Modulation) (streams : ℕ) → 1 ≤ streams → streams ≤ 4 → grid_of (rate_at 0 (8 * (streams - 1) + scheme_of m)) ≡ full_grid m streams
unfolding grid_of rate_at modulation_of streams_of
grid_is m zero some few = absurd (omega arith)
grid_is Bpsk (suc zero) some few = refl
grid_is Qpsk (suc zero) some few = refl
grid_is Qam16 (suc zero) some few = refl
grid_is Qam64 (suc zero) some few = refl
grid_is Bpsk (suc (suc zero)) some few = refl
grid_is Qpsk (suc (suc zero)) some few = refl
grid_is Qam16 (suc (suc zero)) some few = refl
grid_is Qam64 (suc (suc zero)) some few = refl
grid_is Bpsk (suc (suc (suc zero))) some few = refl
grid_is Qpsk (suc (suc (suc zero))) some few = refl
grid_is Qam16 (suc (suc (suc zero))) some few = refl
grid_is Qam64 (suc (suc (suc zero))) some few = refl
grid_is Bpsk (suc (suc (suc (suc zero)))) some few = refl
grid_is Qpsk (suc (suc (suc (suc zero)))) some few = refl
grid_is Qam16 (suc (suc (suc (suc zero)))) some few = refl
grid_is Qam64 (suc (suc (suc (suc zero)))) some few = refl
grid_is m (suc (suc (suc (suc (suc n))))) some few = absurd (omega arith)
