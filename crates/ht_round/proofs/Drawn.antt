-- Sample frames can be written as a file, and hold octets.
use Rattle.std.proofs.Common.{ℕ, ◌<◌, ◌≤◌, ◌^◌, arith}
use Rattle.std.proofs.lemmas.Nat.{mod_below}
use Rattle.ht_rate.specs.declared.rates.Rate.{Rate}
use Rattle.ht_tx.specs.Frames.{FrameView}
use Rattle.ht_files.specs.Files.{AreFrames, IsFrame}
use Rattle.ht_round.specs.Returns.{AreOctets}
use Rattle.ht_sim.specs.Samples.{frames_drawn, octet_drawn, sample_frame_drawn}
use Rattle.ht_sim.specs.Words.{first, next, word}
use Rattle.ht_sim.proofs.Drawing.{All-several, length-several}
use Rattle.ht_round.specs.Exact.{HoldOctets}

frame_is : (rate : Rate) (len z : ℕ) → 1 ≤ len → len ≤ 65535 → IsFrame (sample_frame_drawn rate len z).value
unfolding sample_frame_drawn
frame_is rate len z some few =
    let size = length-several octet_drawn len (next z) in
    let low = mod_below (word z) 127 (omega arith) in
    record { seed = (omega arith, omega (arith, low)); octets = (omega (arith, size, some), omega (arith, size, few)) }

octets_are : (rate : Rate) (len z : ℕ) → AreOctets (sample_frame_drawn rate len z).value.octets
unfolding sample_frame_drawn
octets_are rate len z = All-several (λ octet. octet < 2 ^ 8) octet_drawn len (next z) (λ s. mod_below (word s) 256 (omega arith))

pub drawn_frames : (seed : ℕ) (rate : Rate) (len count : ℕ) → 1 ≤ len → len ≤ 65535 → count ≤ 65535 → AreFrames (frames_drawn seed rate len count)
unfolding frames_drawn
drawn_frames seed rate len count some few many =
    let size = length-several (sample_frame_drawn rate len) count (first seed) in
    record {
      some = omega arith;
      few = omega (arith, size, many);
      fit = All-several IsFrame (sample_frame_drawn rate len) count (first seed) (λ z. frame_is rate len z some few);
    }

pub drawn_octets : (seed : ℕ) (rate : Rate) (len count : ℕ) → HoldOctets (frames_drawn seed rate len count)
unfolding frames_drawn
drawn_octets seed rate len count = All-several (λ (f : FrameView). AreOctets f.octets) (sample_frame_drawn rate len) count (first seed) (octets_are rate len)
