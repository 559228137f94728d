-- The tables of the standard, by computation.
use Rattle.std.proofs.Common.{◌≡◌, ℕ, ℤ, pos, negsuc, List, [], ◌∷◌, map, refl, Some, None, true, false}
use Rattle.ht_rate.specs.declared.kinds.Modulation.{Modulation}
use Rattle.ht_rate.specs.declared.kinds.Modulation.TheVariants.{Bpsk, Qpsk, Qam16, Qam64}
use Rattle.ht_pam.specs.declared.point.Point.{Point}
use Rattle.ht_pam.specs.Ladders.{levels}
use Rattle.ht_map.specs.Constellation.{axes_of}
use Rattle.ht_map.specs.Gray.{point_of, label_of, label_bit, level_at, bits_at}

-- the points of labels, as pairs
abbrev points : Modulation → List ℕ → List (ℤ × ℤ)
points m labels = map (λ l. ((point_of m l).i, (point_of m l).q)) labels

-- the levels of an axis of 64-QAM
abbrev levels_of_64 : List ℤ
levels_of_64 = negsuc 6 ∷ negsuc 4 ∷ negsuc 2 ∷ negsuc 0 ∷ pos 1 ∷ pos 3 ∷ pos 5 ∷ pos 7 ∷ []

bpsk_and_qpsk : (points Bpsk (0 ∷ 1 ∷ []) ≡ (negsuc 0, pos 0) ∷ (pos 1, pos 0) ∷ [])
    × (points Qpsk (0b00 ∷ 0b01 ∷ 0b10 ∷ 0b11 ∷ []) ≡ (negsuc 0, negsuc 0) ∷ (negsuc 0, pos 1) ∷ (pos 1, negsuc 0) ∷ (pos 1, pos 1) ∷ [])
unfolding point_of level_at
bpsk_and_qpsk = (refl, refl)

-- I of 16-QAM by the first two bits, here before 10, which is Q = 3, and Q by the last two, here behind 01, which is I = -1
qam16 : (points Qam16 (0b0010 ∷ 0b0110 ∷ 0b1110 ∷ 0b1010 ∷ []) ≡ (negsuc 2, pos 3) ∷ (negsuc 0, pos 3) ∷ (pos 1, pos 3) ∷ (pos 3, pos 3) ∷ [])
    × (points Qam16 (0b0100 ∷ 0b0101 ∷ 0b0111 ∷ 0b0110 ∷ []) ≡ (negsuc 0, negsuc 2) ∷ (negsuc 0, negsuc 0) ∷ (negsuc 0, pos 1) ∷ (negsuc 0, pos 3) ∷ [])
unfolding point_of level_at
qam16 = (refl, refl)

-- I of 64-QAM by the first three bits, here before 000, which is Q = -7, and Q by the last three, here behind 101, which is I = 5
qam64 : (points Qam64 (0b000000 ∷ 0b001000 ∷ 0b011000 ∷ 0b010000 ∷ 0b110000 ∷ 0b111000 ∷ 0b101000 ∷ 0b100000 ∷ [])
    ≡ map {B = ℤ × ℤ} (λ i. (i, negsuc 6)) levels_of_64)
    × (points Qam64 (0b101000 ∷ 0b101001 ∷ 0b101011 ∷ 0b101010 ∷ 0b101110 ∷ 0b101111 ∷ 0b101101 ∷ 0b101100 ∷ [])
    ≡ map {B = ℤ × ℤ} (λ q. (pos 5, q)) levels_of_64)
unfolding point_of level_at
qam64 = (refl, refl)

-- a point and its label, and points off the constellation
abbrev at : ℤ → ℤ → Point
at i q = record { i = i; q = q }

labels : (label_of Qam16 (at (negsuc 0) (pos 1)) ≡ Some 0b0111) × (label_of Qam16 (at (pos 5) (pos 1)) ≡ None) × (label_of Bpsk (at (pos 1) (pos 1)) ≡ None)
unfolding label_of bits_at
labels = (refl, refl, refl)

-- bit 0 is the most significant one
first_and_last_bit : (label_bit Qam64 0b100000 0 ≡ true) × (label_bit Qam64 0b100000 5 ≡ false)
unfolding label_bit
first_and_last_bit = (refl, refl)

-- the levels of the ladders
ladders : (levels (axes_of Bpsk).q ≡ pos 0 ∷ []) × (levels (axes_of Qam16).i ≡ negsuc 2 ∷ negsuc 0 ∷ pos 1 ∷ pos 3 ∷ [])
unfolding axes_of
ladders = (refl, refl)
