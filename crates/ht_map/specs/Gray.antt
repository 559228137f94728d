-- Gray mapping (IEEE Std 802.11-2012, clause 20.3.11.9 with tables 18-8 to 18-11 of clause 18.3.5.8), on the
-- whole-number grid: the normalizing factor K_MOD is left to the channel.
use Rattle.std.specs.Prelude.{ℕ, ◌+◌, ◌-◌, ◌*◌, ◌/◌, ◌%◌, ◌^◌, ◌==◌, ℤ, pos, negsuc, List, [], ◌∷◌, Bool, Option, None, Some, if◌then◌else◌}
use Rattle.std.specs.Int.{bit_at}
use Rattle.std.specs.Ordering.{int_eq}
use Rattle.ht_rate.specs.declared.kinds.Modulation.{Modulation}
use Rattle.ht_rate.specs.declared.kinds.Modulation.TheVariants.{Bpsk, Qpsk, Qam16, Qam64}
use Rattle.ht_rate.specs.Schemes.{bits_of}
use Rattle.ht_pam.specs.declared.point.Point.{Point}

-- the levels of one axis from the lowest up, each with the bits that name it as a binary number
abbrev pub Axis : Type 0
Axis = List (ℕ × ℤ)

-- no bit names the one level of Q in BPSK
abbrev pub no_bits : Axis
no_bits = (0, pos 0) ∷ []

-- one bit: I in BPSK (table 18-8), and both axes of QPSK (table 18-9)
abbrev pub one_bit : Axis
one_bit = (0, negsuc 0) ∷ (1, pos 1) ∷ []

-- two bits: the axes of 16-QAM (table 18-10)
abbrev pub two_bits : Axis
two_bits = (0b00, negsuc 2) ∷ (0b01, negsuc 0) ∷ (0b11, pos 1) ∷ (0b10, pos 3) ∷ []

-- three bits: the axes of 64-QAM (table 18-11)
abbrev pub three_bits : Axis
three_bits =
    (0b000, negsuc 6) ∷ (0b001, negsuc 4) ∷ (0b011, negsuc 2) ∷ (0b010, negsuc 0)
    ∷ (0b110, pos 1) ∷ (0b111, pos 3) ∷ (0b101, pos 5) ∷ (0b100, pos 7) ∷ []

-- the axis of I, the real part
abbrev pub i_axis : Modulation → Axis
i_axis Bpsk = one_bit
i_axis Qpsk = one_bit
i_axis Qam16 = two_bits
i_axis Qam64 = three_bits

-- the axis of Q, the imaginary part
abbrev pub q_axis : Modulation → Axis
q_axis Bpsk = no_bits
q_axis Qpsk = one_bit
q_axis Qam16 = two_bits
q_axis Qam64 = three_bits

-- the number of levels of Q: the second half of a label names them, and in BPSK no bit does
abbrev pub q_levels : Modulation → ℕ
q_levels m = 2 ^ (bits_of m / 2)

-- the level that some bits name
unfoldable pub level_at : Axis → ℕ → ℤ
level_at [] bits = pos 0
level_at (step ∷ axis) bits = if step.0 == bits then step.1 else level_at axis bits

-- the bits that name a level, if it is one of the axis
unfoldable pub bits_at : Axis → ℤ → Option ℕ
bits_at [] level = None
bits_at (step ∷ axis) level = if int_eq step.1 level then Some step.0 else bits_at axis level

-- the point of a label below 2 ^ N_BPSCS: its first half names I and its second half names Q
unfoldable pub point_of : Modulation → ℕ → Point
point_of m label = record {
  i = level_at (i_axis m) (label / q_levels m);
  q = level_at (q_axis m) (label % q_levels m);
}

-- the label of the bits of I, and behind them those of Q, which name this number of levels
abbrev pub joined : ℕ → Option ℕ → Option ℕ → Option ℕ
joined levels None q = None
joined levels (Some i) None = None
joined levels (Some i) (Some q) = Some (i * levels + q)

-- the label of a point, if it is one of the constellation
unfoldable pub label_of : Modulation → Point → Option ℕ
label_of m point = joined (q_levels m) (bits_at (i_axis m) point.i) (bits_at (q_axis m) point.q)

-- bit e of a label, bit 0 being the first one and the most significant
unfoldable pub label_bit : Modulation → ℕ → ℕ → Bool
label_bit m label e = bit_at label (bits_of m - 1 - e) == 1
