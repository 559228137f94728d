-- The three steps of the HT interleaver, and back (IEEE Std 802.11-2012, clause 20.3.11.8).
use Rattle.std.specs.Prelude.{ℕ, ◌+◌, ◌-◌, ◌*◌, ◌/◌, ◌%◌}
use Rattle.ht_rate.specs.declared.kinds.Bandwidth.{Bandwidth}
use Rattle.ht_rate.specs.declared.kinds.Bandwidth.TheVariants.{Mhz20, Mhz40}
use Rattle.ht_rate.specs.declared.rates.Rate.{Rate}
use Rattle.ht_rate.specs.Rates.{bandwidth_of, label_bits_of, stream_bits_of, axis_bits_of}

-- table 20-17 has a column for each bandwidth
abbrev pub at_bandwidth : Bandwidth → ℕ → ℕ → ℕ
at_bandwidth Mhz20 narrow wide = narrow
at_bandwidth Mhz40 narrow wide = wide

-- N_COL
unfoldable pub columns_of : Rate → ℕ
columns_of rate = at_bandwidth (bandwidth_of rate) 13 18

-- N_ROW
unfoldable pub rows_of : Rate → ℕ
rows_of rate = at_bandwidth (bandwidth_of rate) 4 6 * label_bits_of rate

-- N_ROT
unfoldable pub rotation_of : Rate → ℕ
rotation_of rate = at_bandwidth (bandwidth_of rate) 11 29

-- the number of places that a stream is rotated by: 0, 2, 1 and 3 times N_ROT * N_BPSCS for the streams 1 to 4
unfoldable pub turn_of : Rate → ℕ → ℕ
turn_of rate stream = ((2 * (stream - 1)) % 3 + 3 * ((stream - 1) / 3)) * rotation_of rate * label_bits_of rate

module _ (rate : Rate) where
  -- first: written into rows, read from columns
  unfoldable pub first : ℕ → ℕ
  first k = rows_of rate * (k % columns_of rate) + k / columns_of rate

  -- second: neighbours go to more and to less significant bits in turn
  unfoldable pub second : ℕ → ℕ
  second i =
      axis_bits_of rate * (i / axis_bits_of rate)
      + (i + stream_bits_of rate - columns_of rate * i / stream_bits_of rate) % axis_bits_of rate

  -- third: rotated, j - turn counted round the N_CBPSS places
  unfoldable pub third : ℕ → ℕ → ℕ
  third stream j = (j + stream_bits_of rate - turn_of rate stream) % stream_bits_of rate

  -- back from the third
  unfoldable pub third_back : ℕ → ℕ → ℕ
  third_back stream r = (r + turn_of rate stream) % stream_bits_of rate

  -- back from the second
  unfoldable pub second_back : ℕ → ℕ
  second_back j =
      axis_bits_of rate * (j / axis_bits_of rate) + (j + columns_of rate * j / stream_bits_of rate) % axis_bits_of rate

  -- back from the first
  unfoldable pub first_back : ℕ → ℕ
  first_back i = columns_of rate * i - (stream_bits_of rate - 1) * (i / rows_of rate)
