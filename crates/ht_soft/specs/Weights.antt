-- What a label bit weighs.
use Rattle.std.specs.Prelude.{ℕ, ◌-◌, min, ℤ, pos, negsuc, ◌-ℤ◌, false, true}
use Rattle.ht_rate.specs.declared.kinds.Modulation.{Modulation}
use Rattle.ht_metric.specs.Jobs.{JobView, near}
use Rattle.ht_soft.specs.Halves.{half_of}

-- the size of the heaviest weight
abbrev pub heaviest : ℕ
heaviest = 65535

-- a number cut to the range from -65535 to 65535
abbrev pub cut : ℤ → ℤ
cut (pos n) = pos (min n heaviest)
cut (negsuc n) = negsuc (min n (heaviest - 1))

-- the weight of a bit, from the least distance where it is 0 and the least one where it is 1: the first less the second, cut
unfoldable pub weight_of : ℕ → ℕ → ℤ
weight_of at_zero at_one = cut (pos at_zero -ℤ pos at_one)

-- the weight of bit e of the label on a stream of a job
unfoldable pub weight_at : Modulation → JobView → ℕ → ℕ → ℤ
weight_at m job stream e =
    weight_of (near (half_of m stream e false job.number job)).distance (near (half_of m stream e true job.number job)).distance
