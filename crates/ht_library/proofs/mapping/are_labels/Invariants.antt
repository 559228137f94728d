use Rattle.std.proofs.Common.{ℕ, ◌<◌, ◌^◌, slice_index}
use Rattle.ht_rate.specs.Schemes.{bits_of}
use Rattle.ht_library.proofs.mapping.are_labels.Given as goal

abbrev pub invariant-loop-at : goal.invariant-loop-at
invariant-loop-at l = (k : ℕ) → k < l.at → slice_index l.labels k < 2 ^ bits_of l.fn.modulation
