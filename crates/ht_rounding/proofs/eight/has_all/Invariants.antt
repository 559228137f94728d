use Rattle.std.proofs.Common.{◌≡◌, ◌<◌, ℕ, slice_index_or}
use Rattle.ht_pam.specs.Grids.{no_axes}
use Rattle.ht_pam.specs.declared.axes.Axes.{Axes}
use Rattle.ht_rounding.proofs.eight.has_all.Given as goal

abbrev pub invariant-loop-stream : goal.invariant-loop-stream
invariant-loop-stream l =
    let all : Axes = record { i = l.fn.i; q = l.fn.q } in
    (j : ℕ) → j < l.stream → slice_index_or l.fn.grid j no_axes ≡ all
