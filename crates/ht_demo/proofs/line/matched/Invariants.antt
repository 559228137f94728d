use Rattle.std.proofs.Common.{◌≡◌, ◌+◌, ◌≤◌, drop, length}
use Rattle.ht_demo.specs.Demos.{matched_in}
use Rattle.ht_demo.proofs.line.matched.Given as goal

-- those that came back so far, and those among the frames that are left, are all
abbrev pub invariant-loop-frame : goal.invariant-loop-frame
invariant-loop-frame l =
    (goal.iterator-loop-frame).can_next l.frame-iterator ×
    (goal.iterator-loop-frame).is_finite l.frame-iterator ×
    (l.matched ≤ length l.yielded) ×
    (l.matched + matched_in (drop (length l.yielded) l.frames) (drop (length l.yielded) l.results) ≡ matched_in l.frames l.results)
