use Rattle.std.proofs.Common.{◌≡◌, ◌⊎◌, ◌+◌, ◌<◌, ◌≤◌, pos, ◌-ℤ◌, ◌*ℤ◌}
use Rattle.std.specs.Int.Signed.{◌<ℤ◌, ◌≤ℤ◌}
use Rattle.ht_pam.specs.Ladders.{level}
use Rattle.ht_pam.proofs.zigzag.nearest_by_jumps.Given as goal

-- the nearest level is among `width` levels in a row, the first of them level `at`
abbrev pub invariant-loop-width : goal.invariant-loop-width
invariant-loop-width l = record {
  width : (l.width ≡ 1) ⊎ (l.width ≡ 2) ⊎ (l.width ≡ 4) ⊎ (l.width ≡ 8);
  within : l.at + l.width ≤ l.size;
  below : 0 < l.at → (pos l.d *ℤ (level l.size l.at -ℤ pos 1)) <ℤ l.target;
  above : l.at + l.width < l.size → l.target ≤ℤ (pos l.d *ℤ (level l.size (l.at + l.width) -ℤ pos 1));
}

abbrev pub decreases-loop-width : goal.decreases-loop-width
decreases-loop-width l = l.width
