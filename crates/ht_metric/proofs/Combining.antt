-- One more entry of a row.
use Rattle.std.proofs.Common.{◌≡◌, ℕ, ◌+◌, ◌<◌, List, get_or, length, drop, refl, add-one}
use Rattle.std.proofs.Math.Seq.{drop-cons}
use Rattle.ht_metric.specs.Distance.{plus, times, combined}
use Rattle.ht_pam.specs.declared.point.Point.{Point}
use Rattle.ht_metric.specs.declared.tap.Tap.{Tap}

-- the sum from an entry on is the entry's product and the sum behind it
pub combined-drop : (taps : List Tap) (xs : List Point) (k : ℕ) (d : Tap) (e : Point) → k < length taps → k < length xs
    → combined (drop k taps) (drop k xs) ≡ plus (times (get_or taps k d) (get_or xs k e)) (combined (drop (k + 1) taps) (drop (k + 1) xs))
combined-drop taps xs k d e p q = rw (add-one, drop-cons taps k d, drop-cons xs k e) refl
