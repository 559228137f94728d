-- One subcarrier more is counted.
use Rattle.std.proofs.Common.{◌≡◌, ℕ, suc, ◌+◌, ◌-◌, ◌<◌, if◌then◌else◌, ap, arith}
use Rattle.ht_capture.specs.Files.{is_erased, present_among}

pub present_step : (n k e : ℕ) → k < n → present_among (n - k) k e
    ≡ (if is_erased e k then present_among (n - (k + 1)) (k + 1) e else 1 + present_among (n - (k + 1)) (k + 1) e)
present_step n k e within =
    let one : n - k ≡ suc (n - (k + 1)) = omega (arith, within) in
    ap (λ (m : ℕ). present_among m k e) one
