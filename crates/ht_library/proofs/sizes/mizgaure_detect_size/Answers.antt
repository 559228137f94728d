use Rattle.std.proofs.Common.{◌≤◌, ℕ, length, subst, sym, rules, arith}
use Rattle.std.proofs.Math.Facts.{Fits-lt-pow}
use Rattle.ht_fields.specs.Tests.{AreBytes}
use Rattle.ht_library.proofs.Suffices.{detect-room}
use Rattle.ht_library.proofs.sizes.mizgaure_detect_size.Goals as goal

pub returns-clause-suffices : goal.returns-clause-suffices
returns-clause-suffices c = λ few whole.
    let octets = c.args.capture.now in
    let bytes : AreBytes octets = λ i. Fits-lt-pow (c.type_inv.capture i) in
    let room = detect-room octets bytes whole in
    omega (arith, room, few, c.saturating_mul.ensures)
