use Rattle.std.proofs.Common.{◌≤◌, ℕ, length, arith}
use Rattle.std.proofs.Math.Facts.{Fits-lt-pow}
use Rattle.ht_fields.specs.Tests.{AreBytes}
use Rattle.ht_library.proofs.MoreSuffices.{check-room}
use Rattle.ht_library.proofs.sizes.mizgaure_check_size.Goals as goal

pub returns-clause-suffices : goal.returns-clause-suffices
returns-clause-suffices c = λ few whole.
    let octets = c.args.file.now in
    let bytes : AreBytes octets = λ i. Fits-lt-pow (c.type_inv.file i) in
    let room = check-room octets bytes whole in
    omega (arith, room, few, c.saturating_mul.ensures, c.saturating_add.ensures)
