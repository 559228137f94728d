use Rattle.std.proofs.Common.{ℕ}
use Rattle.std.proofs.Math.Facts.{Fits-lt-pow}
use Rattle.ht_fields.specs.Tests.{AreBytes}
use Rattle.ht_library.proofs.MoreSuffices.{lrx-room}
use Rattle.ht_library.proofs.sizes.mizgaure_lrx_size.Goals as goal

pub returns-clause-suffices : goal.returns-clause-suffices
returns-clause-suffices c = λ whole.
    let octets = c.args.capture.now in
    let bytes : AreBytes octets = λ i. Fits-lt-pow (c.type_inv.capture i) in
    lrx-room octets bytes whole
