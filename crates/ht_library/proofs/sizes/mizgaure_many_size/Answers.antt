use Rattle.std.proofs.Common.{◌≤◌, ◌*◌, ℕ, List, length, subst, sym, arith}
use Rattle.std.proofs.Math.Facts.{Fits-lt-pow}
use Rattle.ht_fields.specs.Tests.{AreBytes}
use Rattle.ht_many.specs.Bundles.{many_text}
use Rattle.ht_library.proofs.MoreSuffices.{many-room}
use Rattle.ht_library.proofs.sizes.mizgaure_many_size.Goals as goal

pub returns-clause-suffices : goal.returns-clause-suffices
returns-clause-suffices c = λ few bundled are is whole.
    let octets = c.args.bundle.now in
    let bytes : AreBytes octets = λ i. Fits-lt-pow (c.type_inv.bundle i) in
    let room : length (many_text bundled) ≤ 17 * length octets =
    subst (λ (o : List ℕ). length (many_text bundled) ≤ 17 * length o) (sym is) (many-room bundled (subst AreBytes is bytes) are whole) in
    omega (arith, room, few, c.saturating_mul.ensures)
