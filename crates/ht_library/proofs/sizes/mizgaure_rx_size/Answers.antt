use Rattle.std.proofs.Common.{◌≤◌, ℕ, length, subst, sym, rules, arith}
use Rattle.std.proofs.Math.Facts.{Fits-lt-pow}
use Rattle.ht_fields.specs.Tests.{AreBytes}
use Rattle.ht_results.specs.Texts.{rx_text}
use Rattle.ht_library.proofs.Suffices.{rx-room}
use Rattle.ht_library.proofs.sizes.mizgaure_rx_size.Goals as goal

pub returns-clause-suffices : goal.returns-clause-suffices
returns-clause-suffices c = λ few whole.
    let octets = c.args.capture.now in
    let bytes : AreBytes octets = λ i. Fits-lt-pow (c.type_inv.capture i) in
    let room = rx-room octets bytes whole in
    subst (λ (n : ℕ). length (rx_text octets) ≤ n) (sym c.room.ensures) room
