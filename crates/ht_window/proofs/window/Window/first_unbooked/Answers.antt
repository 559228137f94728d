use Rattle.std.proofs.Common.{◌≡◌, rules}
use Rattle.std.specs.Prelude.{Some}
use Rattle.ht_window.specs.Windows.{first_unbooked}
use Rattle.ht_window.proofs.Accepts.{first_unbooked_where}
use Rattle.ht_window.proofs.window.Window.first_unbooked.Goals as goal

pub returns-then-is_none-clause-unbooked : goal.returns-then-is_none-clause-unbooked
returns-then-is_none-clause-unbooked c =
    let first : first_unbooked c.args.self.now.slots ≡ Some c.copy.result = search rules in
    first_unbooked_where c.args.self.now.slots c.copy.result first
