use Rattle.std.proofs.Common.{◌≡◌, ◌-◌, ℕ, rules}
use Rattle.ht_window.proofs.Accepts.{accepts, kept}
use Rattle.ht_window.proofs.window.Window.accept_found.Goals as goal

pub invariant_of-self : goal.invariant_of-self
invariant_of-self c =
    (kept c.self.inside.front (c.number-number.result - c.self.inside.front) c.self.inside.slots c.book.new.slots c.args.job.now c.book.result c.self.invariant
    c.book.ensures.booked.0 c.book.ensures.books c.book.ensures.refused).0

pub returns : goal.returns
returns c =
    let at : ℕ = c.number-number.result - c.self.inside.front in
    let is : at ≡ c.args.job.now.number - c.self.inside.front = search rules in
    rw (← c.self.view_is) (accepts c.self.inside.front at c.self.inside.slots c.book.new.slots c.args.job.now c.book.result c.self.invariant is
    c.book.ensures.booked c.book.ensures.twice c.book.ensures.stranger c.book.ensures.books c.book.ensures.refused)
